-- The items that a link change drops: at most one, if its record has no number left for a change of its
-- scan list.
use Rattle.std.proofs.Common.{◌≡◌, ℕ, ◌+◌, ◌-◌, ◌^◌, Bool, true, false, cond, nat_lt, List, [], ◌∷◌, ◌++◌, length, Option, Some, None as Nothing_, Ok, refl, sym, ap, ap₂, ◌∙◌, subst}
use Rattle.std.specs.Prelude.{nat_eq, unwrap_or}
use Rattle.std.specs.Cmp.Lexicographic.{pointwise}
use Rattle.std.specs.FinMap.{get}
use Rattle.ioc_values.specs.declared.error.IocError.{IocError}
use Rattle.ioc_fields.specs.declared.field_no.FieldNo.{FieldNo}
use Rattle.ioc_dbcommon.specs.declared.link_field.LinkField.{LinkField}
use Rattle.ioc_dbcommon.specs.Steps.{change_numbered}
use Rattle.ioc_ledger.specs.Requests.{more}
use Rattle.ioc_record.specs.RecordRules.{RecordRules}
use Rattle.ioc_store.specs.declared.outbox.OutboxItem.{OutboxItem}
use Rattle.ioc_store.specs.declared.scan_change.ScanChange.{ScanChange}
use Rattle.ioc_store.specs.declared.outbox.OutboxItem.TheVariants.{Change}
use Rattle.ioc_store.specs.World.{World, at, common_at, put, changed, sent, lost, begun, begun_at}
use Rattle.ioc_store.specs.Worlds.{at-put_same}
use Rattle.ioc_store.specs.Scanning.{device_of, moved, rewired, with_link_changed}
use Rattle.ioc_store.specs.Given.{Answers, listed}
use Rattle.ioc_events.specs.declared.event.Call.{Call}
use Rattle.ioc_events.specs.declared.event.Call.TheVariants as call
use Rattle.ioc_events.specs.Calls.{Called, called, linked}
use Rattle.ioc_events.specs.Step.{link_refusal}
use Rattle.ioc_journal.specs.declared.entry.Note.{Note}
use Rattle.ioc_journal.specs.Key.{Key}
use Rattle.ioc_journal.specs.Legal.{IsLegal, Fits, done, map_of}
use Rattle.ioc_journal.specs.LinkChange.{link_note}
use Rattle.ioc_journal.specs.Counting.{sent_by, sent_counts}
use Rattle.ioc_journal.proofs.Counting.{links-nothing}
use Rattle.ioc_journal.proofs.Lists.{legal-right}

module _ {R : Type 0} (k : RecordRules R) where
  -- The number of dropped items after a change of a record's scan list is sent, by the record, the
  -- number before, and the items that were sent before.
  abbrev moves-drop : R → ℕ → List OutboxItem → ℕ
  moves-drop r dropped items = cond (nat_lt (k.common r).last_change (2 ^ 64 - 1)) (cond (nat_lt (length items) 256) dropped (more dropped)) (more dropped)

  -- The same if its device link had this text before.
  abbrev pub rewires-drop : List ℕ → R → ℕ → List OutboxItem → ℕ
  rewires-drop before r dropped items = cond (pointwise nat_eq before (device_of k r)) dropped (moves-drop r dropped items)

  moved-drops : (w : World R) (n : ℕ) → (moved k w n).dropped ≡ moves-drop (at k w n) w.dropped w.outbox
  unfolding moved sent lost changed put
  moved-drops w n =
      let last = (common_at k w n).last_change in
      let c : ScanChange = record { target = n; number = last + 1; scanning = (common_at k w n).scanning; device = device_of k (at k w n) } in
      elim (nat_lt last (2 ^ 64 - 1)) as (λ b. (cond b (sent (Change c) (changed k w n change_numbered)) (lost w)).dropped ≡ cond b (cond (nat_lt (length w.outbox) 256) w.dropped (more w.dropped)) (more w.dropped)) [
        | true ↦ elim (nat_lt (length w.outbox) 256) as (λ b. (cond b (record (changed k w n change_numbered) { outbox = w.outbox ++ Change c ∷ [] }) (record (changed k w n change_numbered) { dropped = more w.dropped })).dropped ≡ cond b w.dropped (more w.dropped)) [
          | true ↦ refl
          | false ↦ refl
        ]
        | false ↦ refl
      ]

  pub rewired-drops : (before : List ℕ) (w : World R) (n : ℕ) → (rewired k before w n).dropped ≡ rewires-drop before (at k w n) w.dropped w.outbox
  unfolding rewired
  rewired-drops before w n =
      elim (pointwise nat_eq before (device_of k (at k w n))) as (λ b. (cond b w (moved k w n)).dropped ≡ cond b w.dropped (moves-drop (at k w n) w.dropped w.outbox)) [
        | true ↦ refl
        | false ↦ moved-drops w n
      ]

  -- The number of items that a link change drops, by the record before it.
  abbrev pub links-drop : R → FieldNo → LinkField → ℕ
  links-drop r field link = rewires-drop (device_of k r) (k.with_link r field link) 0 []

  -- Of an event that begins on a world.
  pub begun-rewired-drops : (before : List ℕ) (w : World R) (moment n : ℕ) → (rewired k before (begun_at moment w) n).dropped ≡ rewires-drop before (at k w n) 0 []
  unfolding at begun begun_at
  begun-rewired-drops before w moment n = rewired-drops before (begun_at moment w) n

  pub changed-drops : (w : World R) (moment s : ℕ) (field : FieldNo) (link : LinkField) → (with_link_changed k (begun_at moment w) s field link).dropped ≡ links-drop (at k w s) field link
  unfolding at begun begun_at put
  changed-drops w moment s field link =
      let a = begun_at moment w in
      let r = at k w s in
      rewired-drops (device_of k r) (put a s (k.with_link r field link)) s
      ∙ ap (λ (x : R). rewires-drop (device_of k r) x 0 []) (at-put_same k a s (k.with_link r field link))

  module _ (answers : Answers) where
    taken-world : (w : World R) (s : ℕ) (field : FieldNo) (link : LinkField) (refusal : Option IocError) → call.Link s field link (Ok tt) ≡ (linked k answers w s field link refusal).call
        → (linked k answers w s field link refusal).world ≡ with_link_changed k w s field link
    taken-world w s field link Nothing_ is = refl
    taken-world w s field link (Some e) is = cc

    called-world : (w : World R) (s : ℕ) (field : FieldNo) (link : LinkField) → call.Link s field link (Ok tt) ≡ (called k answers w (call.Link s field link (Ok tt))).call
        → (called k answers w (call.Link s field link (Ok tt))).world ≡ with_link_changed k w s field link
    unfolding called
    called-world w s field link is = taken-world w s field link (link_refusal k w s field link) is

  -- A link change that is done sends no once request, and drops what its record tells.
  pub link-sends : (m : World R) (desk call moment s : ℕ) (field : FieldNo) (link : LinkField) (keys : List Key) → Fits k m (link_note desk call moment s field link keys)
      → sent_by k m (link_note desk call moment s field link keys) ≡ sent_counts 0 (links-drop (at k m s) field link)
  unfolding done
  link-sends m desk call moment s field link keys fits =
      let n = link_note desk call moment s field link keys in
      let world = called-world (listed []) (begun_at moment m) s field link fits.reply in
      ap₂ sent_counts (links-nothing k m n refl).1 (ap (λ (w : World R). w.dropped) world ∙ changed-drops m moment s field link)

  pub link-sends_after : (base : World R) (log : List Note) (desk call moment s : ℕ) (field : FieldNo) (link : LinkField) (keys : List Key) → IsLegal k base (log ++ link_note desk call moment s field link keys ∷ [])
      → sent_by k (map_of k base log) (link_note desk call moment s field link keys) ≡ sent_counts 0 (links-drop (at k (map_of k base log) s) field link)
  link-sends_after base log desk call moment s field link keys legal =
      link-sends (map_of k base log) desk call moment s field link keys (legal-right k log (link_note desk call moment s field link keys ∷ []) base legal).0
