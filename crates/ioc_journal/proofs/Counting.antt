-- The counts of events.
use Rattle.std.proofs.Common.{◌≡◌, ℕ, ◌+◌, ◌-◌, ◌^◌, Bool, true, false, cond, nat_lt, List, [], ◌∷◌, ◌++◌, length, refl, sym, ap, ◌∙◌}
use Rattle.std.specs.Prelude.{nat_eq, Option, Some, Err}
use Rattle.std.specs.Prelude.{None as Nothing_}
use Rattle.std.specs.Cmp.Lexicographic.{pointwise}
use Rattle.ioc_ledger.specs.declared.tally.Tally.{Tally}
use Rattle.ioc_values.specs.declared.error.IocError.{IocError}
use Rattle.ioc_fields.specs.declared.field_no.FieldNo.{FieldNo}
use Rattle.ioc_dbcommon.specs.declared.link_field.LinkField.{LinkField}
use Rattle.ioc_dbcommon.specs.Steps.{change_numbered}
use Rattle.ioc_ledger.specs.Requests.{Requests, None, counted_all, more}
use Rattle.ioc_notify.specs.Living.{is_live}
use Rattle.ioc_record.specs.RecordRules.{RecordRules}
use Rattle.ioc_record.specs.Laws.{IsLawful}
use Rattle.ioc_store.specs.declared.call.Call.{Call as DeviceCall}
use Rattle.ioc_store.specs.declared.outbox.OutboxItem.{OutboxItem}
use Rattle.ioc_store.specs.declared.scan_change.ScanChange.{ScanChange}
use Rattle.ioc_store.specs.declared.outbox.OutboxItem.TheVariants.{Once, Post, Change}
use Rattle.ioc_store.specs.World.{World, at, common_at, put, changed, sent, lost, begun, begun_at}
use Rattle.ioc_store.specs.Scanning.{device_of, moved, rewired}
use Rattle.ioc_store.specs.Given.{Answers, listed, later_among}
use Rattle.ioc_events.specs.declared.event.Call.{Call}
use Rattle.ioc_events.specs.declared.event.Call.TheVariants as call
use Rattle.ioc_events.specs.Calls.{Called, called, linked}
use Rattle.ioc_events.specs.Step.{shown, link_refusal}
use Rattle.ioc_journal.specs.declared.entry.Note.{Note}
use Rattle.ioc_journal.specs.Legal.{entry_of, done, map_of}
use Rattle.ioc_journal.specs.Counting.{is_completion, tallied_by, once_by, once_in, sent_counts, sent_in, nothing_sent}
use Rattle.ioc_journal.specs.CountLaws.{counts_nothing, is_link_change, PartsCountAlike, QuestionsCountNothing, LinksCountNothing}
use Rattle.ioc_journal.specs.EventLaws.{EventLaws}
use Rattle.ioc_journal.proofs.Doing.{agree, sound-on}

module _ {R : Type 0} (k : RecordRules R) where
  -- What an event counts, by its requests, its calls and its reply.
  pub tallied-is : (t : Tally) (m : World R) (n : Note)
      → tallied_by k t m n ≡ counted_all t (done k m n).requests (later_among (done k m n).world.calls) (is_completion (done k m n).call)
  unfolding begun begun_at
  tallied-is t m n = refl

  pub parts-alike : IsLawful k → EventLaws k → PartsCountAlike k
  parts-alike lawful laws base v log n sound legal holds of =
      let m = map_of k base log in
      let both = agree k lawful laws m v n (sound-on k laws log base sound legal) holds of in
      record {
        tally = λ t. tallied-is t m n
            ∙ ap (λ (r : Requests). counted_all t r (later_among (done k m n).world.calls) (is_completion (done k m n).call)) (sym both.requests)
            ∙ ap (λ (cs : List DeviceCall). counted_all t (done k v n).requests (later_among cs) (is_completion (done k m n).call)) (sym both.alike.same.calls)
            ∙ ap (λ (made : Call). counted_all t (done k v n).requests (later_among (done k v n).world.calls) (is_completion made)) (sym both.call)
            ∙ sym (tallied-is t v n);
        sent = ap (λ (items : List OutboxItem). sent_counts (length (once_in items)) (done k m n).world.dropped) (sym both.alike.same.outbox)
            ∙ ap (λ (count : ℕ). sent_counts (length (once_in (done k v n).world.outbox)) count) (sym both.alike.same.dropped);
      }

abbrev is_no_event : Call → Bool
is_no_event (call.Event event reply) = false
is_no_event _ = true

nothing-no_event : (made : Call) → counts_nothing made ≡ true → is_no_event made ≡ true
nothing-no_event (call.Get s field text) is = refl
nothing-no_event (call.IsLive number live) is = refl
nothing-no_event (call.Post name count) is = refl
nothing-no_event (call.Interrupt device count) is = refl
nothing-no_event (call.Link s field link reply) is = cc
nothing-no_event (call.Event event reply) is = cc

link-no_event : (made : Call) → is_link_change made ≡ true → is_no_event made ≡ true
link-no_event (call.Link s field link reply) is = refl
link-no_event (call.Get s field text) is = cc
link-no_event (call.IsLive number live) is = cc
link-no_event (call.Post name count) is = cc
link-no_event (call.Interrupt device count) is = cc
link-no_event (call.Event event reply) is = cc

-- A change of a scan list is no once request.
change-none : (items : List OutboxItem) (c : ScanChange) → once_in (items ++ Change c ∷ []) ≡ once_in items
change-none [] c = refl
change-none (Once number ∷ items) c = ap (λ (ns : List ℕ). number ∷ ns) (change-none items c)
change-none (Post name ∷ items) c = change-none items c
change-none (Change other ∷ items) c = change-none items c

module _ {R : Type 0} (k : RecordRules R) where
  -- Holds if no device was called since, and no once request was sent.
  record StaysStill (w v : World R) : Type 0 where
    pub calls : v.calls ≡ w.calls
    pub once : once_in v.outbox ≡ once_in w.outbox

  moved-still : (w : World R) (n : ℕ) → StaysStill w (moved k w n)
  unfolding moved sent lost changed put
  moved-still w n =
      let last = (common_at k w n).last_change in
      let c : ScanChange = record { target = n; number = last + 1; scanning = (common_at k w n).scanning; device = device_of k (at k w n) } in
      elim (nat_lt last (2 ^ 64 - 1)) as (λ b. StaysStill w (cond b (sent (Change c) (changed k w n change_numbered)) (lost w))) [
        | true ↦ elim (nat_lt (length w.outbox) 256) as (λ b. StaysStill w (cond b (record (changed k w n change_numbered) { outbox = w.outbox ++ Change c ∷ [] }) (record (changed k w n change_numbered) { dropped = more w.dropped }))) [
          | true ↦ record { calls = refl; once = change-none w.outbox c }
          | false ↦ record { calls = refl; once = refl }
        ]
        | false ↦ record { calls = refl; once = refl }
      ]

  rewired-still : (before : List ℕ) (w v : World R) (n : ℕ) → StaysStill w v → StaysStill w (rewired k before v n)
  unfolding rewired
  rewired-still before w v n still =
      let m = moved-still v n in
      elim (pointwise nat_eq before (device_of k (at k v n))) as (λ b. StaysStill w (cond b v (moved k v n))) [
        | true ↦ still
        | false ↦ record { calls = m.calls ∙ still.calls; once = m.once ∙ still.once }
      ]

  -- Holds if a call made no request, no call of a device, and sent no once request.
  record MakesNone (w : World R) (d : Called R) : Type 0 where
    pub requests : d.requests ≡ None
    pub still : StaysStill w d.world

module _ {R : Type 0} (k : RecordRules R) (answers : Answers) where
  same-none : (w : World R) (made : Call) → MakesNone k w (record { world = w; call = made; requests = None })
  same-none w made = record { requests = refl; still = record { calls = refl; once = refl } }

  link-none : (w : World R) (s : ℕ) (field : FieldNo) (link : LinkField) (refusal : Option IocError) → MakesNone k w (linked k answers w s field link refusal)
  unfolding put
  link-none w s field link (Some e) = same-none w (call.Link s field link (Err e))
  link-none w s field link Nothing_ =
      let changed_so = put w s (k.with_link (at k w s) field link) in
      record { requests = refl; still = rewired-still k (device_of k (at k w s)) w changed_so s (record { calls = refl; once = refl }) }

  -- A call that is no event makes no request, and it isn't a completion.
  call-none : (w : World R) (made : Call) → is_no_event made ≡ true → MakesNone k w (called k answers w made)
  unfolding called
  call-none w (call.Get s field text) is = same-none w (call.Get s field (shown k w s field))
  call-none w (call.Link s field link reply) is = link-none w s field link (link_refusal k w s field link)
  call-none w (call.IsLive number live) is = same-none w (call.IsLive number (is_live number w.live))
  call-none w (call.Post name count) is = same-none w (call.Post name count)
  call-none w (call.Interrupt device count) is = same-none w (call.Interrupt device count)
  call-none w (call.Event event reply) is = cc

  link-completes-none : (w : World R) (s : ℕ) (field : FieldNo) (link : LinkField) (refusal : Option IocError) → is_completion (linked k answers w s field link refusal).call ≡ false
  link-completes-none w s field link (Some e) = refl
  link-completes-none w s field link Nothing_ = refl

  not-completing : (w : World R) (made : Call) → is_no_event made ≡ true → is_completion (called k answers w made).call ≡ false
  unfolding called
  not-completing w (call.Get s field text) is = refl
  not-completing w (call.Link s field link reply) is = link-completes-none w s field link (link_refusal k w s field link)
  not-completing w (call.IsLive number live) is = refl
  not-completing w (call.Post name count) is = refl
  not-completing w (call.Interrupt device count) is = refl
  not-completing w (call.Event event reply) is = cc

module _ {R : Type 0} (k : RecordRules R) where
  none-tallied : (m : World R) (n : Note) → MakesNone k (begun_at (entry_of n).moment m) (done k m n) → is_completion (done k m n).call ≡ false
      → ((t : Tally) → tallied_by k t m n ≡ t) × (once_by k m n ≡ 0)
  unfolding begun begun_at
  none-tallied m n none goes_on = (
    λ t. tallied-is k t m n
        ∙ ap (λ (r : Requests). counted_all t r (later_among (done k m n).world.calls) (is_completion (done k m n).call)) none.requests
        ∙ ap (λ (cs : List DeviceCall). counted_all t None (later_among cs) (is_completion (done k m n).call)) none.still.calls
        ∙ ap (λ (b : Bool). counted_all t None 0 b) goes_on,
    ap (λ (ns : List ℕ). length ns) none.still.once,
  )

  no_event-tallied : (m : World R) (n : Note) → is_no_event (entry_of n).call ≡ true → ((t : Tally) → tallied_by k t m n ≡ t) × (once_by k m n ≡ 0)
  unfolding done
  no_event-tallied m n is =
      let answers = listed (entry_of n).answers in
      let w = begun_at (entry_of n).moment m in
      none-tallied m n (call-none k answers w (entry_of n).call is) (not-completing k answers w (entry_of n).call is)

  -- A call that changes nothing leaves the world as it is.
  call-stays : (answers : Answers) (w : World R) (made : Call) → counts_nothing made ≡ true → (called k answers w made).world ≡ w
  unfolding called
  call-stays answers w (call.Get s field text) is = refl
  call-stays answers w (call.IsLive number live) is = refl
  call-stays answers w (call.Post name count) is = refl
  call-stays answers w (call.Interrupt device count) is = refl
  call-stays answers w (call.Link s field link reply) is = cc
  call-stays answers w (call.Event event reply) is = cc

  begun-sends : (moment : ℕ) (m : World R) → sent_in (begun_at moment m) ≡ nothing_sent
  unfolding begun begun_at
  begun-sends moment m = refl

  pub questions-nothing : QuestionsCountNothing k
  unfolding done
  questions-nothing m n is =
      let moment = (entry_of n).moment in record {
        tally = (no_event-tallied m n (nothing-no_event (entry_of n).call is)).0;
        sent = ap (λ (w : World R). sent_in w) (call-stays (listed (entry_of n).answers) (begun_at moment m) (entry_of n).call is) ∙ begun-sends moment m;
      }

  pub links-nothing : LinksCountNothing k
  links-nothing m n is = no_event-tallied m n (link-no_event (entry_of n).call is)
