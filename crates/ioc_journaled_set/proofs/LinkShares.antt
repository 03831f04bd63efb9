-- The shares of sets after a link change that divides or joins them.
use Rattle.std.proofs.Common.{◌≡◌, ℕ, zero, suc, ◌+◌, ◌-◌, ◌<◌, ◌≤◌, ◌^◌, ◌⊎◌, inl, inr, min, List, [], ◌∷◌, length, None, refl, sym, ap, ◌∙◌, arith}
use Rattle.std.specs.Prelude.{IsSome}
use Rattle.std.specs.FinMap.{get, len, entries, len-entries}
use Rattle.ioc_fields.specs.declared.field_no.FieldNo.{FieldNo}
use Rattle.ioc_dbcommon.specs.declared.link_field.LinkField.{LinkField}
use Rattle.ioc_dbcommon.specs.Links.{no_link}
use Rattle.ioc_ledger.specs.declared.tally.Tally.{Tally}
use Rattle.ioc_ledger.specs.Requests.{added}
use Rattle.ioc_ledger.specs.Shared.{ShareView, share_view, less_awaited}
use Rattle.ioc_record.specs.RecordRules.{RecordRules}
use Rattle.ioc_set_records.specs.Contents.{Records, record_at}
use Rattle.ioc_set_records.specs.Joined.{relinked}
use Rattle.ioc_store.specs.World.{World, Has, at, begun, begun_at, put, changed, lost, total}
use Rattle.ioc_store.specs.Scanning.{device_of, moved, rewired}
use Rattle.ioc_store.specs.ScanLaws.{rewired-either, moved-either}
use Rattle.ioc_store.specs.Worlds.{sent_by, has-put}
use Rattle.ioc_set.specs.Awaiting.{one_if_awaits, awaited}
use Rattle.ioc_set.specs.SetState.{SetState, now_of}
use Rattle.ioc_set.specs.Sound.{IsSound}
use Rattle.ioc_set.specs.Linking.{FallsApart, LeadsInto, link_change_of, awaited_alone}
use Rattle.ioc_journal.specs.LinkChange.{TakesLink}
use Rattle.ioc_journaled_set.proofs.Counting.{shared_count, set_count, some_len}
use Rattle.ioc_journaled_set.proofs.Leading.{own_in_both}
use Rattle.ioc_journaled_set.proofs.Parting.{begun_there}

no_entries : {A : Type 0} (xs : List A) → length xs ≡ 0 → xs ≡ []
no_entries [] e = refl
no_entries (x ∷ xs) e = absurd (let z : ⊥ = omega (arith, e) in z)

module _ {R : Type 0} (k : RecordRules R) where
  -- No record awaits an answer if there is none.
  none_awaited : (rs : Records R) → len rs ≡ 0 → awaited k rs ≡ 0
  unfolding awaited
  none_awaited rs none = ap (λ es. total (one_if_awaits k) es) (no_entries (entries rs) (sym (len-entries rs) ∙ none))

  -- A change of a scan list leaves the number of records.

  moved_len : (w : World R) (s : ℕ) → Has w s → len (moved k w s).records ≡ len w.records
  unfolding changed put lost
  moved_len w s there = moved-either k (λ (x : World R). len x.records ≡ len w.records) w s
      (λ item. ap (λ (x : World R). len x.records) (sym (sent_by item _)) ∙ set_count w.records s _ there) refl

  rewired_len : (device : List ℕ) (w : World R) (s : ℕ) → Has w s → len (rewired k device w s).records ≡ len w.records
  rewired_len device w s there = rewired-either k (λ (x : World R). len x.records ≡ len w.records) device w s refl (moved_len w s there)

  put_len : (w : World R) (s : ℕ) (r : R) → Has w s → len (put w s r).records ≡ len w.records
  unfolding put
  put_len w s r there = set_count w.records s r there

  begun_len : (w : World R) (moment : ℕ) → len (begun_at moment w).records ≡ len w.records
  unfolding begun_at begun
  begun_len w moment = refl

-- What the rest takes over was counted.
counted_before : (c a b : ℕ) → min (2 ^ 64 - 1) (a + b) ≡ c → b < 2 ^ 63 → b ≤ c
counted_before c a b sum few = omega (arith, sum, few)

some_await : (n s c w : ℕ) → s < 2 ^ 63 → c ≡ 0 → (n ≡ 0 → w ≡ 0) → (s ≡ 2 ^ 64 - 1) ⊎ (s ≡ c + w) → 0 < s → 0 < n
some_await zero s c w few none nothing sum some = elim sum [
  | inl full ↦ absurd (omega (arith, few, full))
  | inr adds ↦ let none_awaits = nothing refl in absurd (omega (arith, adds, none, none_awaits, some))
]
some_await (suc n) s c w few none nothing sum some = omega arith

module _ {R D : Type 0} (k : RecordRules R) (before stay rest : SetState R D) (changed_records : Records R) (s : ℕ) (falls : FallsApart before changed_records s stay rest) (same : len changed_records ≡ len before.records) where
  sizes : len before.records ≡ len stay.records + len rest.records
  sizes = sym same ∙ shared_count changed_records stay.records rest.records falls.shared

  -- The set had more records than fell off.
  pub fewer_parts : (share : ShareView) → share ≡ share_view (len before.records) before.tally → len rest.records < share.parts
  fewer_parts share is =
      let own = some_len stay.records s falls.own in
      let parts = ap (λ (v : ShareView). v.parts) is in
      let all = sizes in
      omega (arith, own, parts, all)

  -- The answers that the rest still awaits were counted by the set.
  pub started_before : rest.tally.started ≤ before.tally.started
  started_before = counted_before before.tally.started stay.tally.started rest.tally.started (ap (λ (t : Tally). t.started) falls.together) falls.few

  pub rest_awaits : IsSound k rest → 0 < rest.tally.started → 0 < len rest.records
  rest_awaits sound = some_await (len rest.records) rest.tally.started rest.tally.completed (awaited k rest.records) falls.few (ap (λ (h : SetState R D). h.tally.completed) falls.leaves) (none_awaited k rest.records) sound.counts.answers_add_up

  -- The share of what stays.
  pub share_stays : (share share_then : ShareView) → share ≡ share_view (len before.records) before.tally
      → share_then ≡ share_view (share.parts - len rest.records) (less_awaited share.counts rest.tally.started) → share_then ≡ share_view (len stay.records) stay.tally
  share_stays share share_then is then =
      let parts = ap (λ (v : ShareView). v.parts) is in
      let all = sizes in
      let left : share.parts - len rest.records ≡ len stay.records = omega (arith, parts, all) in
      then ∙ ap (λ (n : ℕ). share_view n (less_awaited share.counts rest.tally.started)) left
      ∙ ap (λ (v : ShareView). share_view (len stay.records) (less_awaited v.counts rest.tally.started)) is
      ∙ ap (λ (h : SetState R D). share_view (len stay.records) h.tally) (sym falls.stays)

  -- The share of the rest.
  pub share_leaves : (share : ShareView) → share ≡ share_view (len rest.records) (awaited_alone rest.tally.started) → share ≡ share_view (len rest.records) rest.tally
  share_leaves share is = is ∙ ap (λ (h : SetState R D). share_view (len rest.records) h.tally) (sym falls.leaves)

-- A link change within a set leaves the number of its records.
pub change_len : {R D : Type 0} (k : RecordRules R) (h : SetState R D) (moment s : ℕ) (field : FieldNo) (link : LinkField) → Has (now_of h) s → len (link_change_of k h moment s field link).records ≡ len h.records
change_len k h moment s field link has =
    let begins = begun_at moment (now_of h) in
    let there = begun_there k (now_of h) moment s has in
    let with_link = k.with_link (at k begins s) field link in
    rewired_len k (device_of k (at k begins s)) (put begins s with_link) s (has-put k begins s s with_link there) ∙ put_len k begins s with_link there ∙ begun_len k (now_of h) moment

module _ {R D : Type 0} (k : RecordRules R) (before other after other_then rest : SetState R D) (moment s : ℕ) (field : FieldNo) (link : LinkField) (come_to : World R) (takes : TakesLink k (now_of before) s field)
    (led : LeadsInto k before other moment s field link after other_then rest come_to) (apart : (q : ℕ) → IsSome (get before.records q) → get other.records q ≡ None) where
  -- Without the old link, the set has as many records.
  pub freed_len : len (relinked k before.records s field no_link) ≡ len before.records
  freed_len = set_count before.records s _ takes.there

  both_len : len after.records ≡ len led.stay.records + len other.records
  both_len =
      let there = begun_there k (now_of led.both) moment s (own_in_both k before other after other_then rest moment s field link come_to takes led apart) in
      ap (λ (w : World R). len w.records) led.sent
      ∙ rewired_len k (device_of k (record_at k before.records s)) (begun_at moment (now_of led.both)) s there
      ∙ begun_len k (now_of led.both) moment
      ∙ shared_count led.both.records (relinked k led.stay.records s field link) other.records led.joins.shared
      ∙ ap (λ (n : ℕ). n + len other.records) (set_count led.stay.records s _ led.falls.own)

  tally_after : after.tally ≡ added led.stay.tally other.tally
  tally_after = ap (λ (h : SetState R D). h.tally) led.then_empty ∙ ap (λ (h : SetState R D). h.tally) led.joins.all

  -- The merged share of what stays and of the other set.
  pub share_joins : (stays others merged : ShareView) → stays ≡ share_view (len led.stay.records) led.stay.tally → others ≡ share_view (len other.records) other.tally
      → merged ≡ share_view (stays.parts + others.parts) (added stays.counts others.counts) → merged ≡ share_view (len after.records) after.tally
  share_joins stays others merged own its is =
      is ∙ ap (λ (v : ShareView). share_view (v.parts + others.parts) (added v.counts others.counts)) own
      ∙ ap (λ (v : ShareView). share_view (len led.stay.records + v.parts) (added led.stay.tally v.counts)) its
      ∙ ap (λ (n : ℕ). share_view n (added led.stay.tally other.tally)) (sym both_len)
      ∙ ap (λ (t : Tally). share_view (len after.records) t) (sym tally_after)
