-- A change of a scan list, sent by a set: what it leaves of the records and of the rest.
use Rattle.std.proofs.Common.{◌≡◌, ◌⊎◌, ℕ, ◌+◌, ◌-◌, ◌^◌, Bool, true, false, cond, eqb, List, [], ◌∷◌, Option, Some, None, nat_lt, nat_eq, refl, sym, ap, subst, ◌∙◌, inl, inr, arith}
use Rattle.std.specs.Prelude.{IsSome, unwrap_or}
use Rattle.std.specs.FinMap.{get, insert}
use Rattle.std.specs.Cmp.Lexicographic.{pointwise}
use Rattle.std.proofs.lemmas.Grind.{common_steps}
use Rattle.ioc_dbcommon.specs.Steps.{change_numbered}
use Rattle.ioc_ledger.specs.Requests.{more}
use Rattle.ioc_notify.specs.declared.live_numbers.Live.{Live}
use Rattle.ioc_notify.specs.declared.waiting_lists.Waiting.{Waiting}
use Rattle.ioc_record.specs.RecordRules.{RecordRules}
use Rattle.ioc_record.specs.Laws.{IsLawful}
use Rattle.ioc_set_records.specs.Contents.{Records, Contents, record_at}
use Rattle.ioc_set_records.specs.Joined.{AreShared}
use Rattle.ioc_process.specs.Keeping.{keeps_all, moved-keeps}
use Rattle.ioc_store.specs.declared.outbox.OutboxItem.TheVariants.{Change}
use Rattle.ioc_store.specs.World.{World, Has, Keeps, at, begun, begun_at, put, changed, sent, lost}
use Rattle.ioc_store.specs.Scanning.{device_of, moved, rewired}
use Rattle.ioc_store.specs.ScanLaws.{rewired-either}
use Rattle.ioc_set.specs.declared.set_store.SetStore.{SetStore}
use Rattle.ioc_set.specs.SetStore.{world_of}
use Rattle.ioc_set.specs.Resting.{resting}
use Rattle.ioc_set.specs.Doing.{with_records, with_kept}
use Rattle.ioc_set.proofs.Calm.{get-insert}
use Rattle.ioc_set.proofs.Entries.{none_some}

-- The state of an event in a store whose records were swapped with those of a set.
pub came_to : {R D : Type 0} (s' s'' : SetStore R D) (after : Contents R D) (w : World R) → after ≡ s'.members → s''.event ≡ s'.event → world_of s' ≡ w
    → with_records after.records (world_of s'') ≡ w
came_to s' s'' after w now same told = (λ i. with_records (now i).records (world_of (record { members = s''.members; event = same i }))) ∙ told

pub live_begun : {R : Type 0} (moment : ℕ) (rs : Records R) → (begun_at moment (resting rs [] [])).live ≡ []
unfolding begun_at begun
live_begun moment rs = refl

pub waiting_begun : {R : Type 0} (moment : ℕ) (rs : Records R) → (begun_at moment (resting rs [] [])).waiting ≡ []
unfolding begun_at begun
waiting_begun moment rs = refl

module _ {R : Type 0} (k : RecordRules R) where
  pub rewired-keeps : IsLawful k → (before : List ℕ) (w : World R) (s : ℕ) → Has w s → Keeps k w (rewired k before w s)
  rewired-keeps lawful before w s there = rewired-either k (Keeps k w) before w s (keeps_all k w) (moved-keeps k lawful w s there)

  module _ (moment s : ℕ) (before : List ℕ) where
    -- An event begins on these records, with these puts with notification.
    abbrev begins : List Live → List Waiting → Records R → World R
    begins live waiting rs = begun_at moment (resting rs live waiting)

    -- The record with the next number for a change of its scan list. In `rescans`, `same` holds if
    -- the device link is the same, and `room` if a number is left.
    abbrev numbered : R → R
    numbered r = k.with_common r (change_numbered (k.common r))

    abbrev rescans : List Live → List Waiting → Bool → Bool → Records R → R → World R
    rescans live waiting same room rs r =
        cond same (begins live waiting rs)
        (cond room
        (record (begins live waiting (insert rs s (numbered r))) { outbox = Change (record { target = s; number = (k.common r).last_change + 1; scanning = (k.common r).scanning; device = device_of k r }) ∷ [] })
        (record (begins live waiting rs) { dropped = more 0 }))

    abbrev is_same : R → Bool
    is_same r = pointwise nat_eq before (device_of k r)

    abbrev has_room : R → Bool
    has_room r = nat_lt (k.common r).last_change (2 ^ 64 - 1)

    goes : (live : List Live) (waiting : List Waiting) (rs : Records R) → rewired k before (begins live waiting rs) s ≡ rescans live waiting (is_same (record_at k rs s)) (has_room (record_at k rs s)) rs (record_at k rs s)
    unfolding rewired moved changed put sent lost at begun_at begun
    goes live waiting rs = refl

    goes_on : (live : List Live) (waiting : List Waiting) (rs : Records R) (r : R) → record_at k rs s ≡ r → rewired k before (begins live waiting rs) s ≡ rescans live waiting (is_same r) (has_room r) rs r
    goes_on live waiting rs r is = goes live waiting rs ∙ ap (λ (x : R). rescans live waiting (is_same x) (has_room x) rs x) is

    -- Apart from the records and the puts with notification, the result is the same on other
    -- records, if that record is the same there.
    alike : (live others_live : List Live) (waiting others_waiting : List Waiting) (same room : Bool) (r : R) (some others : Records R)
        → with_kept (rescans live waiting same room some r).records live waiting (rescans others_live others_waiting same room others r) ≡ rescans live waiting same room some r
    unfolding begun_at begun
    alike live others_live waiting others_waiting true room r some others = refl
    alike live others_live waiting others_waiting false true r some others = refl
    alike live others_live waiting others_waiting false false r some others = refl

    pub rescanned_left : (live others_live : List Live) (waiting others_waiting : List Waiting) (some others : Records R) → record_at k others s ≡ record_at k some s
        → with_kept (rewired k before (begins live waiting some) s).records live waiting (rewired k before (begins others_live others_waiting others) s) ≡ rewired k before (begins live waiting some) s
    rescanned_left live others_live waiting others_waiting some others is =
        let r = record_at k some s in
        ap (λ (w : World R). with_kept w.records live waiting (rewired k before (begins others_live others_waiting others) s)) (goes live waiting some)
        ∙ ap (λ (w : World R). with_kept (rescans live waiting (is_same r) (has_room r) some r).records live waiting w) (goes_on others_live others_waiting others r is)
        ∙ alike live others_live waiting others_waiting (is_same r) (has_room r) r some others
        ∙ sym (goes live waiting some)

    -- The records in the result don't depend on what is live or waits.
    alike_records : (live others_live : List Live) (waiting others_waiting : List Waiting) (same room : Bool) (r : R) (rs : Records R) → (rescans live waiting same room rs r).records ≡ (rescans others_live others_waiting same room rs r).records
    unfolding begun_at begun
    alike_records live others_live waiting others_waiting true room r rs = refl
    alike_records live others_live waiting others_waiting false true r rs = refl
    alike_records live others_live waiting others_waiting false false r rs = refl

    pub rewired_records : (live others_live : List Live) (waiting others_waiting : List Waiting) (rs : Records R) → (rewired k before (begins live waiting rs) s).records ≡ (rewired k before (begins others_live others_waiting rs) s).records
    rewired_records live others_live waiting others_waiting rs =
        let r = record_at k rs s in
        ap (λ (w : World R). w.records) (goes live waiting rs) ∙ alike_records live others_live waiting others_waiting (is_same r) (has_room r) r rs ∙ sym (ap (λ (w : World R). w.records) (goes others_live others_waiting rs))

    -- The result without puts with notification is the same as with those of the set.
    pub rewired_beside : (live : List Live) (waiting : List Waiting) (rs after : Records R) (come_to : World R) → with_records after come_to ≡ rewired k before (begins [] [] rs) s
        → with_kept after live waiting come_to ≡ rewired k before (begins live waiting rs) s
    rewired_beside live waiting rs after come_to left =
        ap (λ (w : World R). with_kept w.records live waiting w) left
        ∙ ap (λ (x : Records R). with_kept x live waiting (rewired k before (begins [] [] rs) s)) (rewired_records [] live [] waiting rs)
        ∙ rescanned_left live [] waiting [] rs rs refl

    -- Lemmas that shared records stay shared.

    -- A value at one number is shared after the change, whether it is the number of the record or
    -- not.
    shared_one : (b : Bool) (x : R) (whole part rest : Option R) → (b ≡ true → IsSome part) → ((part ≡ whole) × (rest ≡ None)) ⊎ ((part ≡ None) × (rest ≡ whole))
        → ((cond b (Some x) part ≡ cond b (Some x) whole) × (rest ≡ None)) ⊎ ((cond b (Some x) part ≡ None) × (rest ≡ cond b (Some x) whole))
    shared_one true x whole part rest has (inl p) = inl (refl, p.1)
    shared_one true x whole part rest has (inr p) = absurd (none_some part p.0 (has refl))
    shared_one false x whole part rest has (inl p) = inl p
    shared_one false x whole part rest has (inr p) = inr p

    abbrev set_in : R → (ℕ → Option R) → ℕ → Option R
    set_in x f q = cond (eqb q s) (Some x) (f q)

    shared_set : (x : R) (all one rest : Records R) → AreShared (get all) (get one) (get rest) → IsSome (get one s) → AreShared (get (insert all s x)) (get (insert one s x)) (get rest)
    shared_set x all one rest shared there =
        let here : (q : ℕ) → eqb q s ≡ true → IsSome (get one q) = λ q is. let e : q ≡ s = grind (arith, common_steps) in subst (λ (n : ℕ). IsSome (get one n)) (sym e) there in
        let set : AreShared (set_in x (get all)) (set_in x (get one)) (get rest) = λ q. shared_one (eqb q s) x (get all q) (get one q) (get rest q) (here q) (shared q) in
        let whole : get (insert all s x) ≡ set_in x (get all) = λ i q. get-insert k all s x q i in
        let part : get (insert one s x) ≡ set_in x (get one) = λ i q. get-insert k one s x q i in
        subst (λ (f : ℕ → Option R). AreShared f (get (insert one s x)) (get rest)) (sym whole)
        (subst (λ (f : ℕ → Option R). AreShared (set_in x (get all)) f (get rest)) (sym part) set)

    shared_rescanned : (live stay_live : List Live) (waiting stay_waiting : List Waiting) (same room : Bool) (r : R) (all one rest : Records R) → AreShared (get all) (get one) (get rest) → IsSome (get one s)
        → AreShared (get (rescans live waiting same room all r).records) (get (rescans stay_live stay_waiting same room one r).records) (get rest)
    unfolding begun_at begun
    shared_rescanned live stay_live waiting stay_waiting true room r all one rest shared there = shared
    shared_rescanned live stay_live waiting stay_waiting false true r all one rest shared there = shared_set (numbered r) all one rest shared there
    shared_rescanned live stay_live waiting stay_waiting false false r all one rest shared there = shared

    -- The record in one of two sets is the record in all.
    pub own_record : (all one rest : Records R) → AreShared (get all) (get one) (get rest) → IsSome (get one s) → record_at k one s ≡ record_at k all s
    own_record all one rest shared there = elim (shared s) [
      | inl p ↦ ap (λ (o : Option R). unwrap_or o k.missing) p.0
      | inr p ↦ absurd (none_some (get one s) p.0 there)
    ]

    pub rescanned_shared : (live stay_live : List Live) (waiting stay_waiting : List Waiting) (all one rest : Records R) → AreShared (get all) (get one) (get rest) → IsSome (get one s)
        → AreShared (get (rewired k before (begins live waiting all) s).records) (get (rewired k before (begins stay_live stay_waiting one) s).records) (get rest)
    rescanned_shared live stay_live waiting stay_waiting all one rest shared there =
        let r = record_at k all s in
        subst (λ (w : World R). AreShared (get w.records) (get (rewired k before (begins stay_live stay_waiting one) s).records) (get rest)) (sym (goes live waiting all))
        (subst (λ (w : World R). AreShared (get (rescans live waiting (is_same r) (has_room r) all r).records) (get w.records) (get rest)) (sym (goes_on stay_live stay_waiting one r (own_record all one rest shared there)))
        (shared_rescanned live stay_live waiting stay_waiting (is_same r) (has_room r) r all one rest shared there))
