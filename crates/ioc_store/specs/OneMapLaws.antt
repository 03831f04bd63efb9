-- The laws of `OneMap` as a store.
use Rattle.std.proofs.Common.{◌≡◌, ℕ, zero, suc, ◌+◌, ◌<◌, ◌≤◌, Bool, true, false, cond, eqb, List, [], ◌∷◌, length, set, IsTrue, is_some, Some, refl, sym, ap, ◌∙◌, arith}
use Rattle.std.specs.Prelude.{slice_get, nat_lt, unwrap_or, Option}
use Rattle.std.specs.Prelude.{None as Nothing_}
use Rattle.std.specs.List.{enumerate_from}
use Rattle.std.specs.Vec.{with_item}
use Rattle.std.specs.Ordering.{nat_cmp, eq_by_cmp}
use Rattle.std.specs.Cmp.{nat_cmp_total, unsigned_tied}
use Rattle.std.specs.FinMap.{get, find, len, len-empty, len-insert, from_entries, same_map, get-insert, get-from_entries, nat_cmp-IsAntisymmetric, contains_key}
use Rattle.std.proofs.lemmas.Grind.{common_steps}
use Rattle.ioc_device.specs.declared.Ask.{Ask}
use Rattle.ioc_device.specs.declared.Answer.{Answer}
use Rattle.ioc_device.specs.declared.Answer.TheVariants.{Fault}
use Rattle.ioc_store.specs.declared.one_map.OneMap.{OneMap}
use Rattle.ioc_store.specs.declared.event_store.FollowUps.{FollowUps}
use Rattle.ioc_store.specs.FollowUps.{followed_by}
use Rattle.ioc_store.specs.Outbox.{items_of}
use Rattle.ioc_store.specs.Given.{calls_of, with_device, DeviceGives, its_device, no_device}
use Rattle.ioc_store.specs.World.{Has, put, at}
use Rattle.ioc_record.specs.RecordRules.{RecordRules}
use Rattle.ioc_store.specs.OneMap.{numbered, world_of, given_of, with_record, with_follow_ups, device_at}

module _ {R : Type 0} where
  -- The entry with the number `i + q` is the item at index `q`.
  find-enumerate : (items : List R) (i q : ℕ) → find nat_cmp (i + q) (enumerate_from i items) ≡ slice_get items q
  find-enumerate [] i q = refl
  find-enumerate (x ∷ items) i zero = rw (unsigned_tied (i + 0) i) (grind (arith, common_steps))
  find-enumerate (x ∷ items) i (suc q) =
      let e : (i + 1) + q ≡ i + suc q = omega arith in
      let apart : eq_by_cmp nat_cmp (i + suc q) i ≡ false = unsigned_tied (i + suc q) i ∙ grind (arith, common_steps) in
      rw apart (rw e at (find-enumerate items (i + 1) q))

  pub slice_get-set : (xs : List R) (n q : ℕ) (r : R) → n < length xs → slice_get (set xs n r) q ≡ cond (eqb q n) (Some r) (slice_get xs q)
  slice_get-set [] n q r within = absurd (omega arith)
  slice_get-set (x ∷ xs) zero zero r within = refl
  slice_get-set (x ∷ xs) zero (suc q) r within = let e : eqb (suc q) 0 ≡ false = grind (arith, common_steps) in rw e refl
  slice_get-set (x ∷ xs) (suc n) zero r within = let e : eqb 0 (suc n) ≡ false = grind (arith, common_steps) in rw e refl
  slice_get-set (x ∷ xs) (suc n) (suc q) r within =
      let e : eqb (suc q) (suc n) ≡ eqb q n = grind (arith, common_steps) in rw e (slice_get-set xs n q r (omega arith))

  pub get-numbered : (items : List R) (q : ℕ) → get (numbered items) q ≡ slice_get items q
  get-numbered items q = get-from_entries nat_cmp_total (enumerate_from 0 items) q ∙ ap (λ n. find nat_cmp n (enumerate_from 0 items)) (omega arith) ∙ find-enumerate items 0 q

  some_within : (xs : List R) (n : ℕ) → IsTrue (is_some (slice_get xs n)) → n < length xs
  some_within [] n has = cc
  some_within (x ∷ xs) zero has = omega arith
  some_within (x ∷ xs) (suc n) has = let h = some_within xs n has in omega arith

  pub has_within : (xs : List R) (n : ℕ) → IsTrue (contains_key (numbered xs) n) → n < length xs
  has_within xs n has = some_within xs n (rw get-numbered at has)

  some-within : (xs : List R) (n : ℕ) → is_some (slice_get xs n) ≡ nat_lt n (length xs)
  some-within [] n = grind (arith, common_steps)
  some-within (x ∷ xs) zero = grind (arith, common_steps)
  some-within (x ∷ xs) (suc n) = some-within xs n ∙ grind (arith, common_steps)

  pub contains-numbered : (xs : List R) (n : ℕ) → contains_key (numbered xs) n ≡ nat_lt n (length xs)
  contains-numbered xs n = rw get-numbered (some-within xs n)

  -- A map has at most as many entries as the list that it is built from.
  len-from_entries : (es : List (ℕ × R)) → len (from_entries {R = nat_cmp} es) ≤ length es
  len-from_entries [] = rw len-empty (omega arith)
  len-from_entries (e ∷ es) =
      rw (len-insert nat_cmp_total (from_entries es) e.0 e.1)
      (elim (contains_key (from_entries {R = nat_cmp} es) e.0) as (λ b. cond b (len (from_entries {R = nat_cmp} es)) (len (from_entries {R = nat_cmp} es) + 1) ≤ suc (length es)) [
        | true ↦ omega (arith, len-from_entries es)
        | false ↦ omega (arith, len-from_entries es)
      ])

  length-enumerate : (items : List R) (i : ℕ) → length (enumerate_from i items) ≡ length items
  length-enumerate [] i = refl
  length-enumerate (x ∷ items) i = ap suc (length-enumerate items (i + 1))

  pub len-numbered : (items : List R) → len (numbered items) ≤ length items
  len-numbered items = omega (arith, len-from_entries (enumerate_from 0 items), length-enumerate items 0)

module _ {R D : Type 0} where
  pub with_record-world : (s : OneMap R D) (n : ℕ) (r : R) → Has (world_of s) n → world_of (with_record s n r) ≡ put (world_of s) n r
  unfolding put
  with_record-world s n r has =
      ap (λ m. record { records = m; moment = s.event.moment; calls = calls_of s.event.calls; outbox = items_of s.event.follow_ups.outbox; dropped = s.event.follow_ups.outbox.dropped; live = s.event.follow_ups.notifications.live.live; ended = s.event.follow_ups.notifications.ended.items; waiting = s.event.follow_ups.notifications.waiting.waiting })
      (same_map nat_cmp_total nat_cmp-IsAntisymmetric _ _ (λ q. get-numbered (set s.records.items n r) q ∙ slice_get-set s.records.items n q r (has_within s.records.items n has)
      ∙ ap (λ b. cond b (Some r) (slice_get s.records.items q)) (sym (unsigned_tied q n))
      ∙ ap (cond (eq_by_cmp nat_cmp q n) (Some r)) (sym (get-numbered s.records.items q)) ∙ sym (get-insert nat_cmp_total (numbered s.records.items) n r q)))

  -- Setting a record at an index sets it at the equal number.
  pub set-there : (s : OneMap R D) (n m : ℕ) (r : R) → n ≡ m → record s { records = with_item s.records n r } ≡ with_record s m r
  set-there s n m r same = ap (λ i. with_record s i r) same

  -- The record that the code reads at an index is the record with this number.
  pub at-numbered : (k : RecordRules R) (s : OneMap R D) (n : ℕ) (r : R) → slice_get s.records.items n ≡ Some r → r ≡ at k (world_of s) n
  unfolding at
  at-numbered k s n r is = rw (get-numbered, is) refl

  pub with_record-given : (s : OneMap R D) (n : ℕ) (r : R) → Has (world_of s) n → given_of (with_record s n r) ≡ given_of s
  with_record-given s n r has = refl

  pub calls-given : (s : OneMap R D) → (given_of s).calls ≡ (world_of s).calls
  calls-given s = refl

  pub moment-given : (s : OneMap R D) → (given_of s).moment ≡ (world_of s).moment
  moment-given s = refl

  pub with_follow_ups-world : (s : OneMap R D) (f : FollowUps) → world_of (with_follow_ups s f) ≡ followed_by f (world_of s)
  with_follow_ups-world s f = refl

  pub with_follow_ups-given : (s : OneMap R D) (f : FollowUps) → given_of (with_follow_ups s f) ≡ given_of s
  with_follow_ups-given s f = refl

device-if : {D : Type 0} (there : Option (Option D)) (b : Bool) (d : D) → unwrap_or (cond b (Some (Some d)) there) Nothing_ ≡ cond b (Some d) (unwrap_or there Nothing_)
device-if there true d = refl
device-if there false d = refl

-- If a device is set at `n`, that device is at `n`, and every other device is as it was.
pub device-set : {D : Type 0} (items : List (Option D)) (n : ℕ) (d : D) → n < length items → device_at (set items n (Some d)) ≡ with_device (device_at items) n d
unfolding with_device
device-set items n d within = λ i q. (ap (λ o. unwrap_or o Nothing_) (slice_get-set items n q (Some d) within) ∙ device-if (slice_get items q) (eqb q n) d) i

set_same : {X : Type 0} (xs : List X) (n : ℕ) (x : X) → slice_get xs n ≡ Some x → set xs n x ≡ xs
set_same [] n x is = cc
set_same (y ∷ ys) zero x is = let e : y ≡ x = cc in ap (λ z. z ∷ ys) (sym e)
set_same (y ∷ ys) (suc n) x is = ap (λ zs. y ∷ zs) (set_same ys n x is)

within_of : {X : Type 0} (xs : List X) (n : ℕ) (x : X) → slice_get xs n ≡ Some x → n < length xs
within_of [] n x is = cc
within_of (y ∷ ys) zero x is = omega arith
within_of (y ∷ ys) (suc n) x is = let h = within_of ys n x is in omega (arith, h)

none_past : {X : Type 0} (xs : List X) (n : ℕ) → length xs ≤ n → slice_get xs n ≡ Nothing_
none_past [] n past = refl
none_past (y ∷ ys) zero past = absurd (omega (arith, past))
none_past (y ∷ ys) (suc n) past = none_past ys n (omega (arith, past))

-- The effect of one call on the devices.
module _ {D : Type 0} (gives : D → Ask → ℕ → Answer → D → Type 0) (items : List (Option D)) (moment n : ℕ) (ask : Ask) where
  pub gives-there : (answer : Answer) (before after : D) → slice_get items n ≡ Some (Some before) → gives before ask moment answer after
      → DeviceGives gives (device_at items) moment (record { target = n; ask = ask; answer = answer }) (device_at (set items n (Some after)))
  gives-there answer before after is given =
      rw (device-set items n after (within_of items n (Some before) is)) (its_device (ap (λ o. unwrap_or o Nothing_) is) given)

  pub gives-none : slice_get items n ≡ Some Nothing_ → DeviceGives gives (device_at items) moment (record { target = n; ask = ask; answer = Fault }) (device_at (set items n Nothing_))
  gives-none is = rw (set_same items n Nothing_ is) (no_device (ap (λ o. unwrap_or o Nothing_) is) refl)

  pub gives-past : length items ≤ n → DeviceGives gives (device_at items) moment (record { target = n; ask = ask; answer = Fault }) (device_at items)
  gives-past past = no_device (ap (λ o. unwrap_or o Nothing_) (none_past items n past)) refl
