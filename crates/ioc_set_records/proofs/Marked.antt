-- A record of a set is listed as one that may have changed, or is its base.
use Rattle.std.proofs.Common.{◌≡◌, ◌⊎◌, ℕ, zero, suc, ◌<◌, Bool, true, false, List, [], ◌∷◌, Some, length, get_or, refl, sym, ap, ◌∙◌, inl, inr, arith}
use Rattle.std.specs.Prelude.{slice_get, slice_index, IsTrue}
use Rattle.std.specs.FinMap.{contains_key, keys}
use Rattle.ioc_record.specs.RecordRules.{RecordRules}
use Rattle.ioc_set_records.specs.declared.slots.Slot.{Slot}
use Rattle.ioc_set_records.specs.Changed.{IsListed}
use Rattle.ioc_set_records.specs.Contents.{Contents, record_at}
use Rattle.ioc_set_records.specs.Slots.{contents_of, numbers_of, AreAscending}
use Rattle.ioc_set_records.specs.Twins.{AreTracked}
use Rattle.ioc_set_records.proofs.Keys.{there_key}
use Rattle.ioc_set_records.proofs.Ordered.{keys_are, number_found}
use Rattle.ioc_set_records.proofs.Seats.{seat_base, seat_record}
use Rattle.ioc_set_records.proofs.Slotted.{length-numbers, number_at, same_Some}

-- Each place below the length has an item.
item_at : {X : Type 0} (xs : List X) (i : ℕ) → i < length xs → (x : X) × (x ≡ get_or xs i x)
item_at [] i l = absurd (omega arith)
item_at (x ∷ xs) zero l = (x, refl)
item_at (x ∷ xs) (suc i) l = item_at xs i (omega arith)

module _ {R D : Type 0} (k : RecordRules R) (ss : List (Slot R D)) (m : Contents R D) (up : AreAscending ss) (is : contents_of ss ≡ m) (changed : List ℕ) (tracked : AreTracked ss changed) where
  numbers_are : keys m.records ≡ numbers_of ss
  numbers_are = sym (ap (λ (c : Contents R D). keys c.records) is) ∙ keys_are ss up

  of_slot : (n i : ℕ) → slice_get (keys m.records) i ≡ Some n → (i < length ss) → (s : Slot R D) → s ≡ get_or ss i s → (b : Bool) → s.is_changed ≡ b
      → IsListed m.records changed n ⊎ (record_at k m.base n ≡ record_at k m.records n)
  of_slot n i at within s stands true marked = inl (i, tracked.listed i s within stands marked, at)
  of_slot n i at within s stands false marked =
      let own = same_Some s.number n (sym (number_found ss i s within stands) ∙ sym (ap (λ z. slice_get z i) numbers_are) ∙ at) in
      let there : (i < length ss) × (slice_index (numbers_of ss) i ≡ n) = (within, sym (number_at ss i s within stands) ∙ own) in
      inr (sym (seat_base ss ss m up is refl n i there k s stands)
      ∙ tracked.same i s within stands marked
      ∙ seat_record ss ss m.records up (ap (λ (c : Contents R D). c.records) is) refl n i there k s stands)

  pub listed_or_same : (n : ℕ) → IsTrue (contains_key m.records n) → IsListed m.records changed n ⊎ (record_at k m.base n ≡ record_at k m.records n)
  listed_or_same n has =
      let found = there_key m.records n has in
      let count = ap length numbers_are in
      let slots = length-numbers ss in
      let below = found.1 in
      let within : found.0 < length ss = omega arith in
      let slot = item_at ss found.0 within in
      of_slot n found.0 found.2 within slot.0 slot.1 slot.0.is_changed refl
