-- What a caller asks of a set before a link change.
use Rattle.std.proofs.Common.{◌≡◌, ◌≢◌, ℕ, zero, suc, ◌<◌, ◌≤◌, ◌+◌, ◌-◌, List, [], ◌∷◌, None, length, get_or, sym, ap, ◌∙◌, subst, ⊎_elim, arith}
use Rattle.std.specs.Prelude.{slice_index, Contains, IsSome, is_some}
use Rattle.std.specs.FinMap.{get}
use Rattle.std.proofs.lemmas.Bool.{cases_eq}
use Rattle.std.proofs.lemmas.List.{get_or_default}
use Rattle.ioc_set_records.specs.declared.slots.Slot.{Slot}
use Rattle.ioc_set_records.specs.Slots.{records_of, numbers_of, AreAscending}
use Rattle.ioc_set_records.proofs.Slotted.{number_at, below_at, length-numbers, place_cases}
use Rattle.ioc_set_records.proofs.Seen.{record_in, get_record, record_there}
use Rattle.ioc_set_records.proofs.Moves.{not_some}

-- A property of the first `n` places and of the next holds of one more place.
pub one_more : (P : ℕ → Type 0) (n : ℕ) → ((i : ℕ) → i < n → P i) → P n → (i : ℕ) → i < n + 1 → P i
one_more P n before here i l = ⊎_elim (λ (e : i ≡ n). subst P (sym e) here) (λ a. before i (omega arith)) (cases_eq i n)

module _ {R D : Type 0} where
  last_at : (ss : List (Slot R D)) (i : ℕ) → AreAscending ss → i < length ss → slice_index (numbers_of ss) i ≤ slice_index (numbers_of ss) (length ss - 1)
  last_at [] i up l = absurd (omega arith)
  last_at (s ∷ []) zero up l = omega arith
  last_at (s ∷ []) (suc i) up l = absurd (omega arith)
  last_at (s ∷ t ∷ ss) zero up l =
      let b = below_at s.number (t ∷ ss) (length ss) up.0 (omega arith) in
      let e : length (s ∷ t ∷ ss) - 1 ≡ suc (length ss) = omega arith in
      subst (λ j. s.number ≤ slice_index (numbers_of (s ∷ t ∷ ss)) j) (sym e) (let le : s.number ≤ slice_index (numbers_of (t ∷ ss)) (length ss) = omega arith in le)
  last_at (s ∷ t ∷ ss) (suc i) up l =
      let e : length (s ∷ t ∷ ss) - 1 ≡ suc (length (t ∷ ss) - 1) = omega arith in
      subst (λ j. slice_index (numbers_of (t ∷ ss)) i ≤ slice_index (numbers_of (s ∷ t ∷ ss)) j) (sym e) (last_at (t ∷ ss) i up.1 (omega arith))

  -- All records are below a number if the last one is.
  pub all_below : (ss : List (Slot R D)) (s : Slot R D) (n : ℕ) → AreAscending ss → 0 < length ss → s ≡ get_or ss (length ss - 1) s → s.number < n → (q : ℕ) → IsSome (get (records_of ss) q) → q < n
  all_below ss s n up l at low q has =
      ⊎_elim
      (λ p.
      let last = number_at ss (length ss - 1) s (omega arith) at in
      let le = last_at ss p.0 up p.1 in
      let e = p.2 in omega arith)
      (λ none. absurd (not_some (get (records_of ss) q) (get_record ss q ∙ ap record_in none) has))
      (place_cases q ss)

  pub last_below : (ss : List (Slot R D)) (s : Slot R D) (n : ℕ) → AreAscending ss → 0 < length ss → s ≡ get_or ss (length ss - 1) s → ((q : ℕ) → IsSome (get (records_of ss) q) → q < n) → s.number < n
  last_below ss s n up l at low =
      low s.number (ap is_some (record_there ss (length ss - 1) s.number s up (omega arith) (sym (number_at ss (length ss - 1) s (omega arith) at))))

  pub none_above : (ss : List (Slot R D)) (n : ℕ) → length ss ≡ 0 → (q : ℕ) → IsSome (get (records_of ss) q) → q < n
  none_above [] n e q has = absurd (not_some _ (get_record {R = R} {D = D} [] q) has)
  none_above (s ∷ ss) n e q has = absurd (omega arith)

  -- No record of one set is in the other if no slot is.
  pub apart_by : (ss ts : List (Slot R D)) → ((i : ℕ) → i < length ss → get (records_of ts) (slice_index (numbers_of ss) i) ≡ None) → (q : ℕ) → IsSome (get (records_of ss) q) → get (records_of ts) q ≡ None
  apart_by ss ts apart q has =
      ⊎_elim
      (λ p. ap (get (records_of ts)) (sym p.2) ∙ apart p.0 p.1)
      (λ none. absurd (not_some (get (records_of ss) q) (get_record ss q ∙ ap record_in none) has))
      (place_cases q ss)

  -- A slot of both sets is a record of both.
  pub in_both : (ss ts : List (Slot R D)) (i j : ℕ) (s : Slot R D) → AreAscending ss → AreAscending ts → i < length ss → j < length ts → s ≡ get_or ss i s → slice_index (numbers_of ts) j ≡ s.number
      → ((q : ℕ) → IsSome (get (records_of ss) q) → get (records_of ts) q ≡ None) → ⊥
  in_both ss ts i j s a b li lj at is apart =
      let here = ap is_some (record_there ss i s.number s a li (sym (number_at ss i s li at))) in
      not_some (get (records_of ts) s.number) (apart s.number here) (ap is_some (record_there ts j s.number s b lj is))

  pub unplaced : (ss : List (Slot R D)) (n : ℕ) → ((i : ℕ) → i < length ss → slice_index (numbers_of ss) i ≢ n) → Contains (numbers_of ss) n → ⊥
  unplaced ss n absent c =
      let len = length-numbers ss in
      let l = c.1 in
      absent c.0 (omega arith) (get_or_default (numbers_of ss) c.0 0 n c.1 ∙ c.2)

  pub placed : (ss : List (Slot R D)) (n i : ℕ) → i < length ss → slice_index (numbers_of ss) i ≡ n → Contains (numbers_of ss) n
  placed ss n i l e =
      let len = length-numbers ss in
      (i, omega arith, get_or_default (numbers_of ss) i n 0 (omega arith) ∙ e)
