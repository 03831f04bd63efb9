-- Slots in ascending order of their numbers, and the slot of a number.
use Rattle.std.proofs.Common.{◌≡◌, ◌≢◌, ◌⊎◌, ℕ, zero, suc, ◌<◌, ◌≤◌, List, [], ◌∷◌, ◌++◌, Option, Some, None, length, set, get_or, cond, refl, sym, ap, ◌∙◌, subst, inl, inr, ⊎_elim, arith, add-one}
use Rattle.std.specs.Prelude.{slice_index, ◌==◌, true, false}
use Rattle.std.specs.List.Sorted.{IsStrictlyIncreasing}
use Rattle.std.proofs.lemmas.Bool.{cases_eq}
use Rattle.std.proofs.lemmas.List.{get_or-map, get_or_default}
use Rattle.std.proofs.Math.ListN.{length-map}
use Rattle.ioc_graph.proofs.Searching as search_laws
use Rattle.ioc_set_records.specs.declared.slots.Slot.{Slot}
use Rattle.ioc_set_records.specs.Slots.{numbers_of, IsBelow, AreAscending}
use Rattle.ioc_set_records.proofs.MapLaws.{same_number, other_number}

pub same_Some : {X : Type 0} (x y : X) → Some x ≡ Some y → x ≡ y
same_Some x y e = cc

pub none_some : {X : Type 0} (x : X) → None ≡ Some x → ⊥
none_some x e = cc

module _ {R D : Type 0} where
  -- The slot with this number.
  abbrev pub slot_at : List (Slot R D) → ℕ → Option (Slot R D)
  slot_at [] q = None
  slot_at (s ∷ ss) q = cond (q == s.number) (Some s) (slot_at ss q)

  pub slot_first : (s : Slot R D) (ss : List (Slot R D)) → slot_at (s ∷ ss) s.number ≡ Some s
  slot_first s ss = ap (λ b. cond b (Some s) (slot_at ss s.number)) (same_number s.number s.number refl)

  pub slot_later : (q : ℕ) (s : Slot R D) (ss : List (Slot R D)) → q ≢ s.number → slot_at (s ∷ ss) q ≡ slot_at ss q
  slot_later q s ss apart = ap (λ b. cond b (Some s) (slot_at ss q)) (other_number q s.number apart)

  pub length-numbers : (ss : List (Slot R D)) → length (numbers_of ss) ≡ length ss
  length-numbers ss = length-map ss (λ s. s.number)

  -- The number of a slot that was read.
  pub number_at : (ss : List (Slot R D)) (i : ℕ) (s : Slot R D) → i < length ss → s ≡ get_or ss i s → s.number ≡ slice_index (numbers_of ss) i
  number_at ss i s l at = ap (λ (t : Slot R D). t.number) at ∙ sym (get_or-map (λ (t : Slot R D). t.number) ss i s 0 l)

  pub below_at : (n : ℕ) (ss : List (Slot R D)) (i : ℕ) → IsBelow n ss → i < length ss → n < slice_index (numbers_of ss) i
  below_at n [] i b l = absurd (omega arith)
  below_at n (s ∷ ss) zero b l = b.0
  below_at n (s ∷ ss) (suc i) b l = below_at n ss i b.1 (omega arith)

  pub rising : (ss : List (Slot R D)) → AreAscending ss → IsStrictlyIncreasing (numbers_of ss)
  rising [] up k l = absurd (omega arith)
  rising (s ∷ ss) up zero l = below_at s.number ss 0 up.0 (let e = length-numbers ss in omega arith)
  rising (s ∷ ss) up (suc k) l = rw add-one (rw add-one at (rising ss up.1 k (omega arith)))

  -- The half in which a binary search continues.
  pub later : (ss : List (Slot R D)) (m n k : ℕ) (s : Slot R D) → AreAscending ss → m < length ss → s ≡ get_or ss m s → s.number ≤ n → k < length ss → slice_index (numbers_of ss) k ≡ n → m ≤ k
  later ss m n k s up lm at le lk is =
      let len = length-numbers ss in
      search_laws.later (numbers_of ss) m n s.number k (rising ss up) (number_at ss m s lm at ∙ get_or_default (numbers_of ss) m 0 s.number (omega arith)) (omega arith) le (omega arith) is

  pub earlier : (ss : List (Slot R D)) (m n k : ℕ) (s : Slot R D) → AreAscending ss → m < length ss → s ≡ get_or ss m s → n < s.number → k < length ss → slice_index (numbers_of ss) k ≡ n → k < m
  earlier ss m n k s up lm at lt lk is =
      let len = length-numbers ss in
      search_laws.earlier (numbers_of ss) m n s.number k (rising ss up) (number_at ss m s lm at ∙ get_or_default (numbers_of ss) m 0 s.number (omega arith)) (omega arith) lt (omega arith) is

  -- There is no slot with a number below all.
  pub none_below : (n : ℕ) (ss : List (Slot R D)) → IsBelow n ss → slot_at ss n ≡ None
  none_below n [] b = refl
  none_below n (s ∷ ss) b = slot_later n s ss (λ e. absurd (let l = b.0 in omega arith)) ∙ none_below n ss b.1

  -- The slot at a place is the slot of its number.
  pub slot_there : (ss : List (Slot R D)) (i : ℕ) (s : Slot R D) → AreAscending ss → i < length ss → slot_at ss (slice_index (numbers_of ss) i) ≡ Some (get_or ss i s)
  slot_there [] i s up l = absurd (omega arith)
  slot_there (t ∷ ss) zero s up l = slot_first t ss
  slot_there (t ∷ ss) (suc i) s up l =
      let b = below_at t.number ss i up.0 (omega arith) in
      slot_later (slice_index (numbers_of ss) i) t ss (λ e. absurd (omega arith)) ∙ slot_there ss i s up.1 (omega arith)

  pub none_there : (ss : List (Slot R D)) (n : ℕ) → ((i : ℕ) → i < length ss → slice_index (numbers_of ss) i ≢ n) → slot_at ss n ≡ None
  none_there [] n absent = refl
  none_there (t ∷ ss) n absent = slot_later n t ss (λ e. absent 0 (omega arith) (sym e)) ∙ none_there ss n (λ i l. absent (suc i) (omega arith))

  -- The place of the slot with this number, if there is one.
  pub place_cases : (q : ℕ) (ss : List (Slot R D)) → ((i : ℕ) × (i < length ss) × (slice_index (numbers_of ss) i ≡ q)) ⊎ (slot_at ss q ≡ None)
  place_cases q [] = inr refl
  place_cases q (s ∷ ss) =
      ⊎_elim
      (λ (h : q ≡ s.number). inl (0, omega arith, sym h))
      (λ a. ⊎_elim (λ p. inl (suc p.0, let l = p.1 in omega arith, p.2)) (λ e. inr (slot_later q s ss a ∙ e)) (place_cases q ss))
      (cases_eq q s.number)

  -- A slot that is found has the number.
  pub found_number : (ss : List (Slot R D)) (q : ℕ) (s : Slot R D) → slot_at ss q ≡ Some s → s.number ≡ q
  found_number [] q s e = absurd (none_some s e)
  found_number (t ∷ ss) q s e =
      ⊎_elim
      (λ (h : q ≡ t.number). sym (ap (λ (u : Slot R D). u.number) (same_Some t s (sym (slot_first t ss) ∙ ap (slot_at (t ∷ ss)) (sym h) ∙ e))) ∙ sym h)
      (λ a. found_number ss q s (sym (slot_later q t ss a) ∙ e))
      (cases_eq q t.number)

  -- A slot that is found above a number has a higher number.
  pub below_found : (n : ℕ) (ss : List (Slot R D)) (q : ℕ) (s : Slot R D) → IsBelow n ss → slot_at ss q ≡ Some s → n < q
  below_found n [] q x b e = absurd (none_some x e)
  below_found n (s ∷ ss) q x b e =
      ⊎_elim
      (λ (h : q ≡ s.number). let l = b.0 in omega arith)
      (λ a. below_found n ss q x b.1 (sym (slot_later q s ss a) ∙ e))
      (cases_eq q s.number)

  below_set : (n : ℕ) (ss : List (Slot R D)) (i : ℕ) (t : Slot R D) → i < length ss → t.number ≡ slice_index (numbers_of ss) i → IsBelow n ss → IsBelow n (set ss i t)
  below_set n [] i t l e b = absurd (omega arith)
  below_set n (s ∷ ss) zero t l e b = (omega arith, b.1)
  below_set n (s ∷ ss) (suc i) t l e b = (b.0, below_set n ss i t (omega arith) e b.1)

  -- Replacing a slot with one of the same number keeps the order.
  pub ascending_set : (ss : List (Slot R D)) (i : ℕ) (t : Slot R D) → i < length ss → t.number ≡ slice_index (numbers_of ss) i → AreAscending ss → AreAscending (set ss i t)
  ascending_set [] i t l e up = absurd (omega arith)
  ascending_set (s ∷ ss) zero t l e up = (subst (λ n. IsBelow n ss) (sym e) up.0, up.1)
  ascending_set (s ∷ ss) (suc i) t l e up = (below_set s.number ss i t (omega arith) e up.0, ascending_set ss i t (omega arith) e up.1)

  chosen_twice : (q n : ℕ) (x y : Slot R D) (o : Option (Slot R D)) → cond (q == n) (Some x) o ≡ cond (q == n) (Some x) (cond (q == n) (Some y) o)
  chosen_twice q n x y o = elim (q == n) as (λ b. cond b (Some x) o ≡ cond b (Some x) (cond b (Some y) o)) [ true ↦ refl | false ↦ refl ]

  chosen_apart : (q n h : ℕ) (x y : Slot R D) (o : Option (Slot R D)) → h ≢ n → cond (q == h) (Some y) (cond (q == n) (Some x) o) ≡ cond (q == n) (Some x) (cond (q == h) (Some y) o)
  chosen_apart q n h x y o apart =
      ⊎_elim
      (λ (e : q ≡ h). ap (λ b. cond b (Some y) (cond (q == n) (Some x) o)) (same_number q h e) ∙ sym (ap (λ b. cond b (Some x) (cond (q == h) (Some y) o)) (other_number q n (λ f. apart (sym e ∙ f))) ∙ ap (λ b. cond b (Some y) o) (same_number q h e)))
      (λ n'. ap (λ b. cond b (Some y) (cond (q == n) (Some x) o)) (other_number q h n') ∙ sym (ap (λ b. cond (q == n) (Some x) (cond b (Some y) o)) (other_number q h n')))
      (cases_eq q h)

  pub slot_set : (ss : List (Slot R D)) (i : ℕ) (t : Slot R D) (q : ℕ) → AreAscending ss → i < length ss → t.number ≡ slice_index (numbers_of ss) i
      → slot_at (set ss i t) q ≡ cond (q == t.number) (Some t) (slot_at ss q)
  slot_set [] i t q up l e = absurd (omega arith)
  slot_set (s ∷ ss) zero t q up l e = chosen_twice q t.number t s (slot_at ss q) ∙ ap (λ n. cond (q == t.number) (Some t) (cond (q == n) (Some s) (slot_at ss q))) e
  slot_set (s ∷ ss) (suc i) t q up l e =
      let b = below_at s.number ss i up.0 (omega arith) in
      ap (λ o. cond (q == s.number) (Some s) o) (slot_set ss i t q up.1 (omega arith) e) ∙ chosen_apart q t.number s.number t s (slot_at ss q) (λ f. absurd (omega arith))

  below_push : (n : ℕ) (ss : List (Slot R D)) (s : Slot R D) → IsBelow n ss → n < s.number → IsBelow n (ss ++ s ∷ [])
  below_push n [] s b l = (l, tt)
  below_push n (t ∷ ss) s b l = (b.0, below_push n ss s b.1 l)

  pub ascending_push : (ss : List (Slot R D)) (s : Slot R D) → AreAscending ss → ((i : ℕ) → i < length ss → slice_index (numbers_of ss) i < s.number) → AreAscending (ss ++ s ∷ [])
  ascending_push [] s up above = (tt, tt)
  ascending_push (t ∷ ss) s up above = (below_push t.number ss s up.0 (above 0 (omega arith)), ascending_push ss s up.1 (λ i l. above (suc i) (omega arith)))

  pub slot_push : (ss : List (Slot R D)) (s : Slot R D) (q : ℕ) → ((i : ℕ) → i < length ss → slice_index (numbers_of ss) i < s.number)
      → slot_at (ss ++ s ∷ []) q ≡ cond (q == s.number) (Some s) (slot_at ss q)
  slot_push [] s q above = refl
  slot_push (t ∷ ss) s q above =
      let l = above 0 (omega arith) in
      ap (λ o. cond (q == t.number) (Some t) o) (slot_push ss s q (λ i l. above (suc i) (omega arith)))
      ∙ chosen_apart q s.number t.number s t (slot_at ss q) (λ e. absurd (omega arith))
