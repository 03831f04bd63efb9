-- When slots are divided by the numbers of their parts, each goes to one side.
use Rattle.std.proofs.Common.{◌≡◌, ◌≢◌, ℕ, zero, suc, ◌+◌, ◌<◌, ◌≤◌, List, [], ◌∷◌, ◌++◌, None, Bool, true, false, cond, length, drop, get_or, refl, sym, ap, ◌∙◌, ⊎_elim, append_assoc, arith, drop-cons, add-one}
use Rattle.std.specs.Prelude.{slice_index, not, filter}
use Rattle.std.proofs.lemmas.Bool.{cases_eq}
use Rattle.ioc_set_records.specs.declared.slots.Slot.{Slot}
use Rattle.ioc_set_records.specs.Slots.{numbers_of, IsBelow, AreAscending}
use Rattle.ioc_set_records.specs.Dealt.{dealt}
use Rattle.ioc_set_records.proofs.Slotted.{none_some, slot_at, slot_first, slot_later, none_below, below_at}

module _ {R D : Type 0} where
  module _ (p : ℕ → Bool) where
    below_cond : (b : Bool) (n : ℕ) (s : Slot R D) (ss : List (Slot R D)) → n < s.number → IsBelow n ss → IsBelow n (cond b (s ∷ ss) ss)
    below_cond true n s ss l b = (l, b)
    below_cond false n s ss l b = b

    below_dealt : (n : ℕ) (ns : List ℕ) (ss : List (Slot R D)) → IsBelow n ss → IsBelow n (dealt p ns ss)
    below_dealt n [] ss b = tt
    below_dealt n (m ∷ ns) [] b = tt
    below_dealt n (m ∷ ns) (s ∷ ss) b = below_cond (p m) n s (dealt p ns ss) b.0 (below_dealt n ns ss b.1)

    ascending_cond : (b : Bool) (s : Slot R D) (ss : List (Slot R D)) → IsBelow s.number ss → AreAscending ss → AreAscending (cond b (s ∷ ss) ss)
    ascending_cond true s ss l up = (l, up)
    ascending_cond false s ss l up = up

    pub ascending_dealt : (ns : List ℕ) (ss : List (Slot R D)) → AreAscending ss → AreAscending (dealt p ns ss)
    ascending_dealt [] ss up = tt
    ascending_dealt (m ∷ ns) [] up = tt
    ascending_dealt (m ∷ ns) (s ∷ ss) up = ascending_cond (p m) s (dealt p ns ss) (below_dealt s.number ns ss up.0) (ascending_dealt ns ss up.1)

    first_dealt : (b : Bool) (s : Slot R D) (ss ds : List (Slot R D)) → IsBelow s.number ds → slot_at (cond b (s ∷ ds) ds) s.number ≡ cond b (slot_at (s ∷ ss) s.number) None
    first_dealt true s ss ds b = slot_first s ds ∙ sym (slot_first s ss)
    first_dealt false s ss ds b = none_below s.number ds b

    later_dealt : (b : Bool) (q : ℕ) (s : Slot R D) (ds : List (Slot R D)) → q ≢ s.number → slot_at (cond b (s ∷ ds) ds) q ≡ slot_at ds q
    later_dealt true q s ds apart = slot_later q s ds apart
    later_dealt false q s ds apart = refl

    -- A side has a slot if and only if the number of the slot passes.
    pub found_dealt : (ns : List ℕ) (ss : List (Slot R D)) (i : ℕ) → AreAscending ss → length ns ≡ length ss → i < length ss
        → slot_at (dealt p ns ss) (slice_index (numbers_of ss) i) ≡ cond (p (slice_index ns i)) (slot_at ss (slice_index (numbers_of ss) i)) None
    found_dealt ns [] i up e l = absurd (omega arith)
    found_dealt [] (s ∷ ss) i up e l = absurd (omega arith)
    found_dealt (n ∷ ns) (s ∷ ss) zero up e l = first_dealt (p n) s ss (dealt p ns ss) (below_dealt s.number ns ss up.0)
    found_dealt (n ∷ ns) (s ∷ ss) (suc i) up e l =
        let q = slice_index (numbers_of ss) i in
        let b = below_at s.number ss i up.0 (omega arith) in
        let apart : q ≢ s.number = λ h. absurd (omega arith) in
        later_dealt (p n) q s (dealt p ns ss) apart ∙ found_dealt ns ss i up.1 (omega arith) (omega arith)
        ∙ ap (λ o. cond (p (slice_index ns i)) o None) (sym (slot_later q s ss apart))

    -- A side has no slot that wasn't there.
    pub none_dealt : (ns : List ℕ) (ss : List (Slot R D)) (q : ℕ) → slot_at ss q ≡ None → slot_at (dealt p ns ss) q ≡ None
    none_dealt [] ss q e = refl
    none_dealt (n ∷ ns) [] q e = refl
    none_dealt (n ∷ ns) (s ∷ ss) q e =
        ⊎_elim
        (λ (h : q ≡ s.number). absurd (none_some s (sym e ∙ ap (slot_at (s ∷ ss)) h ∙ slot_first s ss)))
        (λ a. later_dealt (p n) q s (dealt p ns ss) a ∙ none_dealt ns ss q (sym (slot_later q s ss a) ∙ e))
        (cases_eq q s.number)

    -- One more slot goes to its side.
    dealt_more : (out all : List (Slot R D)) (ns : List ℕ) (i : ℕ) (left after : List (Slot R D)) (s : Slot R D) → i < length ns → left ≡ s ∷ after → out ++ dealt p (drop i ns) left ≡ all
        → out ++ cond (p (get_or ns i 0)) (s ∷ dealt p (drop (i + 1) ns) after) (dealt p (drop (i + 1) ns) after) ≡ all
    dealt_more out all ns i left after s l is was =
        let n = get_or ns i 0 in
        let at : drop i ns ≡ n ∷ drop (i + 1) ns = rw (add-one) (drop-cons ns i 0 l) in
        sym (ap (λ z. out ++ dealt p z (s ∷ after)) at) ∙ sym (ap (λ z. out ++ dealt p (drop i ns) z) is) ∙ was

    -- A slot whose number passes goes to the end of the side.
    dealt_in : (out all outs : List (Slot R D)) (ns : List ℕ) (i : ℕ) (left after : List (Slot R D)) (s : Slot R D) → i < length ns → left ≡ s ∷ after → out ++ dealt p (drop i ns) left ≡ all
        → p (get_or ns i 0) ≡ true → outs ≡ out ++ s ∷ [] → outs ++ dealt p (drop (i + 1) ns) after ≡ all
    dealt_in out all outs ns i left after s l is was passes out_is =
        let ds = dealt p (drop (i + 1) ns) after in
        ap (λ z. z ++ ds) out_is ∙ append_assoc out (s ∷ []) ds ∙ sym (ap (λ b. out ++ cond b (s ∷ ds) ds) passes) ∙ dealt_more out all ns i left after s l is was

    -- Any other slot leaves the side unchanged.
    dealt_by : (out all outs : List (Slot R D)) (ns : List ℕ) (i : ℕ) (left after : List (Slot R D)) (s : Slot R D) → i < length ns → left ≡ s ∷ after → out ++ dealt p (drop i ns) left ≡ all
        → p (get_or ns i 0) ≡ false → outs ≡ out → outs ++ dealt p (drop (i + 1) ns) after ≡ all
    dealt_by out all outs ns i left after s l is was fails out_is =
        let ds = dealt p (drop (i + 1) ns) after in
        ap (λ z. z ++ ds) out_is ∙ sym (ap (λ b. out ++ cond b (s ∷ ds) ds) fails) ∙ dealt_more out all ns i left after s l is was

-- The number of numbers that pass.
module _ (p : ℕ → Bool) where
  le_more : (b : Bool) (n : ℕ) (ns fs : List ℕ) → length fs ≤ length ns → length (cond b (n ∷ fs) fs) ≤ length (n ∷ ns)
  le_more true n ns fs l = omega arith
  le_more false n ns fs l = omega arith

  count_le : (ns : List ℕ) → length (filter p ns) ≤ length ns
  count_le [] = omega arith
  count_le (n ∷ ns) = le_more (p n) n ns (filter p ns) (count_le ns)

  both_more : (b : Bool) (n : ℕ) (ns fs gs : List ℕ) → length fs + length gs ≡ length ns → length (cond b (n ∷ fs) fs) + length (cond (not b) (n ∷ gs) gs) ≡ length (n ∷ ns)
  both_more true n ns fs gs e = omega arith
  both_more false n ns fs gs e = omega arith

  pub count_both : (ns : List ℕ) → length (filter p ns) + length (filter (λ n. not (p n)) ns) ≡ length ns
  count_both [] = omega arith
  count_both (n ∷ ns) = both_more (p n) n ns (filter p ns) (filter (λ n. not (p n)) ns) (count_both ns)

  -- If all pass, the first does, and so do the others.
  first_passes : (b : Bool) (n : ℕ) (ns : List ℕ) → length (cond b (n ∷ filter p ns) (filter p ns)) ≡ length (n ∷ ns) → (b ≡ true) × (length (filter p ns) ≡ length ns)
  first_passes true n ns e = (refl, omega arith)
  first_passes false n ns e = absurd (let l = count_le ns in omega arith)

  -- The remaining count with one more that passes, and with one that doesn't.
  pub count_in : (ns : List ℕ) (i : ℕ) → i < length ns → p (get_or ns i 0) ≡ true → length (filter p (drop i ns)) ≡ length (filter p (drop (i + 1) ns)) + 1
  count_in ns i l passes =
      let n = get_or ns i 0 in
      let at : drop i ns ≡ n ∷ drop (i + 1) ns = rw (add-one) (drop-cons ns i 0 l) in
      ap (λ z. length (filter p z)) at ∙ ap (λ b. length (cond b (n ∷ filter p (drop (i + 1) ns)) (filter p (drop (i + 1) ns)))) passes ∙ omega arith

  count_by : (ns : List ℕ) (i : ℕ) → i < length ns → p (get_or ns i 0) ≡ false → length (filter p (drop i ns)) ≡ length (filter p (drop (i + 1) ns))
  count_by ns i l fails =
      let n = get_or ns i 0 in
      let at : drop i ns ≡ n ∷ drop (i + 1) ns = rw (add-one) (drop-cons ns i 0 l) in
      ap (λ z. length (filter p z)) at ∙ ap (λ b. length (cond b (n ∷ filter p (drop (i + 1) ns)) (filter p (drop (i + 1) ns)))) fails

  -- If all pass, all slots stay.
  module _ {R D : Type 0} where
    pub all_dealt : (ns : List ℕ) (ss : List (Slot R D)) → length ns ≡ length ss → length (filter p ns) ≡ length ns → dealt p ns ss ≡ ss
    all_dealt [] [] len all = refl
    all_dealt [] (s ∷ ss) len all = absurd (omega arith)
    all_dealt (n ∷ ns) [] len all = absurd (omega arith)
    all_dealt (n ∷ ns) (s ∷ ss) len all =
        let f = first_passes (p n) n ns all in
        ap (λ b. cond b (s ∷ dealt p ns ss) (dealt p ns ss)) f.0 ∙ ap (λ z. s ∷ z) (all_dealt ns ss (omega arith) f.1)

    pub none_dealt_away : (ns : List ℕ) (ss : List (Slot R D)) → length ns ≡ length ss → length (filter p ns) ≡ length ns → dealt (λ n. not (p n)) ns ss ≡ []
    none_dealt_away [] ss len all = refl
    none_dealt_away (n ∷ ns) [] len all = refl
    none_dealt_away (n ∷ ns) (s ∷ ss) len all =
        let f = first_passes (p n) n ns all in
        ap (λ b. cond (not b) (s ∷ dealt (λ n. not (p n)) ns ss) (dealt (λ n. not (p n)) ns ss)) f.0 ∙ none_dealt_away ns ss (omega arith) f.1

-- A side of a division: its slots, and its room for those to come.
module _ {R D : Type 0} (p : ℕ → Bool) (all out outs : List (Slot R D)) (ns : List ℕ) (i : ℕ) (left after : List (Slot R D)) (s : Slot R D) (len cap lens caps : ℕ) (l : i < length ns) (is : left ≡ s ∷ after) where
  -- One more slot goes to the side.
  pub side_in : p (get_or ns i 0) ≡ true → out ++ dealt p (drop i ns) left ≡ all → len + length (filter p (drop i ns)) ≤ cap → outs ≡ out ++ s ∷ [] → lens ≡ len + 1 → caps ≡ cap
      → (outs ++ dealt p (drop (i + 1) ns) after ≡ all) × (lens + length (filter p (drop (i + 1) ns)) ≤ caps)
  side_in passes was room out_is lens_are caps_are = (dealt_in p out all outs ns i left after s l is was passes out_is, omega (arith, count_in p ns i l passes, room, lens_are, caps_are))

  -- The slot goes to the other side.
  pub side_by : p (get_or ns i 0) ≡ false → out ++ dealt p (drop i ns) left ≡ all → len + length (filter p (drop i ns)) ≤ cap → outs ≡ out → lens ≡ len → caps ≡ cap
      → (outs ++ dealt p (drop (i + 1) ns) after ≡ all) × (lens + length (filter p (drop (i + 1) ns)) ≤ caps)
  side_by fails was room out_is lens_are caps_are = (dealt_by p out all outs ns i left after s l is was fails out_is, omega (arith, count_by p ns i l fails, room, lens_are, caps_are))
