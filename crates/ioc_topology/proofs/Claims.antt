-- Marks of records that were found.
use Rattle.std.proofs.Common.{◌≡◌, ◌⊎◌, inl, inr, ⊎_elim, ◌<◌, ℕ, List, [], ◌∷◌, ◌++◌, Bool, true, false, set, length, get_or, slice_index_or, Contains, Any, sym, ap, ◌∙◌, subst, rules, arith}
use Rattle.std.proofs.lemmas.Bool.{cases_eq, cases_lt}
use Rattle.std.proofs.lemmas.List.{get_or-set_same, get_or-set_other}
use Rattle.std.proofs.lemmas.List.Elements.{Contains-append_left, Contains-append_right, Contains-append_cases}
use Rattle.std.proofs.lemmas.List.Quantifiers.{all_pairs_push}
use Rattle.std.proofs.lemmas.Grind.{common_steps}
use Rattle.ioc_topology.specs.Gathered.{AreApart, IsMarked, IsClaimed, AreFound}

none_there : {X : Type 0} (x : X) → Contains [] x → ⊥
none_there x h = omega (arith, h.1)

-- No records are marked at first.
pub claimed_none : (marks : List Bool) → IsClaimed marks marks []
claimed_none marks = record { free = λ p q m h. absurd (none_there q h); marked = λ q. (λ m. inl m, ⊎_elim (λ m. m) (λ h. absurd (none_there q h))) }

true_false : true ≡ false → ⊥
true_false e = search rules

-- A marked record was marked before, or is the one marked last.
mark_from : (marks : List Bool) (n q : ℕ) → IsMarked (set marks n true) q → IsMarked marks q ⊎ (q ≡ n)
mark_from marks n q m = ⊎_elim (λ e. inr e) (λ ne. inl (sym (get_or-set_other marks n q true false ne) ∙ m)) (cases_eq q n)

mark_kept : (marks : List Bool) (n q : ℕ) → n < length marks → IsMarked marks q ⊎ (q ≡ n) → IsMarked (set marks n true) q
mark_kept marks n q lt m = ⊎_elim
    (λ e. subst (λ k. IsMarked (set marks n true) k) (sym e) (get_or-set_same marks n true false lt))
    (λ ne. ⊎_elim (λ old. get_or-set_other marks n q true false ne ∙ old) (λ e. absurd (ne e)) m)
    (cases_eq q n)

only : (n q : ℕ) → Contains (n ∷ []) q → q ≡ n
only n q h = let z : h.0 ≡ 0 = omega (arith, h.1) in sym (subst (λ (k : ℕ). slice_index_or (n ∷ []) k q ≡ q) z h.2)

itself : (n q : ℕ) → q ≡ n → Contains (n ∷ []) q
itself n q e = (0, omega arith, sym e)

pub claimed_more : (before after : List Bool) (ns : List ℕ) (n : ℕ) → IsClaimed before after ns → n < length after → slice_index_or after n false ≡ false
    → IsClaimed before (set after n true) (ns ++ n ∷ [])
claimed_more before after ns n h lt clear = record {
  free = λ p q m there. ⊎_elim
      (λ old. h.free p q m old)
      (λ new. λ same. true_false (sym ((h.marked p).1 (inl m)) ∙ ap (λ k. slice_index_or after k false) (same ∙ only n q new) ∙ clear))
      (Contains-append_cases ns (n ∷ []) q there);
  marked = λ q. (
    λ m. ⊎_elim
        (λ old. ⊎_elim (λ b. inl b) (λ there. inr (Contains-append_left ns (n ∷ []) q there)) ((h.marked q).0 old))
        (λ e. inr (Contains-append_right ns (n ∷ []) q (itself n q e)))
        (mark_from after n q m),
    ⊎_elim
        (λ b. mark_kept after n q lt (inl ((h.marked q).1 (inl b))))
        (λ there. ⊎_elim
        (λ old. mark_kept after n q lt (inl ((h.marked q).1 (inr old))))
        (λ new. mark_kept after n q lt (inr (only n q new)))
        (Contains-append_cases ns (n ∷ []) q there)),
  );
}

-- An element that satisfies a predicate still does so in a list with one more element.
any_left : {X : Type 0} (P : X → Type 0) (xs : List X) (x : X) → Any P xs → Any P (xs ++ x ∷ [])
any_left {X} P xs x h =
    let k : ℕ = h.0 in
    let y : X = h.1 in
    let lt : k < length xs = h.2 in
    let low : get_or (xs ++ x ∷ []) k y ≡ get_or xs k y = grind (arith, common_steps) in
    (k, y, grind (arith, common_steps), low ∙ h.3, h.4)

any_last : {X : Type 0} (P : X → Type 0) (xs : List X) (x : X) → P x → Any P (xs ++ x ∷ [])
any_last P xs x h = (length xs, x, grind (arith, common_steps), grind (arith, common_steps), h)

any_cases : {X : Type 0} (P : X → Type 0) (xs : List X) (x : X) → Any P (xs ++ x ∷ []) → Any P xs ⊎ P x
any_cases {X} P xs x h =
    let k : ℕ = h.0 in
    let y : X = h.1 in
    let within : k < length (xs ++ x ∷ []) = h.2 in
    ⊎_elim
    (λ old. let low : get_or (xs ++ x ∷ []) k y ≡ get_or xs k y = grind (arith, common_steps) in inl (k, y, old, sym low ∙ h.3, h.4))
    (λ last. let high : get_or (xs ++ x ∷ []) k y ≡ x = grind (arith, common_steps) in inr (subst P (sym h.3 ∙ high) h.4))
    (cases_lt k (length xs))

pub found_none : {S : Type 0} (numbers : S → List ℕ) (marks : List Bool) → ((q : ℕ) → slice_index_or marks q false ≡ false) → AreFound numbers marks []
found_none numbers marks clear = record {
  once = λ i j d lt within. absurd (omega (arith, within));
  marked = λ q. (λ m. absurd (true_false (sym m ∙ clear q)), λ h. absurd (omega (arith, h.2)));
}

pub found_more : {S : Type 0} (numbers : S → List ℕ) (before after : List Bool) (sets : List S) (s : S)
    → AreFound numbers before sets → IsClaimed before after (numbers s) → AreFound numbers after (sets ++ s ∷ [])
found_more {S} numbers before after sets s h claim = record {
  once = all_pairs_push (AreApart numbers) sets s h.once
      (λ k d lt p q there here. claim.free p q ((h.marked p).1 (k, get_or sets k d, lt, get_or_same sets k (get_or sets k d) d lt, there)) here);
  marked = λ q. (
    λ m. ⊎_elim
        (λ old. any_left (λ t. Contains (numbers t) q) sets s ((h.marked q).0 old))
        (λ new. any_last (λ t. Contains (numbers t) q) sets s new)
        ((claim.marked q).0 m),
    λ any. (claim.marked q).1 (⊎_elim
        (λ old. inl ((h.marked q).1 old))
        (λ new. inr new)
        (any_cases (λ t. Contains (numbers t) q) sets s any)),
  );
}
  where
    get_or_same : {X : Type 0} (xs : List X) (k : ℕ) (d e : X) → k < length xs → get_or xs k d ≡ get_or xs k e
    get_or_same xs k d e lt = grind (arith, common_steps)
