-- Marks of the records that are in one of the parts.
use Rattle.std.proofs.Common.{◌≡◌, ℕ, List, [], ◌∷◌, ◌++◌, Bool, true, false, set, sym, subst, ◌∙◌, inl, inr, ⊎_elim, arith}
use Rattle.std.proofs.lemmas.Bool.{cases_eq}
use Rattle.std.proofs.lemmas.List.{length-append, get_or_append_left, get_or-set_other}
use Rattle.std.proofs.lemmas.List.Elements.{Contains-append_left, Contains-push}
use Rattle.std.specs.Prelude.{◌⊎◌, Any, Contains}
use Rattle.ioc_topology.specs.Gathered.{IsMarked}

mark_from : (marks : List Bool) (n q : ℕ) → IsMarked (set marks n true) q → IsMarked marks q ⊎ (q ≡ n)
mark_from marks n q m = ⊎_elim (λ e. inr e) (λ ne. inl (sym (get_or-set_other marks n q true false ne) ∙ m)) (cases_eq q n)

-- The records marked after one more mark are those before it, or those named so far with one more.
pub marked_more : (before marks : List Bool) (ns : List ℕ) (n : ℕ) → ((q : ℕ) → IsMarked marks q → IsMarked before q ⊎ Contains ns q)
    → (q : ℕ) → IsMarked (set marks n true) q → IsMarked before q ⊎ Contains (ns ++ n ∷ []) q
marked_more before marks ns n so_far q m =
    ⊎_elim
    (λ old. ⊎_elim (λ b. inl b) (λ c. inr (Contains-append_left ns (n ∷ []) q c)) (so_far q old))
    (λ (e : q ≡ n). inr (subst (λ p. Contains (ns ++ n ∷ []) p) (sym e) (Contains-push ns n)))
    (mark_from marks n q m)

-- The same with a record that has no place among the marks.
pub named_more : (before marks : List Bool) (ns : List ℕ) (n : ℕ) → ((q : ℕ) → IsMarked marks q → IsMarked before q ⊎ Contains ns q)
    → (q : ℕ) → IsMarked marks q → IsMarked before q ⊎ Contains (ns ++ n ∷ []) q
named_more before marks ns n so_far q m = ⊎_elim (λ b. inl b) (λ c. inr (Contains-append_left ns (n ∷ []) q c)) (so_far q m)

-- An element that satisfies a predicate still does so in a list with one more element.
pub in_more : {X : Type 0} (P : X → Type 0) (xs : List X) (x : X) → Any P xs → Any P (xs ++ x ∷ [])
in_more P xs x any =
    let long = length-append xs (x ∷ []) in
    let lt = any.2 in
    (any.0, any.1, omega (arith, long, lt), get_or_append_left xs (x ∷ []) any.1 any.0 lt ∙ any.3, any.4)
