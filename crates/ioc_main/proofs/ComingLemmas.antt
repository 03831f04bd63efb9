-- The pieces of a script make up its lines.
use Rattle.std.proofs.Common.{◌≡◌, ℕ, ◌≤◌, List, [], ◌∷◌, ◌++◌, length, take, Some, None, refl, sym, ap, ◌∙◌, append-nil, inl, inr, arith}
use Rattle.std.proofs.lemmas.Bool.{cases_lt}
use Rattle.std.proofs.lemmas.List.{length-take, take_all, take-append-le, take-take}
use Rattle.ioc_commands.specs.Commands.{lines_of, cut, before, behind}
use Rattle.ioc_main.specs.Coming.{onto, to_come, CutsLines}
use Rattle.ioc_main.proofs.Cutting.{behind-lines, none-behind, onto-nil, onto-onto}

cut_push : (p ys : List ℕ) → cut (cut p ++ ys) ≡ cut (p ++ ys)
unfolding cut
cut_push p ys =
    elim (cases_lt 4097 (length p)) [
      | inl long ↦ take-append-le 4097 (take 4097 p) ys (omega (arith, length-take 4097 p)) ∙ take-take 4097 4097 p (omega arith) ∙ sym (take-append-le 4097 p ys (omega arith))
      | inr short ↦ rw (take_all 4097 p short) refl
    ]

pub cut-cut : (p : List ℕ) → cut (cut p) ≡ cut p
cut-cut p = ap cut (sym (append-nil (cut p))) ∙ cut_push p [] ∙ ap cut (append-nil p)

cut_none : cut [] ≡ []
unfolding cut
cut_none = refl

cut_some : (c : ℕ) (cs : List ℕ) → (ds : List ℕ) × (cut (c ∷ cs) ≡ c ∷ ds)
unfolding cut
cut_some c cs = (take 4096 cs, refl)

module _ (t : List (List ℕ) → List ℕ) where
  pub starts : (bytes : List ℕ) → to_come t [] bytes ≡ t (lines_of bytes)
  unfolding to_come
  starts bytes = ap t (onto-nil (lines_of bytes))

  -- A line ends in a piece.
  pub at_end : (line piece after rest : List ℕ) → behind 10 piece ≡ Some after → to_come t line (piece ++ rest) ≡ t ((line ++ before 10 piece) ∷ lines_of (after ++ rest))
  unfolding to_come
  at_end line piece after rest is = ap (λ (ls : List (List ℕ)). t (onto line ls)) (behind-lines piece after rest is)

  last_some : (p : List ℕ) (d : ℕ) (ds : List ℕ) → p ≡ d ∷ ds → t (onto p []) ≡ t (p ∷ [])
  last_some p d ds e = rw e refl

  module _ (cuts : CutsLines t) where
    onto_cut : (p : List ℕ) (ls : List (List ℕ)) → t (onto (cut p) ls) ≡ t (onto p ls)
    onto_cut [] [] = ap (λ (p : List ℕ). t (onto p [])) cut_none
    onto_cut (c ∷ cs) [] = let k = cut_some c cs in last_some (cut (c ∷ cs)) c k.0 k.1 ∙ cuts (cut (c ∷ cs)) (c ∷ cs) [] (cut-cut (c ∷ cs))
    onto_cut p (l ∷ ls) = cuts (cut p ++ l) (p ++ l) ls (cut_push p l)

    -- No line ends in a piece.
    pub at_more : (line piece rest kept : List ℕ) → behind 10 piece ≡ None → kept ≡ cut (line ++ piece) → to_come t line (piece ++ rest) ≡ to_come t kept rest
    unfolding to_come
    at_more line piece rest kept is e =
        ap (λ (ls : List (List ℕ)). t (onto line ls)) (none-behind piece rest is)
        ∙ ap t (onto-onto line piece (lines_of rest))
        ∙ sym (onto_cut (line ++ piece) (lines_of rest))
        ∙ ap (λ (p : List ℕ). t (onto p (lines_of rest))) (sym e)

  pub last_line : (c : ℕ) (cs : List ℕ) → to_come t (c ∷ cs) [] ≡ t ((c ∷ cs) ∷ [])
  unfolding to_come
  last_line c cs = refl

  pub last_line-of : (line : List ℕ) → 1 ≤ length line → to_come t line [] ≡ t (line ∷ [])
  last_line-of [] h = absurd (omega (arith, h))
  last_line-of (c ∷ cs) h = last_line c cs
