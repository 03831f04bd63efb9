-- Texts with their macros replaced, piece by piece.
use Rattle.std.proofs.Common.{◌≡◌, ℕ, zero, suc, true, false, ◌&&◌, eqb, List, [], ◌∷◌, ◌++◌, drop, Option, Some, None, refl, sym, ap, ◌∙◌, append_assoc, inl, inr}
use Rattle.std.proofs.lemmas.Bool.{cases_Bool}
use Rattle.ioc_dblex.specs.Macros.{Defined, Use, front_of, back_of, opens_macro, onto_text, use_at, replaced_behind, replaced}

-- The skipped bytes belong to a macro that is replaced already.
pub skipped : (n : ℕ) (ds : List Defined) (bs : List ℕ) → replaced_behind n ds bs ≡ replaced ds (drop n bs)
skipped zero ds [] = refl
skipped (suc n) ds [] = refl
skipped zero ds (b ∷ bs) = refl
skipped (suc n) ds (b ∷ bs) = skipped n ds bs

pub onto_onto : (xs ys : List ℕ) (o : Option (List ℕ)) → onto_text xs (onto_text ys o) ≡ onto_text (xs ++ ys) o
onto_onto xs ys None = refl
onto_onto xs ys (Some t) = ap (λ (l : List ℕ). Some l) (sym (append_assoc xs ys t))

-- A text that begins with a macro use is replaced by the macro's value, followed by the rest.
pub use_piece : (ds : List Defined) (b : ℕ) (bs : List ℕ) (used : Use) → ((eqb b 36) && opens_macro bs) ≡ true → use_at ds bs ≡ Some used → replaced ds (b ∷ bs) ≡ onto_text used.value (replaced ds (drop used.size bs))
use_piece ds b bs used opens is = rw (opens, is) (ap (onto_text used.value) (skipped used.size ds bs))

pub no_piece : (ds : List Defined) (b : ℕ) (bs : List ℕ) → ((eqb b 36) && opens_macro bs) ≡ true → use_at ds bs ≡ None → replaced ds (b ∷ bs) ≡ None
no_piece ds b bs opens is = rw (opens, is) refl

-- The bytes up to the next `$` are kept.
plain_run : (ds : List Defined) (bs : List ℕ) → replaced ds bs ≡ onto_text (front_of 36 bs) (replaced ds (back_of 36 bs))
plain_run ds [] = refl
plain_run ds (b ∷ bs) =
    elim (cases_Bool (eqb b 36)) [
      | inl is ↦ here is
      | inr is ↦ rw is (ap (onto_text (b ∷ [])) (plain_run ds bs) ∙ onto_onto (b ∷ []) (front_of 36 bs) (replaced ds (back_of 36 bs)))
    ]
  where
    onto_nil : (o : Option (List ℕ)) → o ≡ onto_text [] o
    onto_nil None = refl
    onto_nil (Some t) = refl

    here : eqb b 36 ≡ true → replaced ds (b ∷ bs) ≡ onto_text (front_of 36 (b ∷ bs)) (replaced ds (back_of 36 (b ∷ bs)))
    here is =
        let front : [] ≡ front_of 36 (b ∷ bs) = rw is refl in
        let back : b ∷ bs ≡ back_of 36 (b ∷ bs) = rw is refl in
        onto_nil (replaced ds (b ∷ bs)) ∙ ap (λ (l : List ℕ). onto_text l (replaced ds (b ∷ bs))) front ∙ ap (λ (l : List ℕ). onto_text (front_of 36 (b ∷ bs)) (replaced ds l)) back

pub run_piece : (ds : List Defined) (b : ℕ) (bs : List ℕ) → ((eqb b 36) && opens_macro bs) ≡ false → replaced ds (b ∷ bs) ≡ onto_text (b ∷ front_of 36 bs) (replaced ds (back_of 36 bs))
run_piece ds b bs opens = rw opens (ap (onto_text (b ∷ [])) (plain_run ds bs) ∙ onto_onto (b ∷ []) (front_of 36 bs) (replaced ds (back_of 36 bs)))

-- A text without a `$` is kept.
pub plain_same : (ds : List Defined) (bs : List ℕ) → back_of 36 bs ≡ [] → front_of 36 bs ≡ bs → replaced ds bs ≡ Some bs
plain_same ds bs back front =
    plain_run ds bs ∙ ap (λ (l : List ℕ). onto_text (front_of 36 bs) (replaced ds l)) back ∙ rw front (ap (λ (l : List ℕ). Some l) (append_nil' bs))
  where
    append_nil' : (xs : List ℕ) → xs ++ [] ≡ xs
    append_nil' [] = refl
    append_nil' (x ∷ xs) = ap (λ (l : List ℕ). x ∷ l) (append_nil' xs)
