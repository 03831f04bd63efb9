-- A sign at the front of a line is the next token.
use Rattle.std.proofs.Common.{◌≡◌, ℕ, Bool, true, false, cond, ◌&&◌, eqb, List, [], ◌∷◌, length, Option, Some, None, refl, sym, ap, ◌∙◌, inl, inr, eq-eqb}
use Rattle.std.proofs.lemmas.Bool.{cases_Bool, eqb-true}
use Rattle.ioc_dblex.specs.declared.texts.End.{End}
use Rattle.ioc_dblex.specs.declared.texts.End.TheVariants.{Whole, BadMacro, TooLong}
use Rattle.ioc_dblex.specs.declared.token.TokenKind.TheVariants.{Sign}
use Rattle.ioc_dblex.specs.Bytes.{is_word_byte, quoted_of, behind_quoted, behind_gap}
use Rattle.ioc_dblex.specs.Lexing.{Lexeme, Cut, bare, quoted_at, is_sign, behind_sign, is_fault, token_by, token_at}
use Rattle.ioc_dblex.specs.Texts.{parts_of}
use Rattle.ioc_dblex.specs.Tokens.{end_of, tokens_at}
use Rattle.ioc_dblex.specs.Signs.{is_sign_of, takes_sign}
use Rattle.ioc_dblex.proofs.Advance.{ends, one}

both : (a b : Bool) → (a && b) ≡ true → (a ≡ true) × (b ≡ true)
both true b e = (refl, e)
both false b e = cc

chosen : {X : Type 0} (t : Bool) (x y : X) → cond t (Some x) None ≡ Some y → (t ≡ true) × (x ≡ y)
chosen true x y e = (refl, cc)
chosen false x y e = absurd cc

refused : {X : Type 0} (t : Bool) (x : X) → cond t (Some x) None ≡ None → t ≡ false
refused true x e = absurd cc
refused false x e = refl

same : (b : ℕ) → eqb b b ≡ true
same b = eq-eqb b b refl

by_sign : (line b : ℕ) (bs : List ℕ) → is_sign b ≡ true → token_by line b bs ≡ bare line (Sign b) bs
by_sign line b bs is = rw is refl

at_sign : (line b c : ℕ) (bs rest : List ℕ) → behind_sign b (c ∷ bs) ≡ Some rest → token_at line (c ∷ bs) ≡ Some (bare line (Sign b) rest)
unfolding token_at
at_sign line b c bs rest e =
    let k = chosen (eqb c b && is_sign b) bs rest e in
    let p = both (eqb c b) (is_sign b) k.0 in
    let here : c ≡ b = eqb-true c b p.0 in
    rw (here, ← k.1) (ap Some (by_sign line b bs p.1))

pub takes_here : (line b : ℕ) (rest left : List ℕ) (behind : List (List ℕ)) (end : End) → behind_gap rest ≡ rest → behind_sign b rest ≡ Some left
    → (true, tokens_at line left behind end) ≡ takes_sign b (tokens_at line rest behind end)
takes_here line b [] left behind end solid e = absurd cc
takes_here line b (c ∷ bs) left behind end solid e =
    rw (one line (c ∷ bs) behind end (bare line (Sign b) left) solid (at_sign line b c bs left e)) (rw (same b) refl)

quoted_kind : (b line : ℕ) (text bs : List ℕ) → is_sign_of b (quoted_at line text bs).token.kind ≡ false
quoted_kind b line text [] = refl
quoted_kind b line text (c ∷ bs) = refl

kind_by : (b line c : ℕ) (bs : List ℕ) → (is_sign c ≡ true → eqb c b ≡ false) → is_sign_of b (token_by line c bs).token.kind ≡ false
kind_by b line c bs h =
    elim (cases_Bool (is_sign c)) [
      | inl is ↦ rw is (h is)
      | inr none ↦ elim (cases_Bool (eqb c 34)) [
        | inl is ↦ rw (none, is) (quoted_kind b line (quoted_of false bs) (behind_quoted false bs))
        | inr is ↦ elim (cases_Bool (is_word_byte c)) [ inl word ↦ rw (none, is, word) refl | inr other ↦ rw (none, is, other) refl ]
      ]
    ]

another : (b c : ℕ) → (eqb c b && is_sign b) ≡ false → is_sign c ≡ true → eqb c b ≡ false
another b c e is =
    elim (cases_Bool (eqb c b)) [
      | inl here ↦ (
          let at : c ≡ b = eqb-true c b here in
          let sign : is_sign b ≡ true = ap is_sign (sym at) ∙ is in
          let all : (eqb c b && is_sign b) ≡ true = ap (λ t. t && is_sign b) here ∙ sign in
          absurd cc)
      | inr other ↦ other
    ]

end_stays : (b line : ℕ) (end : End) → (false, end_of end line) ≡ takes_sign b (end_of end line)
end_stays b line Whole = refl
end_stays b line BadMacro = refl
end_stays b line TooLong = refl

stays : (b : ℕ) (token : Lexeme) (others : List Lexeme) → is_sign_of b token.kind ≡ false → (false, token ∷ others) ≡ takes_sign b (token ∷ others)
stays b token others e = rw e refl

pub takes_none : (line b : ℕ) (rest lengths bytes : List ℕ) (end : End) → behind_gap rest ≡ rest → (length rest ≡ 0 → length lengths ≡ 0) → behind_sign b rest ≡ None
    → (false, tokens_at line rest (parts_of lengths bytes) end) ≡ takes_sign b (tokens_at line rest (parts_of lengths bytes) end)
unfolding token_at
takes_none line b [] lengths bytes end solid last e = rw (ends line [] lengths bytes end refl last) (end_stays b _ end)
takes_none line b (c ∷ bs) lengths bytes end solid last e =
    let no = refused (eqb c b && is_sign b) bs e in
    let k = kind_by b line c bs (another b c no) in
    rw (one line (c ∷ bs) (parts_of lengths bytes) end (token_by line c bs) solid refl) (stays b (token_by line c bs).token _ k)
