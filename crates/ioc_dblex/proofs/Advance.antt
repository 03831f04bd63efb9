-- The tokens at a place in some lines.
use Rattle.std.proofs.Common.{◌≡◌, ℕ, ◌+◌, Bool, true, false, cond, List, [], ◌∷◌, length, Option, Some, None, refl, sym, ap, ◌∙◌, arith}
use Rattle.ioc_dblex.specs.declared.texts.End.{End}
use Rattle.ioc_dblex.specs.declared.texts.End.TheVariants.{Whole, BadMacro, TooLong}
use Rattle.ioc_dblex.specs.Bytes.{behind_gap}
use Rattle.ioc_dblex.specs.Lexing.{Lexeme, Cut, is_fault, token_at}
use Rattle.ioc_dblex.specs.Tokens.{end_of, tokens_of, tokens_at, TakesToken, front_of}
use Rattle.ioc_dblex.specs.Texts.{parts_of}
use Rattle.ioc_dblex.proofs.Turns.{tokens_nil, one_left}

-- At the end there are no more tokens.
pub all_done : (line : ℕ) (lengths bytes : List ℕ) → length lengths ≡ 0 → tokens_at line [] (parts_of lengths bytes) Whole ≡ []
all_done line [] bytes h = tokens_nil line []
all_done line (n ∷ ns) bytes h = absurd (omega arith)

-- After the last line comes the token that ends the lines.
pub ends : (line : ℕ) (rest lengths bytes : List ℕ) (end : End) → token_at line rest ≡ None → (length rest ≡ 0 → length lengths ≡ 0) → tokens_at line rest (parts_of lengths bytes) end ≡ end_of end (line + 1)
unfolding token_at
ends line [] [] bytes end e h = tokens_nil line (end_of end (line + 1))
ends line [] (v ∷ vs) bytes end e h = let none : length (v ∷ vs) ≡ 0 = h refl in absurd (omega arith)
ends line (b ∷ bs) lengths bytes end e h = absurd cc

end_step : (end : End) (line : ℕ) → TakesToken (end_of end line) (front_of (end_of end line)) []
end_step Whole line = (refl, refl)
end_step BadMacro line = refl
end_step TooLong line = refl

pub takes_end : (line : ℕ) (rest lengths bytes : List ℕ) (end : End) (total new : List Lexeme) (o : Option Lexeme) → token_at line rest ≡ None → (length rest ≡ 0 → length lengths ≡ 0)
    → tokens_at line rest (parts_of lengths bytes) end ≡ total → o ≡ front_of (end_of end (line + 1)) → new ≡ [] → TakesToken total o new
takes_end line rest lengths bytes end total new o e h same front none =
    let all : end_of end (line + 1) ≡ total = sym (ends line rest lengths bytes end e h) ∙ same in
    rw (front, none, ← all) (end_step end (line + 1))

pub one : (line : ℕ) (rest : List ℕ) (behind : List (List ℕ)) (end : End) (cut : Cut) → behind_gap rest ≡ rest → token_at line rest ≡ Some cut
    → tokens_at line rest behind end ≡ cut.token ∷ cond (is_fault cut.token.kind) [] (tokens_at line cut.rest behind end)
one line rest behind end cut solid e = one_left line rest (tokens_of end (line + 1) behind) cut (ap (token_at line) solid ∙ e)

pub takes_fault : (line : ℕ) (rest : List ℕ) (behind : List (List ℕ)) (end : End) (total new : List Lexeme) (cut : Cut) → behind_gap rest ≡ rest → token_at line rest ≡ Some cut → is_fault cut.token.kind ≡ true
    → tokens_at line rest behind end ≡ total → new ≡ [] → total ≡ cut.token ∷ new
takes_fault line rest behind end total new cut solid e f same none =
    sym same ∙ one line rest behind end cut solid e ∙ ap (λ (t : Bool). cut.token ∷ cond t [] (tokens_at line cut.rest behind end)) f ∙ ap (λ ts. cut.token ∷ ts) (sym none)

pub takes_one : (line : ℕ) (rest : List ℕ) (behind : List (List ℕ)) (end : End) (total : List Lexeme) (cut : Cut) → behind_gap rest ≡ rest → token_at line rest ≡ Some cut → is_fault cut.token.kind ≡ false
    → tokens_at line rest behind end ≡ total → total ≡ cut.token ∷ tokens_at line cut.rest behind end
takes_one line rest behind end total cut solid e f same =
    sym same ∙ one line rest behind end cut solid e ∙ ap (λ (t : Bool). cut.token ∷ cond t [] (tokens_at line cut.rest behind end)) f
