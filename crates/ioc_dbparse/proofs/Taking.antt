-- A sign that is taken, or another token in its place.
use Rattle.std.proofs.Common.{◌≡◌, ℕ, Bool, true, false, cond, List, [], ◌∷◌, Ok, refl, sym, ap}
use Rattle.ioc_dblex.specs.declared.token.TokenKind.{TokenKind}
use Rattle.ioc_dblex.specs.declared.token.TokenKind.TheVariants.{Sign, Word, Quoted, Fault}
use Rattle.ioc_dblex.specs.Lexing.{Lexeme}
use Rattle.ioc_dblex.specs.Signs.{is_sign_of, takes_sign}
use Rattle.ioc_dbparse.specs.Rules.{Rules}
use Rattle.ioc_dbparse.specs.Statements.{◌>>=◌, statement_by, statement_at, sound, next_at, expect, body_at, braces_at}

taken : (t : Bool) (rest whole new : List Lexeme) → ◌≡◌ {A = Bool × List Lexeme} (true, new) (cond t (true, rest) (false, whole)) → (t ≡ true) × (new ≡ rest)
taken true rest whole new e = (refl, ap (λ (p : Bool × List Lexeme). p.1) e)
taken false rest whole new e = (let no : true ≡ false = ap (λ (p : Bool × List Lexeme). p.0) e in absurd cc)

left : (t : Bool) (rest whole new : List Lexeme) → ◌≡◌ {A = Bool × List Lexeme} (false, new) (cond t (true, rest) (false, whole)) → (t ≡ false) × (new ≡ whole)
left true rest whole new e = (let no : false ≡ true = ap (λ (p : Bool × List Lexeme). p.0) e in absurd cc)
left false rest whole new e = (refl, ap (λ (p : Bool × List Lexeme). p.1) e)

sound_sign : (b : ℕ) (token : Lexeme) (kind : TokenKind) (rest : List Lexeme) → is_sign_of b kind ≡ true → sound token kind rest ≡ Ok (token, rest)
sound_sign b token (Sign c) rest e = refl
sound_sign b token Word rest e = refl
sound_sign b token Quoted rest e = refl
sound_sign b token (Fault kind) rest e = (let no : false ≡ true = e in absurd cc)

-- A sign that is taken is the expected one.
pub expected : (b last : ℕ) (old new : List Lexeme) → (true, new) ≡ takes_sign b old → expect b last old ≡ Ok new
unfolding expect next_at
expected b last [] new e = (let no : true ≡ false = ap (λ (p : Bool × List Lexeme). p.0) e in absurd cc)
expected b last (token ∷ rest) new e =
    let k = taken (is_sign_of b token.kind) rest (token ∷ rest) new e in
    rw (sound_sign b token token.kind rest k.0) (rw (k.0) (ap Ok (sym k.1)))

-- If a sign isn't taken, the tokens are unchanged.
pub stayed : (b : ℕ) (old new : List Lexeme) → (false, new) ≡ takes_sign b old → new ≡ old
stayed b [] new e = ap (λ (p : Bool × List Lexeme). p.1) e
stayed b (token ∷ rest) new e = (left (is_sign_of b token.kind) rest (token ∷ rest) new e).1

module _ {S : Type 0} (rules : Rules S) where
  -- Braces that are present.
  pub braces_there : (turns last number : ℕ) (s : S) (old new : List Lexeme) → (true, new) ≡ takes_sign 123 old → braces_at rules turns last number s old ≡ body_at rules turns last number s new
  unfolding braces_at
  braces_there turns last number s [] new e = (let no : true ≡ false = ap (λ (p : Bool × List Lexeme). p.0) e in absurd cc)
  braces_there turns last number s (token ∷ rest) new e =
      let k = taken (is_sign_of 123 token.kind) rest (token ∷ rest) new e in
      rw (k.0, k.1) refl

  -- Braces that are missing.
  pub braces_missing : (turns last number : ℕ) (s : S) (old new : List Lexeme) → (false, new) ≡ takes_sign 123 old → braces_at rules turns last number s old ≡ Ok (s, new)
  unfolding braces_at
  braces_missing turns last number s [] new e = ap (λ (ts : List Lexeme). Ok (s, ts)) (sym (ap (λ (p : Bool × List Lexeme). p.1) e))
  braces_missing turns last number s (token ∷ rest) new e =
      let k = left (is_sign_of 123 token.kind) rest (token ∷ rest) new e in
      rw (k.0, k.1) refl

  -- The first of all statements.
  pub first_statement : (turns last : ℕ) (s : S) (token : Lexeme) (old rest : List Lexeme) → old ≡ token ∷ rest → statement_at rules turns last s old ≡ (sound token token.kind rest >>= statement_by rules turns last s)
  unfolding statement_at next_at
  first_statement turns last s token old rest e = rw e refl
