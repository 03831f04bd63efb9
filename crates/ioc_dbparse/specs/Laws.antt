-- Laws of the database grammar, in terms of a user.
use Rattle.std.specs.Prelude.{◌≡◌, ℕ, Bool, true, List, [], ◌∷◌, ◌++◌, Err, ◌==◌, ◌<◌, ◌≤◌, length, Ok}
use Rattle.ioc_values.specs.declared.error.BadDbKind.TheVariants as kinds
use Rattle.ioc_values.specs.declared.error.DbFault.{DbFault}
use Rattle.ioc_dbparse.specs.Rules.{Rules}
use Rattle.ioc_dblex.specs.Macros.{Defined}
use Rattle.ioc_dblex.specs.Lines.{lines_of, line_text}
use Rattle.ioc_dblex.specs.Texts.{most_bytes}
use Rattle.ioc_dblex.specs.Lexing.{Lexeme}
use Rattle.ioc_dbparse.specs.Statements.{◌>>=◌, statements_at, filled}
use Rattle.ioc_dbparse.specs.Loading.{filled_by}

-- Holds if the text is empty or its last byte is a line feed.
abbrev pub ends_line : List ℕ → Bool
ends_line [] = true
ends_line (b ∷ []) = b == 10
ends_line (b ∷ c ∷ cs) = ends_line (c ∷ cs)

-- What follows a refused token doesn't change the line and the kind of the fault.
abbrev pub FirstTokenRefused : {S : Type 0} → Rules S → Type 0
FirstTokenRefused {S} rules =
    (s : S) (last last' : ℕ) (tokens more : List Lexeme) (fault : DbFault) → filled rules last s tokens ≡ Err fault → (fault.kind ≡ kinds.OpenBody → ⊥) → filled rules last' s (tokens ++ more) ≡ Err fault

-- A fault in some lines is the fault of each text that begins with them, unless they only end too
-- early.
abbrev pub FirstFaultGiven : {S : Type 0} → Rules S → Type 0
FirstFaultGiven {S} rules =
    (s : S) (macros : List Defined) (lines more : List ℕ) (fault : DbFault) → ends_line lines ≡ true → filled_by rules s macros lines ≡ Err fault → (fault.kind ≡ kinds.OpenBody → ⊥) → filled_by rules s macros (lines ++ more) ≡ Err fault

-- Any bound on the turns of reading above the number of tokens has the same result.
abbrev pub TurnsSuffice : {S : Type 0} → Rules S → Type 0
TurnsSuffice {S} rules =
    (last : ℕ) (s : S) (tokens : List Lexeme) (turns : ℕ) → length tokens < turns → (statements_at rules turns last s tokens >>= λ read. Ok read.0) ≡ filled rules last s tokens

-- The lines of one text are, after its macros are replaced, those of the other without macros.
abbrev pub SameTexts : List Defined → List (List ℕ) → List (List ℕ) → Type 0
SameTexts macros [] [] = Unit {0}
SameTexts macros (l ∷ ls) (h ∷ hs) = (line_text macros l ≡ line_text [] h) × SameTexts macros ls hs
SameTexts macros _ _ = ⊥

-- A text whose macros are replaced by hand has the same result: the same database, or the same line
-- and kind.
abbrev pub MacrosByHand : {S : Type 0} → Rules S → Type 0
MacrosByHand {S} rules =
    (s : S) (macros : List Defined) (text hand : List ℕ) → length text ≤ most_bytes → length hand ≤ most_bytes → SameTexts macros (lines_of text) (lines_of hand) → filled_by rules s macros text ≡ filled_by rules s [] hand
