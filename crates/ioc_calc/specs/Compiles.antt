-- What compiling an expression gives.
use Rattle.std.specs.Prelude.{ℕ, ◌≡◌, List, Some}
use Rattle.ioc_calc.specs.declared.token.Token.{Token}
use Rattle.ioc_calc.specs.declared.compiling.CalcFaultKind.{CalcFaultKind}
use Rattle.ioc_calc.specs.declared.compiling.CalcFaultKind.TheVariants.{Bad, LeftOut}
use Rattle.ioc_calc.specs.declared.token.LeftOut.{LeftOut as Word}
use Rattle.ioc_calc.specs.Tree.{Statement, values_in}
use Rattle.ioc_calc.specs.Machine.{Code, IsProgramOf}
use Rattle.ioc_calc.specs.Grammar.{AreStatements, Follows, IsExpression}
use Rattle.ioc_calc.specs.Tokens.{left_out_in}

-- the tokens are statements whose program this is
pub record IsProgramOfTokens (tokens : List Token) (code : Code) : Type 0 where
  pub statements : List Statement
  pub grammar : AreStatements tokens statements
  pub program : IsProgramOf code statements

-- the text is an expression whose program this is
pub record Compiles (text : List ℕ) (code : Code) : Type 0 where
  pub statements : List Statement
  pub expression : IsExpression text statements
  pub program : IsProgramOf code statements

-- the tokens are no statements of which one is a value
abbrev pub AreNoStatements : List Token → Type 0
AreNoStatements tokens = (statements : List Statement) → AreStatements tokens statements → values_in statements ≡ 1 → ⊥

-- the text follows the grammar, and the first in it that is left out is this
pub record LeavesOut (text : List ℕ) (word : Word) : Type 0 where
  pub tokens : List Token
  pub statements : List Statement
  pub follows : Follows text tokens statements
  pub first : left_out_in tokens ≡ Some word

-- why a text is refused: it doesn't follow the grammar, or something in it is left out
abbrev pub IsFault : List ℕ → CalcFaultKind → Type 0
IsFault text Bad = (tokens : List Token) (statements : List Statement) → Follows text tokens statements → ⊥
IsFault text (LeftOut word) = LeavesOut text word
