-- The grammar of expressions, over tokens. Record Reference Manual, "Calculation Record", "CALC
-- Expression".
use Rattle.std.specs.Prelude.{ℕ, suc, ◌≡◌, Bool, true, false, Some, None, List, [], ◌∷◌, length, ◌≤◌, ◌<◌}
use Rattle.ioc_calc.specs.declared.operators.Prefix.{Prefix}
use Rattle.ioc_calc.specs.declared.operators.ListFunction.{ListFunction}
use Rattle.ioc_calc.specs.declared.operators.ListFunction.TheVariants.{Maximum}
use Rattle.ioc_calc.specs.declared.operators.Infix.{Infix}
use Rattle.ioc_calc.specs.declared.operators.Infix.TheVariants.{Multiply}
use Rattle.ioc_calc.specs.declared.operators.Exponent.{Exponent}
use Rattle.ioc_calc.specs.declared.token.LeftOut.{LeftOut}
use Rattle.ioc_calc.specs.declared.token.Token.{Token}
use Rattle.ioc_calc.specs.declared.token.Token.TheVariants as tokens
use Rattle.std.specs.Float.Ieee.{Float}
use Rattle.ioc_calc.specs.Exponents.{exponent_of}
use Rattle.ioc_calc.specs.Levels.{level_of}
use Rattle.ioc_calc.specs.Tokens.{tokens_of, left_out_in}
use Rattle.ioc_calc.specs.Tree.{Tree, Constant, Argument, Before, One, First, More, Two, Power, Choice, Statement, Value, Store, values_in}

-- A phrase of the grammar: a value, a value whose operators outside brackets are of a level and the
-- tighter ones, and the operands of a function in brackets. Level 0 has no operator between operands,
-- 1 powers, 2 products, 3 sums, 4 comparisons, 5 `and` and shifts, 6 `or`.
pub data Phrase : Type 0 where
  AValue : Phrase
  ALevel : ℕ → Phrase
  AList : ListFunction → Phrase

-- the token is a function of one or more operands; MAX stands for one that is left out
pub data IsFunction : Token → ListFunction → Type 0 where
  named : (function : ListFunction) → IsFunction (tokens.Function function) function
  left_out : (word : LeftOut) → IsFunction (tokens.LeftOutFunction word) Maximum

-- whether an opening bracket is next, and whether other tokens are
abbrev pub is_open : List Token → Bool
is_open [] = false
is_open (tokens.Open ∷ rest) = true
is_open (_ ∷ rest) = false

-- The tokens begin with a phrase of this tree, and the rest follows it. A function takes the operands
-- in the brackets behind it, or else the one operand behind it. In the place of RNDM there is VAL,
-- and in that of a power whose exponent isn't written a product: such trees aren't run.
pub data Reads : Phrase → List Token → Tree → List Token → Type 0 where
  number : (x : Float) (rest : List Token) → Reads (ALevel 0) (tokens.Number x ∷ rest) (Constant x) rest
  argument : (place : ℕ) (rest : List Token) → Reads (ALevel 0) (tokens.Argument place ∷ rest) (Argument place) rest
  before : (rest : List Token) → Reads (ALevel 0) (tokens.Value ∷ rest) Before rest
  random : (rest : List Token) → Reads (ALevel 0) (tokens.Random ∷ rest) Before rest
  brackets : (ts rest : List Token) (t : Tree) → Reads AValue ts t (tokens.Close ∷ rest) → Reads (ALevel 0) (tokens.Open ∷ ts) t rest
  prefix : (operator : Prefix) (ts rest : List Token) (t : Tree) → Reads (ALevel 0) ts t rest
      → Reads (ALevel 0) (tokens.Prefix operator ∷ ts) (One operator t) rest
  of_one : (token : Token) (function : ListFunction) (ts rest : List Token) (t : Tree) → IsFunction token function → is_open ts ≡ false
      → Reads (ALevel 0) ts t rest → Reads (ALevel 0) (token ∷ ts) (First function t) rest
  of_list : (token : Token) (function : ListFunction) (ts rest : List Token) (t : Tree) → IsFunction token function
      → Reads (AList function) ts t (tokens.Close ∷ rest) → Reads (ALevel 0) (token ∷ tokens.Open ∷ ts) t rest
  tighter : (level : ℕ) (ts rest : List Token) (t : Tree) → Reads (ALevel level) ts t rest → Reads (ALevel (suc level)) ts t rest
  two : (level : ℕ) (operator : Infix) (ts us rest : List Token) (s t : Tree) → level_of operator ≡ suc level
      → Reads (ALevel (suc level)) ts s (tokens.Infix operator ∷ us) → Reads (ALevel level) us t rest
      → Reads (ALevel (suc level)) ts (Two operator s t) rest
  power : (sign : LeftOut) (exponent : Exponent) (ts us rest : List Token) (t : Tree) → Reads (ALevel 1) ts t (tokens.Power sign ∷ us)
      → exponent_of us ≡ Some (exponent, rest) → Reads (ALevel 1) ts (Power t exponent) rest
  other_power : (sign : LeftOut) (ts us rest : List Token) (s t : Tree) → Reads (ALevel 1) ts s (tokens.Power sign ∷ us)
      → exponent_of us ≡ None → Reads (ALevel 0) us t rest → Reads (ALevel 1) ts (Two Multiply s t) rest
  whole : (ts rest : List Token) (t : Tree) → Reads (ALevel 6) ts t rest → Reads AValue ts t rest
  choice : (ts us vs rest : List Token) (condition s t : Tree) → Reads (ALevel 6) ts condition (tokens.Question ∷ us)
      → Reads AValue us s (tokens.Colon ∷ vs) → Reads AValue vs t rest → Reads AValue ts (Choice condition s t) rest
  first : (function : ListFunction) (ts rest : List Token) (t : Tree) → Reads AValue ts t rest
      → Reads (AList function) ts (First function t) rest
  next : (function : ListFunction) (ts us rest : List Token) (s t : Tree) → Reads (AList function) ts s (tokens.Comma ∷ us)
      → Reads AValue us t rest → Reads (AList function) ts (More function s t) rest

-- the tokens begin with this statement
pub data ReadsStatement : List Token → Statement → List Token → Type 0 where
  value : (ts rest : List Token) (t : Tree) → Reads AValue ts t rest → ReadsStatement ts (Value t) rest
  store : (place : ℕ) (ts rest : List Token) (t : Tree) → Reads AValue ts t rest
      → ReadsStatement (tokens.Argument place ∷ tokens.Assign ∷ ts) (Store place t) rest

-- the tokens are these statements, with a semicolon between each two
pub data AreStatements : List Token → List Statement → Type 0 where
  last : (ts : List Token) (s : Statement) → ReadsStatement ts s [] → AreStatements ts (s ∷ [])
  more : (ts us : List Token) (s : Statement) (statements : List Statement) → ReadsStatement ts s (tokens.Semicolon ∷ us)
      → AreStatements us statements → AreStatements ts (s ∷ statements)

-- The text follows the grammar, in which the functions stand that are left out: it has 1 to 79 bytes
-- and these tokens, which are these statements, and one of these is a value.
pub record Follows (text : List ℕ) (tokens : List Token) (statements : List Statement) : Type 0 where
  pub some : 0 < length text
  pub short : length text ≤ 79
  pub spelled : tokens_of text ≡ Some tokens
  pub grammar : AreStatements tokens statements
  pub one_value : values_in statements ≡ 1

-- the text is an expression of these statements: it follows the grammar, and nothing in it is left out
pub record IsExpression (text : List ℕ) (statements : List Statement) : Type 0 where
  pub tokens : List Token
  pub follows : Follows text tokens statements
  pub complete : left_out_in tokens ≡ None
