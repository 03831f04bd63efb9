-- What the parser does with statements.
use Rattle.std.specs.Prelude.{ℕ, zero, suc, Bool, true, false, Option, Some, None, List, [], ◌∷◌, ◌&&◌, ◌||◌, if◌then◌else◌}
use Rattle.ioc_calc.specs.declared.program.Step.TheVariants as steps
use Rattle.ioc_calc.specs.declared.token.Token.{Token}
use Rattle.ioc_calc.specs.declared.token.Token.TheVariants as tokens
use Rattle.ioc_calc.specs.declared.parser.Part.TheVariants as parts
use Rattle.ioc_calc.specs.declared.parser.TheConstants.{TURNS}
use Rattle.ioc_calc.specs.Parsing.{State, ◌>>=◌, at, emitted, parse}

-- the place and the tokens behind a := that is next
abbrev pub stored_behind : ℕ → List Token → Option (ℕ × List Token)
stored_behind place [] = None
stored_behind place (tokens.Assign ∷ rest) = Some (place, rest)
stored_behind place (_ ∷ rest) = None

-- the place of the argument and the tokens behind the :=, if an argument and := are next
abbrev pub stored_in : List Token → Option (ℕ × List Token)
stored_in [] = None
stored_in (tokens.Argument place ∷ rest) = stored_behind place rest
stored_in (_ ∷ rest) = None

abbrev pub is_none : {A : Type 0} → Option A → Bool
is_none None = true
is_none (Some x) = false

abbrev pub statement_from : Option (ℕ × List Token) → State → Option State
statement_from None s = parse TURNS parts.Value s
statement_from (Some stored) s = do
  a ← parse TURNS parts.Value (at stored.1 s)
  emitted (steps.Store stored.0) a

unfoldable pub statement_with : State → Option State
statement_with s = statement_from (stored_in s.rest) s

-- behind a statement: the end, if one of the statements is a value, or a semicolon and other statements
abbrev pub ended_at : (State → Option State) → Bool → List Token → State → Option State
ended_at more has_value [] s = if has_value then Some s else None
ended_at more has_value (tokens.Semicolon ∷ rest) s = more (at rest s)
ended_at more has_value (_ ∷ rest) s = None

unfoldable pub ended : (State → Option State) → Bool → State → Option State
ended more has_value s = ended_at more has_value s.rest s

-- one statement, and those behind it
unfoldable pub statement_and : (Bool → State → Option State) → Bool → Bool → State → Option State
statement_and more has_value is_value s =
    if is_value && has_value then None
    else statement_with s >>= (λ a. ended (more (has_value || is_value)) (has_value || is_value) a)

-- at most so many statements, one of which is a value
unfoldable pub statements : ℕ → Bool → State → Option State
statements zero has_value s = None
statements (suc turns) has_value s = statement_and (statements turns) has_value (is_none (stored_in s.rest)) s
