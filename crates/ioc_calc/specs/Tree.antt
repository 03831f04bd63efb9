-- The tree of an expression, and what it means. Record Reference Manual, "Calculation Record",
-- "CALC Expression".
use Rattle.std.specs.Prelude.{ℕ, ◌+◌, List, [], ◌∷◌, slice_index_or, slice_set}
use Rattle.std.specs.Float.Ieee.{Float}
use Rattle.ioc_calc.specs.declared.operators.Prefix.{Prefix}
use Rattle.ioc_calc.specs.declared.operators.ListFunction.{ListFunction}
use Rattle.ioc_calc.specs.declared.operators.Infix.{Infix}
use Rattle.ioc_calc.specs.declared.operators.Exponent.{Exponent}
use Rattle.ioc_calc.specs.Operations.{zero_float, of_one, of_first, of_next, of_two, power, chosen}

-- The tree of a value. A function of several operands is the first of them and one node for each
-- next one: MIN(a,b,c) is More Minimum (More Minimum (First Minimum a) b) c.
pub data Tree : Type 0 where
  Constant : Float → Tree
  -- the argument of this place: 0 for A to 11 for L
  Argument : ℕ → Tree
  -- VAL before the run
  Before : Tree
  One : Prefix → Tree → Tree
  First : ListFunction → Tree → Tree
  More : ListFunction → Tree → Tree → Tree
  Two : Infix → Tree → Tree → Tree
  Power : Tree → Exponent → Tree
  Choice : Tree → Tree → Tree → Tree

-- a statement: a value, or a value that is stored into the argument of this place
pub data Statement : Type 0 where
  Value : Tree → Statement
  Store : ℕ → Tree → Statement

-- what a tree means, with these arguments and this VAL before the run
abbrev pub meaning : List Float → Float → Tree → Float
meaning arguments before (Constant x) = x
meaning arguments before (Argument place) = slice_index_or arguments place zero_float
meaning arguments before Before = before
meaning arguments before (One operator t) = of_one operator (meaning arguments before t)
meaning arguments before (First function t) = of_first function (meaning arguments before t)
meaning arguments before (More function s t) = of_next function (meaning arguments before s) (meaning arguments before t)
meaning arguments before (Two operator s t) = of_two operator (meaning arguments before s) (meaning arguments before t)
meaning arguments before (Power t exponent) = power (meaning arguments before t) exponent
meaning arguments before (Choice condition s t) =
    chosen (meaning arguments before condition) (meaning arguments before s) (meaning arguments before t)

-- The statements run from the left, and a stored argument holds for those that follow. The arguments
-- after them:
abbrev pub arguments_after : List Statement → Float → List Float → List Float
arguments_after [] before arguments = arguments
arguments_after (Value t ∷ statements) before arguments = arguments_after statements before arguments
arguments_after (Store place t ∷ statements) before arguments =
    arguments_after statements before (slice_set arguments place (meaning arguments before t))

-- the value of the first statement that is one
abbrev pub value_of : List Statement → Float → List Float → Float
value_of [] before arguments = zero_float
value_of (Value t ∷ statements) before arguments = meaning arguments before t
value_of (Store place t ∷ statements) before arguments =
    value_of statements before (slice_set arguments place (meaning arguments before t))

-- how many of the statements are values
abbrev pub values_in : List Statement → ℕ
values_in [] = 0
values_in (Value t ∷ statements) = values_in statements + 1
values_in (Store place t ∷ statements) = values_in statements
