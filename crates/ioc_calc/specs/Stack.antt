-- The stack of a run: a list whose first value is the last one that was put on it.
use Rattle.std.specs.Prelude.{ℕ, zero, suc, List, [], ◌∷◌, slice_index_or}
use Rattle.std.specs.Float.Ieee.{Float}
use Rattle.ioc_calc.specs.Operations.{zero_float}

-- the first `depth` of these values, the last one first
abbrev pub stack_of : List Float → ℕ → List Float
stack_of values zero = []
stack_of values (suc depth) = slice_index_or values depth zero_float ∷ stack_of values depth

-- the last value, and the ones before it; 0 and none where the stack is empty
abbrev pub top : List Float → Float
top [] = zero_float
top (x ∷ xs) = x

abbrev pub below : List Float → List Float
below [] = []
below (x ∷ xs) = xs
