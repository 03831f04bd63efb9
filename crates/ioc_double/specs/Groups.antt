-- Whole numbers in groups of nine decimal digits, the lowest group first.
use Rattle.std.specs.Prelude.{ℕ, ◌+◌, ◌*◌, ◌^◌, ◌<◌, List, [], ◌∷◌, get_or}

-- The number that the groups are.
abbrev pub value : List ℕ → ℕ
value [] = 0
value (group ∷ groups) = group + 10 ^ 9 * value groups

-- Each group has nine digits at most.
abbrev pub AreGroups : List ℕ → Type 0
AreGroups groups = (k : ℕ) → get_or groups k 0 < 10 ^ 9
