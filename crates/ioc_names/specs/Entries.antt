-- The entries of a hash table of names, as a finite map.
use Rattle.std.specs.Prelude.{ℕ, List}
use Rattle.std.specs.Ordering.{nat_cmp}
use Rattle.std.specs.Cmp.Lexicographic.{slice_cmp}
use Rattle.std.specs.FinMap.{FinMap, from_entries}

-- The map from names to numbers that the entries form.
abbrev pub number_map : List (List ℕ × ℕ) → FinMap (slice_cmp nat_cmp) ℕ
number_map = from_entries
