-- Which of several values is selected. Record Reference Manual, "Select Record", "Select Parameters".
use Rattle.std.specs.Prelude.{ℕ, zero, suc, ◌+◌, ◌/◌, Bool, true, false, not, ◌&&◌, ◌||◌, nat_lt, ◌==◌, if◌then◌else◌, List, Option, Some, None, is_nan, slice_index_or}
use Rattle.std.specs.List.{position, list_any}
use Rattle.std.specs.Float.Ieee.{Float, inf, lt, eq}
use Rattle.ioc_double.specs.Size.{whole_double}

-- ---- The highest and the lowest

-- Whether one of the values is above this one, or below it.
abbrev pub has_above : List Float → Float → Bool
has_above values x = list_any (λ y. lt x y) values

abbrev pub has_below : List Float → Float → Bool
has_below values x = list_any (λ y. lt y x) values

-- Whether a value is above -inf, and none is above it.
unfoldable pub is_highest : List Float → Float → Bool
is_highest values x = lt (inf true) x && not (has_above values x)

-- Whether a value is below inf, and none is below it.
unfoldable pub is_lowest : List Float → Float → Bool
is_lowest values x = lt x (inf false) && not (has_below values x)

-- The number of the first of the values that is the highest, or the lowest.
abbrev pub first_highest : List Float → Option ℕ
first_highest values = position (is_highest values) values

abbrev pub first_lowest : List Float → Option ℕ
first_lowest values = position (is_lowest values) values

-- ---- The median

abbrev pub value_of : List Float → ℕ → Float
value_of values n = slice_index_or values n (whole_double 0)

-- How many numbers below n pass a test.
abbrev pub count_below : (ℕ → Bool) → ℕ → ℕ
count_below test zero = 0
count_below test (suc n) = if test n then count_below test n + 1 else count_below test n

-- The least number from m on that passes a test, among so many.
abbrev pub first_from : (ℕ → Bool) → ℕ → ℕ → Option ℕ
first_from test m zero = None
first_from test m (suc more) = if test m then Some m else first_from test (m + 1) more

-- How many of the twelve values aren't NaN.
unfoldable pub numbers_among : List Float → ℕ
numbers_among values = count_below (λ n. not (is_nan (value_of values n))) 12

-- Whether a value comes before another in rising order, where equal ones come in the order of their numbers.
unfoldable pub is_before : Float → ℕ → Float → ℕ → Bool
is_before x m y n = lt x y || (eq x y && nat_lt m n)

-- How many of the twelve values come before that of number n.
unfoldable pub count_before : List Float → ℕ → ℕ
count_before values n = count_below (λ m. is_before (value_of values m) m (value_of values n) n) 12

-- Whether the value of number n isn't NaN, and so many come before it.
unfoldable pub is_after : List Float → ℕ → ℕ → Bool
is_after values many n = not (is_nan (value_of values n)) && (count_before values n == many)

-- The number of the value in the middle: half of those that aren't NaN come before it.
unfoldable pub median_number : List Float → Option ℕ
median_number values = first_from (is_after values (numbers_among values / 2)) 0 12
