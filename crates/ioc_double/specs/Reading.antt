-- How far a decimal number has been read, as a number of std's.
use Rattle.std.specs.Prelude.{ℕ, Option, Some, None}
use Rattle.ioc_double.specs.declared.decimal.Reading.{Reading}
use Rattle.ioc_double.specs.declared.decimal.Reading.TheVariants.{Start, Whole, Point, Fraction, Mark, Sign, Exponent}

abbrev pub place : Reading → ℕ
place Start = 0
place Whole = 1
place Point = 2
place Fraction = 3
place Mark = 4
place Sign = 5
place Exponent = 6

-- None where the bytes are no decimal number, and no more bytes make them one.
abbrev pub place_after : Option Reading → ℕ
place_after None = 7
place_after (Some reading) = place reading
