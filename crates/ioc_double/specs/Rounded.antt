-- A size above 10^7 and at most 10^16 with at most three digits behind the point.
use Rattle.std.specs.Prelude.{ℕ, ◌*◌, ◌^◌, List, min}
use Rattle.std.specs.Float.Ieee.{Float}
use Rattle.std.specs.Float.Ieee.Nearest.{closest}
use Rattle.std.specs.Float.Ieee.Positive.{num, den}
use Rattle.ioc_double.specs.Pieces.{with_point}

-- The size is the fraction num / den: the whole number nearest to it times 10^e, ties to even, with a point before its last e digits, which
-- are d, but three at most.
abbrev pub rounded_text : Float → ℕ → List ℕ
rounded_text size d = with_point (min d 3) (closest (num size * 10 ^ min d 3) (den size))
