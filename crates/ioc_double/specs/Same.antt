-- Which doubles are the same value.
use Rattle.std.specs.Prelude.{Bool, true, false, ◌&&◌, ◌==◌}
use Rattle.std.specs.Ordering.{int_eq}
use Rattle.std.specs.Float.Ieee.{Float, nan, inf, fin}
use mathlib.Core.Bool.{beq}

-- Both are NaN, or the same infinity, or the same number with the same sign: -0 and 0 differ.
unfoldable pub same : Float → Float → Bool
same nan nan = true
same nan (inf t) = false
same nan (fin t n d) = false
same (inf s) nan = false
same (inf s) (inf t) = beq s t
same (inf s) (fin t n d) = false
same (fin s m e) nan = false
same (fin s m e) (inf t) = false
same (fin s m e) (fin t n d) = beq s t && ((m == n) && int_eq e d)
