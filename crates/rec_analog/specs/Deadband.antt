-- When a change of a value is sent to monitors. Record Reference Manual, "Monitor Parameters" of ai.
use Rattle.std.specs.Prelude.{Bool, false, ◌&&◌, if◌then◌else◌}
use Rattle.std.specs.Float.{float_is_finite, float_with_sign}
use Rattle.std.specs.Float.Ieee.{Float, inf, binary64, sub, lt}
use Rattle.ioc_double.specs.Same.{same}
use Rattle.ioc_double.specs.Size.{whole_double}

-- How far a value has moved that was NaN or infinite, or is now: not at all if it is the same, and else by an infinity.
unfoldable pub jump : Float → Float → Float
jump old new = if same old new then whole_double 0 else inf false

-- How far a value has moved: the size of the rounded difference of two finite values, an infinity where one alone is NaN
-- or infinite or where they are unlike infinities, and else 0.
unfoldable pub change : Float → Float → Float
change old new = if float_is_finite old && float_is_finite new then float_with_sign false (sub binary64 old new) else jump old new

-- Whether a value has moved by more than a deadband: by any change for one below 0, and by none for NaN.
unfoldable pub exceeds : Float → Float → Float → Bool
exceeds old new band = lt band (change old new)
