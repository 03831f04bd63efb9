-- The conversion between the raw value and the value in engineering units. Record Reference Manual, "Analog Input Record" and
-- "Analog Output Record", "Linear Conversions". Each operation on doubles is IEEE 754's on 64 bits, rounded to nearest.
use Rattle.std.specs.Prelude.{ℤ, pos, negsuc, is_nan, if◌then◌else◌, Option, Some, None, unwrap_or}
use Rattle.std.specs.Int.{w32, cast_signed, int_wrapping_sub}
use Rattle.std.specs.Float.{float_to_signed}
use Rattle.std.specs.Float.Ieee.{Float, binary64, of_bits, of_int, add, sub, mul, div, le, eq}
use Rattle.ioc_double.specs.Size.{whole_double}
use Rattle.ioc_values.specs.declared.value.Value.{Value}
use Rattle.ioc_values.specs.declared.value.Value.TheVariants as value
use Rattle.ioc_menus.specs.declared.linr.Linr.{Linr as LinrChoice}
use Rattle.ioc_menus.specs.declared.linr.Linr.TheVariants.{NoConversion, Slope, Linear}
use Rattle.ioc_menus.specs.Numbers.{linr_number}
use Rattle.ioc_fields.specs.declared.field_no.OwnField.{OwnField}
use Rattle.ioc_fields.specs.declared.field_no.OwnField.TheVariants.{Linr, Eguf, Egul, Eslo, Eoff, Aslo, Aoff, Roff, Rval}
use Rattle.ioc_dbcommon.specs.Parts.{double_in, linr_in, long_in, ulong_in}
use Rattle.rec_analog.specs.declared.scale.Scale.{Scale}

-- ---- Fields

unfoldable pub new_scale : Scale
new_scale = record {
  linearization = NoConversion;
  full = whole_double 0;
  low = whole_double 0;
  slope = whole_double 1;
  offset = whole_double 0;
  adjusting_slope = whole_double 1;
  adjusting_offset = whole_double 0;
  raw_offset = 0;
  raw = pos 0;
}

unfoldable pub scale_get : Scale → OwnField → Option Value
scale_get s Linr = Some (value.Enum (linr_number s.linearization))
scale_get s Eguf = Some (value.Double s.full)
scale_get s Egul = Some (value.Double s.low)
scale_get s Eslo = Some (value.Double s.slope)
scale_get s Eoff = Some (value.Double s.offset)
scale_get s Aslo = Some (value.Double s.adjusting_slope)
scale_get s Aoff = Some (value.Double s.adjusting_offset)
scale_get s Roff = Some (value.ULong s.raw_offset)
scale_get s Rval = Some (value.Long s.raw)
scale_get s _ = None

-- The fields with a converted value stored. A value of another kind changes nothing.
unfoldable pub scale_stored : Scale → OwnField → Value → Scale
scale_stored s Linr v = record s { linearization = unwrap_or (linr_in v) s.linearization }
scale_stored s Eguf v = record s { full = unwrap_or (double_in v) s.full }
scale_stored s Egul v = record s { low = unwrap_or (double_in v) s.low }
scale_stored s Eslo v = record s { slope = unwrap_or (double_in v) s.slope }
scale_stored s Eoff v = record s { offset = unwrap_or (double_in v) s.offset }
scale_stored s Aslo v = record s { adjusting_slope = unwrap_or (double_in v) s.adjusting_slope }
scale_stored s Aoff v = record s { adjusting_offset = unwrap_or (double_in v) s.adjusting_offset }
scale_stored s Roff v = record s { raw_offset = unwrap_or (ulong_in v) s.raw_offset }
scale_stored s Rval v = record s { raw = unwrap_or (long_in v) s.raw }
scale_stored s _ v = s

-- ---- From the raw value

-- RVAL with ROFF added, multiplied by ASLO unless that is 0, and with AOFF added.
unfoldable pub adjusted : Scale → Float
adjusted s =
    let moved = add binary64 (of_int binary64 s.raw) (of_int binary64 (pos s.raw_offset)) in
    let sloped = if eq s.adjusting_slope (whole_double 0) then moved else mul binary64 moved s.adjusting_slope in
    add binary64 sloped s.adjusting_offset

-- A value by LINR: unless that says NO CONVERSION it is multiplied by ESLO, and EOFF is added.
abbrev pub linear : LinrChoice → Float → Float → Float → Float
linear NoConversion slope offset x = x
linear Slope slope offset x = add binary64 (mul binary64 x slope) offset
linear Linear slope offset x = add binary64 (mul binary64 x slope) offset

-- The value in engineering units.
unfoldable pub engineering : Scale → Float
engineering s = linear s.linearization s.slope s.offset (adjusted s)

-- ---- To the raw value

-- Without EOFF and ESLO: 0 if ESLO is 0.
abbrev pub divided : Float → Float → Float → Float
divided slope offset x = if eq slope (whole_double 0) then whole_double 0 else div binary64 (sub binary64 x offset) slope

abbrev pub unlinear : LinrChoice → Float → Float → Float → Float
unlinear NoConversion slope offset x = x
unlinear Slope slope offset x = divided slope offset x
unlinear Linear slope offset x = divided slope offset x

unfoldable pub unscaled : Scale → Float → Float
unscaled s x = unlinear s.linearization s.slope s.offset x

-- Without AOFF, and without ASLO unless that is 0.
unfoldable pub unadjusted : Scale → Float → Float
unadjusted s x =
    let moved = sub binary64 x s.adjusting_offset in
    if eq s.adjusting_slope (whole_double 0) then moved else div binary64 moved s.adjusting_slope

-- A half is added, or taken away below 0.
unfoldable pub half_away : Float → Float
half_away x = let half = of_bits binary64 0x3FE0000000000000 in if le (whole_double 0) x then add binary64 x half else sub binary64 x half

-- Cut toward 0 and to the ends of a Long; NaN gives the lowest one.
unfoldable pub long_of : Float → ℤ
long_of x = if is_nan x then negsuc 2147483647 else float_to_signed w32 x

-- The raw value of a value in engineering units: rounded, and less ROFF, cut to 32 bits.
unfoldable pub raw_of : Scale → Float → ℤ
raw_of s x = int_wrapping_sub w32 (long_of (half_away (unadjusted s (unscaled s x)))) (cast_signed w32 s.raw_offset)
