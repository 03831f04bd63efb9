-- What the operators and functions of an expression give. Record Reference Manual, "Calculation
-- Record", "CALC Expression"; each operation on doubles is IEEE 754's on 64 bits, rounded to nearest.
use Rattle.std.specs.Prelude.{ℕ, zero, suc, ℤ, pos, Bool, false, bit_and, bit_or, bit_xor, ◌-◌, ◌/◌, ◌%◌, ◌^◌, ◌==◌, ◌&&◌, ◌||◌, if◌then◌else◌}
use Rattle.std.specs.Ordering.{int_eq}
use Rattle.std.specs.Int.{w32, w64, cast_signed, cast_unsigned, int_shl, int_shr}
use Rattle.std.specs.Float.{float_with_sign, float_is_finite, float_is_infinite, trunc, floor, ceil, sqrt, float_to_signed}
use Rattle.std.specs.Float.Ieee.{Float, binary64, of_bits, of_int, add, sub, mul, div, neg, lt, le, eq, ne, is_nan}
use Rattle.ioc_calc.specs.Wholes.{remainder}
use Rattle.ioc_calc.specs.declared.operators.Prefix.{Prefix}
use Rattle.ioc_calc.specs.declared.operators.Prefix.TheVariants.{Minus, Not, Complement, Abs, SquareRoot, Ceiling, Floor, NearestInteger, IsInfinite}
use Rattle.ioc_calc.specs.declared.operators.ListFunction.{ListFunction}
use Rattle.ioc_calc.specs.declared.operators.ListFunction.TheVariants.{Minimum, Maximum, AllFinite, AnyNan}
use Rattle.ioc_calc.specs.declared.operators.Infix.{Infix}
use Rattle.ioc_calc.specs.declared.operators.Infix.TheVariants.{Multiply, Divide, Remainder, Add, Subtract, Less, LessOrEqual, Greater, GreaterOrEqual, Equal, NotEqual, BitAnd, And, ShiftLeft, ShiftRight, ShiftRightUnsigned, BitOr, BitXor, Or}
use Rattle.ioc_calc.specs.declared.operators.Exponent.{Exponent}

-- 0, 1/2 and 1
abbrev pub zero_float : Float
zero_float = of_bits binary64 0

abbrev pub half_float : Float
half_float = of_bits binary64 0x3FE0000000000000

abbrev pub one_float : Float
one_float = of_bits binary64 0x3FF0000000000000

-- ---- truths

-- 1 for a truth, else 0
unfoldable pub truth : Bool → Float
truth holds = if holds then one_float else zero_float

-- not 0, so NaN is true
unfoldable pub is_true : Float → Bool
is_true x = ne x zero_float

-- the first value where the condition isn't 0, and else the second
unfoldable pub chosen : Float → Float → Float → Float
chosen condition x y = if is_true condition then x else y

-- ---- 32 bits

-- the low 32 bits of a whole number, and 0 for the largest, which stands for each double from 2^63 on
unfoldable pub low_bits : ℤ → ℕ
low_bits n = if int_eq n (pos 9223372036854775807) then 0 else cast_unsigned w64 n % 4294967296

-- the 32 bits of a double: cut toward 0 and modulo 2^32, and 0 for NaN and from 2^63 on in size
unfoldable pub bits_of : Float → ℕ
bits_of x = low_bits (float_to_signed w64 x)

-- the signed number of 32 bits
unfoldable pub long_of : ℕ → Float
long_of bits = of_int binary64 (cast_signed w32 bits)

-- the bits of the first shifted by the low five bits of the second: to the left; to the right with
-- the sign kept; to the right with zeros put in
unfoldable pub shifted_left : Float → Float → Float
shifted_left x y = of_int binary64 (int_shl w32 (cast_signed w32 (bits_of x)) (bits_of y % 32))

unfoldable pub shifted_right : Float → Float → Float
shifted_right x y = of_int binary64 (int_shr (cast_signed w32 (bits_of x)) (bits_of y % 32))

unfoldable pub shifted_right_unsigned : Float → Float → Float
shifted_right_unsigned x y = of_int binary64 (pos (bits_of x / 2 ^ (bits_of y % 32)))

-- ---- numbers

-- the smaller and the larger of two: NaN where one is, and the first where neither is below
unfoldable pub smaller : Float → Float → Float
smaller x y = if lt y x || is_nan y then y else x

unfoldable pub larger : Float → Float → Float
larger x y = if lt x y || is_nan y then y else x

-- the nearest whole number, with a half away from 0, and 0 in place of -0
unfoldable pub nearest_integer : Float → Float
nearest_integer x = add binary64 (trunc binary64
    (if le zero_float x then add binary64 x half_float else sub binary64 x half_float)) zero_float

-- 1 for the positive infinity, -1 for the negative one, else 0
unfoldable pub sign_of_infinity : Float → Float
sign_of_infinity x = if float_is_infinite x then (if lt x zero_float then neg one_float else one_float) else zero_float

unfoldable pub multiplied_once : Float → Float → ℕ → Float
multiplied_once number square exponent = if exponent % 2 == 1 then mul binary64 number square else number

-- A number times a power, from the lowest bit of the exponent on: where it is one, the number is
-- multiplied by the square that has been reached. There are at most as many bits as turns.
unfoldable pub multiplied : ℕ → Float → Float → ℕ → Float
multiplied zero number square exponent = number
multiplied (suc turns) number square zero = number
multiplied (suc turns) number square (suc exponent) =
    multiplied turns (multiplied_once number square (suc exponent)) (mul binary64 square square) (suc exponent / 2)

-- a power, which is 1 divided by it where the exponent is negative
unfoldable pub power : Float → Exponent → Float
power base exponent =
    let size = multiplied 7 one_float base exponent.size in
    if exponent.negative then div binary64 one_float size else size

-- ---- operators

abbrev pub of_one : Prefix → Float → Float
of_one Minus x = neg x
of_one Not x = truth (eq x zero_float)
of_one Complement x = long_of (4294967295 - bits_of x)
of_one Abs x = float_with_sign false x
of_one SquareRoot x = sqrt binary64 x
of_one Ceiling x = ceil binary64 x
of_one Floor x = floor binary64 x
of_one NearestInteger x = nearest_integer x
of_one IsInfinite x = sign_of_infinity x

-- a function of one or more operands: of the first, and then of each next one, from what it gave
-- for those before
abbrev pub of_first : ListFunction → Float → Float
of_first Minimum x = x
of_first Maximum x = x
of_first AllFinite x = truth (float_is_finite x)
of_first AnyNan x = truth (is_nan x)

abbrev pub of_next : ListFunction → Float → Float → Float
of_next Minimum before x = smaller before x
of_next Maximum before x = larger before x
of_next AllFinite before x = truth (is_true before && float_is_finite x)
of_next AnyNan before x = truth (is_true before || is_nan x)

abbrev pub of_two : Infix → Float → Float → Float
of_two Multiply x y = mul binary64 x y
of_two Divide x y = div binary64 x y
of_two Remainder x y = remainder x y
of_two Add x y = add binary64 x y
of_two Subtract x y = sub binary64 x y
of_two Less x y = truth (lt x y)
of_two LessOrEqual x y = truth (le x y)
of_two Greater x y = truth (lt y x)
of_two GreaterOrEqual x y = truth (le y x)
of_two Equal x y = truth (eq x y)
of_two NotEqual x y = truth (ne x y)
of_two BitAnd x y = long_of (bit_and (bits_of x) (bits_of y))
of_two And x y = truth (is_true x && is_true y)
of_two ShiftLeft x y = shifted_left x y
of_two ShiftRight x y = shifted_right x y
of_two ShiftRightUnsigned x y = shifted_right_unsigned x y
of_two BitOr x y = long_of (bit_or (bits_of x) (bits_of y))
of_two BitXor x y = long_of (bit_xor (bits_of x) (bits_of y))
of_two Or x y = truth (is_true x || is_true y)
