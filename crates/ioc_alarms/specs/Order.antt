-- How values and limits are compared. Record Reference Manual, "Alarm Parameters" of longin and ai.
use Rattle.std.specs.Prelude.{ℤ, ◌+ℤ◌, ◌-ℤ◌, int_lt, int_le, Bool}
use Rattle.std.specs.Ordering.{int_eq}
use Rattle.std.specs.Float.Ieee.{Float, binary64, add, sub, lt, le, eq}

-- The comparisons of a kind of number.
pub record LimitOrder (N : Type 0) : Type 0 where
  pub is_less : N → N → Bool
  pub is_at_most : N → N → Bool
  -- Whether two numbers are the same limit.
  pub is_same : N → N → Bool
  -- Whether a value is at least a limit minus a hysteresis: `keeps_high limit hysteresis value`.
  pub keeps_high : N → N → N → Bool
  -- Whether a value is at most a limit plus a hysteresis.
  pub keeps_low : N → N → N → Bool

-- Whole numbers: no difference and no sum wraps.
abbrev pub whole_order : LimitOrder ℤ
whole_order = record {
  is_less = int_lt;
  is_at_most = int_le;
  is_same = int_eq;
  keeps_high = λ limit hysteresis value. int_le (limit -ℤ hysteresis) value;
  keeps_low = λ limit hysteresis value. int_le value (limit +ℤ hysteresis);
}

-- Doubles, by IEEE 754: a comparison with NaN is false, -0 equals 0, and differences and sums are rounded.
abbrev pub double_order : LimitOrder Float
double_order = record {
  is_less = lt;
  is_at_most = le;
  is_same = eq;
  keeps_high = λ limit hysteresis value. le (sub binary64 limit hysteresis) value;
  keeps_low = λ limit hysteresis value. le value (add binary64 limit hysteresis);
}
