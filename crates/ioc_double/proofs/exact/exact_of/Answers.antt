use Rattle.std.proofs.Common.{◌-◌, ◌^◌, ◌≤◌, arith, lit<}
use Rattle.std.proofs.Math.Nat.{pow-le-pow_right}
use Rattle.ioc_double.specs.Groups.{value}
use Rattle.ioc_double.proofs.Decimals.{small_exact, large_exact, fits_groups}
use Rattle.ioc_double.proofs.exact.exact_of.Goals as goal
use Rattle.ioc_double.proofs.exact.exact_of.Goals.{then-size-lt1074, else-size-lt1074}

pub multiply_by_power-requires-clause-fits : goal.multiply_by_power-requires-clause-fits
multiply_by_power-requires-clause-fits c =
    let j = 1074 - c.binary_of-size.result.shift in
    let h : j ≤ 1074 = omega arith in
    fits_groups _ (5 ^ j) (5 ^ 1074) _ _ c.with_zeros-groups.ensures.value c.binary_of-size.ensures.mantissa
    (pow-le-pow_right (lit< tt) h) (lit< tt) c.with_zeros-groups.ensures.count

pub multiply_by_power-requires-else-size-lt1074-clause-fits : goal.multiply_by_power-requires-else-size-lt1074-clause-fits
multiply_by_power-requires-else-size-lt1074-clause-fits c =
    let j = c.binary_of-size.result.shift - 1074 in
    let h : j ≤ 971 = let z = c.binary_of-size.ensures.shift in omega arith in
    fits_groups _ (2 ^ j) (2 ^ 971) _ _ c.with_zeros-groups.ensures.value c.binary_of-size.ensures.mantissa
    (pow-le-pow_right (lit< tt) h) (lit< tt) c.with_zeros-groups.ensures.count

pub returns : goal.returns
returns c =
    elim c.if-size-lt1074.branch [
      | then-size-lt1074 w ↦
          small_exact _ _ _ _ _ (value c.if-size-lt1074.groups) (value c.with_zeros-groups.result) c.binary_of-size.ensures.value w.if-size-lt1074.true w.places-is
          (rw w.groups-is w.multiply_by_power.ensures.value) c.with_zeros-groups.ensures.value c.leading_digits.ensures.leading c.leading_digits.ensures.dropped
      | else-size-lt1074 w ↦
          large_exact _ _ _ _ _ (value c.if-size-lt1074.groups) (value c.with_zeros-groups.result) c.binary_of-size.ensures.value w.if-size-lt1074.false w.places-is
          (rw w.groups-is w.multiply_by_power-else-size-lt1074.ensures.value) c.with_zeros-groups.ensures.value c.leading_digits.ensures.leading c.leading_digits.ensures.dropped
    ]
