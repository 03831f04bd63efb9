use Rattle.std.proofs.Common.{◌≢◌, ℕ, ◌-◌, ◌≤◌, ◌/◌, ◌%◌, ◌^◌, T, sym, subst, arith}
use Rattle.ioc_double.proofs.Fields.{small_size, usual_size}
use Rattle.ioc_double.proofs.exact.binary_of.Goals as goal

shift_le : (b : ℕ) → b % 2 ^ 63 / 2 ^ 52 ≢ 2047 → b % 2 ^ 63 / 2 ^ 52 - 1 ≤ 2045
shift_le b h = omega arith

pub returns-then-exponent-eq0-clause-value : goal.returns-then-exponent-eq0-clause-value
returns-then-exponent-eq0-clause-value c = small_size c.args.number _ (subst T (sym c.well_formed.0.1) tt) c.f64_to_bits_with_nan-bits.ensures c.if-exponent-eq0.true

pub returns-else-exponent-eq0-clause-value : goal.returns-else-exponent-eq0-clause-value
returns-else-exponent-eq0-clause-value c = (usual_size c.args.number _ (subst T (sym c.well_formed.0.1) tt) c.requires c.f64_to_bits_with_nan-bits.ensures c.if-exponent-eq0.false).1

pub returns-else-exponent-eq0-clause-shift : goal.returns-else-exponent-eq0-clause-shift
returns-else-exponent-eq0-clause-shift c =
    shift_le _ (usual_size c.args.number _ (subst T (sym c.well_formed.0.1) tt) c.requires c.f64_to_bits_with_nan-bits.ensures c.if-exponent-eq0.false).0
