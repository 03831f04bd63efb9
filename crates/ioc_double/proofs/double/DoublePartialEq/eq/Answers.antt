use Rattle.ioc_double.proofs.SameBits.{same_by_bits}
use Rattle.ioc_double.proofs.double.DoublePartialEq.eq.Goals as goal

pub returns : goal.returns
returns c =
    same_by_bits _ _ _ _ _ _ c.self.invariant c.other.invariant c.self.view_is c.other.view_is
    c.f64_to_bits_with_nan.ensures c.f64_to_bits_with_nan-2.ensures
