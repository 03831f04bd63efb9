use Rattle.std.proofs.Common.{ℕ, ap, ◌∙◌, from_bits}
use Rattle.std.specs.Float.Ieee.{binary64}
use Rattle.std.specs.Float.Ieee.Bits.{of_bits-to_bits}
use Rattle.ioc_double.proofs.double.Double.to_bits.Goals as goal

pub returns-clause-back : goal.returns-clause-back
returns-clause-back c = ap (λ (b : ℕ). from_bits binary64 b) c.f64_to_bits_with_nan.ensures ∙ of_bits-to_bits binary64 c.self.inside.number c.self.invariant ∙ c.self.view_is
