use Rattle.std.proofs.Common.{◌∙◌, rules}
use Rattle.ioc_calc.proofs.WholeSizes.{size_of_bits}
use Rattle.ioc_calc.proofs.wholes.whole_of.Goals as goal

pub returns-clause-value : goal.returns-clause-value
returns-clause-value c = c.whole_of_fields.ensures.value
    ∙ size_of_bits c.args.x c.f64_to_bits_with_nan-bits.result (search rules) c.requires c.f64_to_bits_with_nan-bits.ensures
