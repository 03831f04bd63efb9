use Rattle.std.proofs.Common.{ap, ◌∙◌, arith}
use Rattle.std.proofs.lemmas.List.{take_all}
use Rattle.ioc_double.specs.Spelled.{double_of_text}
use Rattle.ioc_values.proofs.conversion.exact_double_text.Goals as goal

pub returns : goal.returns
returns c =
    ap double_of_text (c.cut.ensures ∙ take_all 39 c.as_slice.result.now (omega (arith, c.as_slice.ensures.fits)) ∙ c.as_slice.ensures.value) ∙ c.exact_text.ensures
