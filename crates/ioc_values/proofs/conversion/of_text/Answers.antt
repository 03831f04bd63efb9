use Rattle.std.proofs.Common.{ap, ◌∙◌, List, ℕ, Some}
use Rattle.std.proofs.lemmas.List.{take_all}
use Rattle.ioc_values.specs.declared.value.Value.TheVariants.{Text}
use Rattle.ioc_values.specs.Conversion.{sort_of, of_text}
use Rattle.ioc_values.proofs.conversion.of_text.Goals as goal

pub returns-in-Text : goal.returns-in-Text
unfolding of_text sort_of
returns-in-Text c = rw c.in-Text.is (ap (λ (t : List ℕ). Some (Text t)) (c.cut.ensures ∙ take_all 39 c.args.bytes.now c.requires))
