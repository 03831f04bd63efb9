use Rattle.std.proofs.Common.{sym, ◌∙◌, nat_eq}
use Rattle.std.specs.Cmp.Lexicographic.{pointwise}
use Rattle.ioc_values.proofs.Mapped.{position_made}
use Rattle.ioc_values.proofs.conversion.choice_of.Goals as goal

pub returns : goal.returns
returns c = c.place_of.ensures ∙ sym (position_made (λ t. pointwise nat_eq t c.args.text.now) (λ t. t.now) c.args.choices.now)
