use Rattle.std.proofs.Common.{◌∙◌}
use Rattle.std.proofs.lemmas.List.{take_all}
use Rattle.ioc_watches.proofs.content.text_of.Goals as goal

pub returns : goal.returns
returns c = c.cut.ensures ∙ take_all 120 c.args.bytes.now c.requires
