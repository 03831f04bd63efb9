use Rattle.std.proofs.Common.{codes, refl, ◌∙◌, ap, inr}
use Rattle.ioc_arguments.proofs.Asking.{first_is, text_of}
use Rattle.ioc_arguments.proofs.arguments.seconds_in.Goals as goal

pub returns-in-None : goal.returns-in-None
returns-in-None c = inr (first_is c.args.matches.now (codes "save-every") c.get_str.result c.get_str.ensures ∙ ap text_of c.in-None.is, refl)
