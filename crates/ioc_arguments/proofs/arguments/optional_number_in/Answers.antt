use Rattle.std.proofs.Common.{◌∙◌, ap}
use Rattle.ioc_arguments.proofs.Asking.{first_is, text_of}
use Rattle.ioc_arguments.proofs.arguments.optional_number_in.Goals as goal

pub returns-in-None : goal.returns-in-None
returns-in-None c = first_is c.args.matches.now c.args.id.now c.get_str.result c.get_str.ensures ∙ ap text_of c.in-None.is
