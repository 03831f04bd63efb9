use Rattle.std.proofs.Common.{◌∙◌, ap, codes, sym}
use Rattle.ioc_arguments.proofs.Asking.{first_is}
use Rattle.ioc_arguments.specs.Arguments.{devices_named}
use Rattle.ioc_arguments.proofs.arguments.devices_in.Goals as goal

pub returns-in-Some : goal.returns-in-Some
returns-in-Some c =
    ap (devices_named c.args.mode) (first_is c.args.matches.now (codes "devices") c.get_str.result c.get_str.ensures)
    ∙ sym c.devices_named.ensures ∙ c.in-Some.is
