use Rattle.std.proofs.Common.{ap, sym, ◌∙◌}
use Rattle.ioc_values.specs.Number.{within_i64}
use Rattle.ioc_values.proofs.Printed.{plain_number}
use Rattle.ioc_values.proofs.number.number.Goals as goal

pub returns-in-Some : goal.returns-in-Some
returns-in-Some c = c.unsigned.ensures ∙ ap within_i64 (sym (plain_number c.args.text.now c.in-Some.number (sym c.in-Some.is ∙ c.decimal.ensures)))
