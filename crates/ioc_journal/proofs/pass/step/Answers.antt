use Rattle.std.proofs.Common.{rules}
use Rattle.ioc_journal.proofs.pass.step.Goals as goal

pub load_as-requires : goal.load_as-requires
load_as-requires g c = (search rules, (search rules, (c.requires.table, c.requires.rule)))

pub returns : goal.returns
returns g c = record { table = c.load_as.ensures.cell.0; rule = (c.load_as.result, c.load_as.ensures.rule) }
