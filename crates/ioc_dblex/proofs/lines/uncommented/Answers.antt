use Rattle.std.proofs.Common.{sym, ◌∙◌}
use Rattle.ioc_dblex.specs.declared.lines.Quoting.TheVariants.{Outside}
use Rattle.ioc_dblex.proofs.LineEnds.{no_comment}
use Rattle.ioc_dblex.proofs.lines.uncommented.Goals as goal

pub returns-then-lacks : goal.returns-then-lacks
returns-then-lacks c = no_comment Outside c.args.line.now (sym c.lacks.ensures ∙ c.if-lacks.true)
