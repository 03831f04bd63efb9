use Rattle.std.proofs.Common.{sym, ◌∙◌}
use Rattle.ioc_dblex.proofs.LineEnds.{line_none, line_one, line_two}
use Rattle.ioc_dblex.proofs.lines.without_end.Goals as goal

pub returns-then-not-stands : goal.returns-then-not-stands
returns-then-not-stands c = line_none c.args.line.now c.requires (sym c.stands.ensures ∙ c.if-not-stands.true)

pub returns-then-stands : goal.returns-then-stands
returns-then-stands c = line_two c.args.line.now c.requires (sym c.stands.ensures ∙ c.if-not-stands.false) (sym c.stands-2.ensures ∙ c.if-stands.true)

pub returns : goal.returns
returns c = line_one c.args.line.now c.requires (sym c.stands.ensures ∙ c.if-not-stands.false) (sym c.stands-2.ensures ∙ c.if-stands.false)
