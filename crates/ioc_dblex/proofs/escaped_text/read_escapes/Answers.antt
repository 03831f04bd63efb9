use Rattle.std.proofs.Common.{sym, ◌∙◌}
use Rattle.ioc_dblex.proofs.PlainTokens.{plain_said}
use Rattle.ioc_dblex.proofs.escaped_text.read_escapes.Goals as goal

pub returns-then-lacks : goal.returns-then-lacks
returns-then-lacks c = plain_said c.args.in_value c.args.bytes.now (sym c.lacks.ensures ∙ c.if-lacks.true)
