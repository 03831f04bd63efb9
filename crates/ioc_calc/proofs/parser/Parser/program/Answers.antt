use Rattle.std.proofs.Common.{sym}
use Rattle.ioc_calc.proofs.Codes.{has_code}
use Rattle.ioc_calc.proofs.parser.Parser.program.Goals as goal

pub returns : goal.returns
returns c = has_code _ c.self.inside.steps c.self.inside.length c.self.inside.numbers c.self.inside.count c.args.self.now
    c.self.inside.tokens.now (sym c.self.view_is) c.new.ensures
