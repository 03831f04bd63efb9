use Rattle.ioc_dbparse.proofs.Taking.{expected}
use Rattle.ioc_dbparse.proofs.words.expect.Goals as goal

pub returns-then-take_sign : goal.returns-then-take_sign
returns-then-take_sign c = expected c.args.b c.args.last c.args.tokens.now c.take_sign.new.self c.if-take_sign.ensures
