use Rattle.std.proofs.Common.{[], refl}
use Rattle.ioc_dblex.proofs.Advance.{all_done}
use Rattle.ioc_dblex.proofs.tokens.stop.Goals as goal

pub returns-clause-tokens : goal.returns-clause-tokens
returns-clause-tokens c = all_done c.args.place.now.line [] [] refl
