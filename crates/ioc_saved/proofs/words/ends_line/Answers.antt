use Rattle.ioc_saved.proofs.Cuts.{last_is}
use Rattle.ioc_saved.proofs.words.ends_line.Goals as goal

pub returns-in-Some : goal.returns-in-Some
returns-in-Some c = last_is c.args.text.now c.in-Some.last.now c.in-Some.ensures.value
