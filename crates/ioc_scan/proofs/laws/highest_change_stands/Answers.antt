use Rattle.ioc_scan.proofs.Highest.{highest_stands}
use Rattle.ioc_scan.proofs.laws.highest_change_stands.Goals as goal

pub returns : goal.returns
returns c = λ earlier later change. highest_stands c.args.before.now earlier later change
