use Rattle.ioc_main.proofs.Bracing.{place_there}
use Rattle.ioc_main.proofs.sets.name_of.Goals as goal

pub record-requires : goal.record-requires
record-requires c = place_there c.args.map.now c.args.number c.new.result c.new.ensures c.requires
