use Rattle.ioc_engine_core.proofs.Lists.{lists_stay}
use Rattle.ioc_engine_core.proofs.engine_lists.EngineLists.take.Goals as goal

pub invariant_of-self : goal.invariant_of-self
invariant_of-self g c =
    lists_stay g.K.RecordKind.rules g.B.JournalName.base c.self.inside.lists c.take_item.new.lists c.args.item.now c.self.invariant c.take_item.ensures.lists
