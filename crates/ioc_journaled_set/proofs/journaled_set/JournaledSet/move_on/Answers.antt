use Rattle.ioc_journal.specs.Legal.{map_of}
use Rattle.ioc_journaled_set.proofs.BaseOf.{in_by_set}
use Rattle.ioc_journaled_set.proofs.journaled_set.JournaledSet.move_on.Goals as goal

pub returns-clause-is_in : goal.returns-clause-is_in
returns-clause-is_in g c =
    in_by_set (map_of g.K.RecordKind.rules g.B.JournalName.base c.args.journal.now.filled) c.args.self.now c.learn_all.new.self c.learn_all.ensures.set c.learn_all.ensures.told c.learn_all.ensures.waiting c.is_sound.ensures.holds.within
