use Rattle.std.proofs.Common.{arith}
use Rattle.ioc_set.specs.Doing.{held_by}
use Rattle.ioc_set.proofs.Linked.{folded_holds}
use Rattle.ioc_set.proofs.lock_set.LockSet.fold.Goals as goal

pub clear_history-requires-clause-fits : goal.clear_history-requires-clause-fits
clear_history-requires-clause-fits g c =
    let inside = c.self.inside in
    let few = c.are_few.ensures in
    let fewer = c.held_records_are_sound.ensures.fewer (held_by inside.members inside.puts inside.base_tally inside.tally inside.history.items) c.self.invariant.0 in
    omega (arith, few, fewer)

pub invariant_of-self : goal.invariant_of-self
invariant_of-self g c =
    folded_holds g.K.RecordKind.rules c.self.inside.members c.clear_history.new.members c.self.inside.puts c.clear_history.new.puts c.self.inside.base_tally c.clear_history.new.base_tally c.self.inside.tally c.self.inside.history.items c.give_back.new.history.items
    c.clear_history.ensures.members c.clear_history.ensures.puts c.clear_history.ensures.tally c.give_back.ensures c.self.invariant.0
