use Rattle.ioc_devices.specs.Asking.{TakesAll}
use Rattle.ioc_devices.proofs.asks.AskTeller.take.Given as goal

abbrev pub invariant-loop : goal.invariant-loop
invariant-loop g l = TakesAll l.initial.self.lane.seen l.taken.items l.self.lane.seen
