use Rattle.std.proofs.Common.{◌≡◌}
use Rattle.rec_types.specs.Record.{record_rules}
use Rattle.ioc_sim.specs.Machine.{serve, most_served}
use Rattle.ioc_sim.specs.SeenMachine.{machine_of}
use Rattle.ioc_sim.proofs.machine.Machine.serve.Given as goal

abbrev pub invariant-loop-turns : goal.invariant-loop-turns
invariant-loop-turns l = serve record_rules l.turns (machine_of l.self) ≡ serve record_rules most_served (machine_of l.initial.self)

abbrev pub decreases-loop-turns : goal.decreases-loop-turns
decreases-loop-turns l = l.turns
