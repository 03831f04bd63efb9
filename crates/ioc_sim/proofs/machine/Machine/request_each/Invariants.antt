use Rattle.std.proofs.Common.{◌≡◌, length}
use Rattle.rec_types.specs.Record.{record_rules}
use Rattle.ioc_sim.specs.Machine.{each_requested}
use Rattle.ioc_sim.specs.SeenMachine.{machine_of}
use Rattle.ioc_sim.proofs.machine.Machine.request_each.Given as goal

abbrev pub invariant-loop-rest : goal.invariant-loop-rest
invariant-loop-rest l = each_requested record_rules (machine_of l.self) l.rest ≡ each_requested record_rules (machine_of l.initial.self) l.listed

abbrev pub decreases-loop-rest : goal.decreases-loop-rest
decreases-loop-rest l = length l.rest
