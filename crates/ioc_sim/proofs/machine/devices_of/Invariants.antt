use Rattle.std.proofs.Common.{◌≡◌, ◌++◌, length, map}
use Rattle.rec_types.specs.Record.{record_rules}
use Rattle.ioc_sim.specs.Machine.{first_queue}
use Rattle.ioc_sim.proofs.machine.devices_of.Given as goal

abbrev pub invariant-loop-rest : goal.invariant-loop-rest
invariant-loop-rest l = l.devices.items ++ map (first_queue record_rules) l.rest ≡ map (first_queue record_rules) l.records

abbrev pub decreases-loop-rest : goal.decreases-loop-rest
decreases-loop-rest l = length l.rest
