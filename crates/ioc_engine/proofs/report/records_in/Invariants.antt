use Rattle.ioc_journaled_set.specs.SameDevice.{IsDeviceOf}
use Rattle.ioc_engine.specs.Stopped.{GivesBack}
use Rattle.ioc_engine.proofs.report.records_in.Given as goal

-- The records of the sets so far were appended.
abbrev pub invariant-loop-set : goal.invariant-loop-set
invariant-loop-set g l = GivesBack (IsDeviceOf g.D.Device.gives g.B.SetsName.devices) l.yielded l.all.items
