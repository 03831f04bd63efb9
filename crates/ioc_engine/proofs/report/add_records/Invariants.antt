use Rattle.std.proofs.Common.{◌≡◌, ◌++◌, map}
use Rattle.ioc_engine.specs.Stopped.{stopped_of}
use Rattle.ioc_engine.proofs.report.add_records.Given as goal

-- The records of the slots so far were appended.
abbrev pub invariant-loop-slot : goal.invariant-loop-slot
invariant-loop-slot g l = l.all.items ≡ l.fn.all.items ++ map stopped_of l.yielded
