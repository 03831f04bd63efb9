use Rattle.std.proofs.Common.{◌≡◌, ◌++◌, length}
use Rattle.ioc_main.specs.Replay.{ended_lines}
use Rattle.ioc_main.proofs.replay.Replay.tell_each_ended.Given as goal

abbrev pub invariant-loop-rest : goal.invariant-loop-rest
invariant-loop-rest l = l.more.items ++ ended_lines l.rest ≡ l.initial.more.items ++ ended_lines l.initial.rest

abbrev pub decreases-loop-rest : goal.decreases-loop-rest
decreases-loop-rest l = length l.rest
