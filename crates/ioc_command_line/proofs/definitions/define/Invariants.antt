use Rattle.std.proofs.Common.{◌≡◌}
use Rattle.ioc_command_line.specs.Definitions.{pieces, defined_by}
use Rattle.ioc_command_line.proofs.Cutting.{left_in, bytes_left, left_length}
use Rattle.ioc_command_line.proofs.definitions.define.Given as goal

abbrev pub invariant-loop-rest : goal.invariant-loop-rest
invariant-loop-rest l = defined_by l.macros (left_in (bytes_left l.rest)) ≡ defined_by l.initial.macros (pieces l.word)

abbrev pub decreases-loop-rest : goal.decreases-loop-rest
decreases-loop-rest l = left_length (bytes_left l.rest)
