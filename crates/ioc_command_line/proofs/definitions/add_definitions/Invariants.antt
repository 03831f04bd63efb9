use Rattle.std.proofs.Common.{length}
use Rattle.ioc_command_line.proofs.definitions.add_definitions.Given as goal

abbrev pub decreases-loop-rest : goal.decreases-loop-rest
decreases-loop-rest l = length l.rest
