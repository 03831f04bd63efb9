use Rattle.std.proofs.Common.{rules, [], ◌∷◌}
use Rattle.ioc_journal.proofs.Moves.{begins}
use Rattle.ioc_engine_core.proofs.opening.new_cell.Goals as goal

pub ruled-requires : goal.ruled-requires
ruled-requires c = (search rules, (search rules, begins (0 ∷ [])))
