use Rattle.std.specs.Prelude.{[], ◌∷◌}
use Rattle.ioc_journal.proofs.pass.claim_key.Given as goal

abbrev pub ghosts-claim_as : goal.ghosts-claim_as
ghosts-claim_as a = record { keys = (a.kind, a.number) ∷ []; rest = [] }
