use Rattle.std.proofs.Common.{◌≡◌}
use Rattle.std.specs.Vec.{vec_capacity}
use Rattle.ioc_journal.proofs.entries.write_to.Given as goal

abbrev pub invariant-loop : goal.invariant-loop
invariant-loop l = vec_capacity l.items ≡ vec_capacity l.fn.items
