use Rattle.std.proofs.Common.{◌≡◌, length}
use Rattle.ioc_journal_base.specs.Items.{given_part}
use Rattle.ioc_journal_base.proofs.records.given_part.Given as goal

abbrev pub invariant-loop-rest : goal.invariant-loop-rest
invariant-loop-rest l = given_part l.rest l.field ≡ given_part l.items l.field

abbrev pub decreases-loop-rest : goal.decreases-loop-rest
decreases-loop-rest l = length l.rest
