use Rattle.std.proofs.Common.{◌≡◌, length}
use Rattle.ioc_journal_base.specs.Items.{hidden_given}
use Rattle.ioc_journal_base.proofs.records.hidden_given.Given as goal

abbrev pub invariant-loop-rest : goal.invariant-loop-rest
invariant-loop-rest l = hidden_given l.rest l.fresh ≡ hidden_given l.items l.fresh

abbrev pub decreases-loop-rest : goal.decreases-loop-rest
decreases-loop-rest l = length l.rest
