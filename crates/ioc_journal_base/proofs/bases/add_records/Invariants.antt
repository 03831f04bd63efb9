use Rattle.std.proofs.Common.{◌≡◌, ◌+◌, ◌++◌, length}
use Rattle.ioc_journal_base.specs.Whole.{records_items}
use Rattle.ioc_journal_base.proofs.bases.add_records.Given as goal

abbrev pub invariant-loop-rest : goal.invariant-loop-rest
invariant-loop-rest l = (l.items.items ++ records_items l.number l.rest ≡ l.initial.items.items ++ records_items 0 l.records) × (l.number + length l.rest ≡ length l.records)

abbrev pub decreases-loop-rest : goal.decreases-loop-rest
decreases-loop-rest l = length l.rest
