use Rattle.std.proofs.Common.{◌≡◌, ◌+◌, ◌≤◌, length}
use Rattle.ioc_scan_rules.specs.FirstLists.{with_each}
use Rattle.ioc_scan_rules.proofs.first_lists.first_lists.Given as goal

-- Adding the remaining records to the lists so far results in the lists with all records.
abbrev pub invariant-loop-rest : goal.invariant-loop-rest
invariant-loop-rest g l =
    (with_each g.K.RecordKind.rules l.occasion l.lists l.number l.rest
    ≡ with_each g.K.RecordKind.rules l.occasion l.initial.lists 0 l.records)
    × (l.lists.last ≤ l.number) × (length l.lists.entries ≡ length l.records) × (l.number + length l.rest ≡ length l.records)

abbrev pub decreases-loop-rest : goal.decreases-loop-rest
decreases-loop-rest g l = length l.rest
