use Rattle.std.proofs.Common.{◌≡◌, length}
use Rattle.std.specs.List.{list_any}
use Rattle.ioc_scan_rules.specs.FirstLists.{is_starter}
use Rattle.ioc_scan_rules.proofs.first_lists.any_starts.Given as goal

abbrev pub invariant-loop-rest : goal.invariant-loop-rest
invariant-loop-rest g l = list_any (is_starter g.K.RecordKind.rules) l.rest ≡ list_any (is_starter g.K.RecordKind.rules) l.records

abbrev pub decreases-loop-rest : goal.decreases-loop-rest
decreases-loop-rest g l = length l.rest
