use Rattle.std.proofs.Common.{◌≡◌, ◌++◌, length, map}
use Rattle.rec_types.specs.Record.{record_rules}
use Rattle.ioc_dbfile.proofs.finish.types_of.Given as goal

abbrev pub invariant-loop-rest : goal.invariant-loop-rest
invariant-loop-rest l = l.types.items ++ map record_rules.record_type l.rest ≡ map record_rules.record_type l.records

abbrev pub decreases-loop-rest : goal.decreases-loop-rest
decreases-loop-rest l = length l.rest
