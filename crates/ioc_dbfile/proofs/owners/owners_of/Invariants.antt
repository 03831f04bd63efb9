use Rattle.std.proofs.Common.{◌≡◌, ◌+◌, ℕ, List, length}
use Rattle.std.specs.List.{position_from}
use Rattle.rec_types.specs.Record.{record_rules}
use Rattle.ioc_dbfile.specs.Owners.{asks_for}
use Rattle.ioc_dbfile.specs.OwnerTable.{owner_in, or_else}
use Rattle.ioc_dbfile.proofs.owners.owners_of.Given as goal

abbrev pub invariant-loop-rest : goal.invariant-loop-rest
invariant-loop-rest l =
    (l.number + length l.rest ≡ length l.records)
    × ((text : List ℕ) → or_else (owner_in l.owners text) (position_from (asks_for record_rules text) l.number l.rest) ≡ position_from (asks_for record_rules text) 0 l.records)

abbrev pub decreases-loop-rest : goal.decreases-loop-rest
decreases-loop-rest l = length l.rest
