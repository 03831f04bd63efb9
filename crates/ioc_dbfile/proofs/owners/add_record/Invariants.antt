use Rattle.std.proofs.Common.{◌≡◌, ℕ, List, length}
use Rattle.std.specs.List.{list_any}
use Rattle.rec_types.specs.Record.{record_rules}
use Rattle.ioc_dbfile.specs.Owners.{field_names_device, asks_for}
use Rattle.ioc_dbfile.specs.OwnerTable.{owner_in, or_else}
use Rattle.ioc_dbfile.proofs.OwnerLemmas.{number_if}
use Rattle.ioc_dbfile.proofs.owners.add_record.Given as goal

abbrev pub invariant-loop-rest : goal.invariant-loop-rest
invariant-loop-rest l =
    (text : List ℕ) → or_else (owner_in l.owners text) (number_if (list_any (λ f. field_names_device text (record_rules.link l.item f)) l.rest) l.number)
    ≡ or_else (owner_in l.initial.owners text) (number_if (asks_for record_rules text l.item) l.number)

abbrev pub decreases-loop-rest : goal.decreases-loop-rest
decreases-loop-rest l = length l.rest
