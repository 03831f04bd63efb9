use Rattle.std.proofs.Common.{◌≡◌, ◌++◌, take, drop}
use Rattle.rec_types.specs.Record.{record_rules}
use Rattle.ioc_dbfile.specs.Finished.{linked_all, by_place}
use Rattle.ioc_dbfile.specs.OwnDevices.{owner_for}
use Rattle.ioc_dbfile.proofs.finish.link_all_own.Given as goal

abbrev pub invariant-loop-item : goal.invariant-loop-item
invariant-loop-item l =
    (l.number ≡ l.item-index)
    × (l.records ≡ by_place (λ n r. linked_all record_rules l.names l.whole.types.items (owner_for l.whole.owners n) n (record_rules.link_fields r) r) 0 (take l.item-index l.initial.records) ++ drop l.item-index l.initial.records)
