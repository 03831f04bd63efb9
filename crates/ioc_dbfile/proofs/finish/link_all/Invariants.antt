use Rattle.std.proofs.Common.{◌≡◌, length}
use Rattle.rec_types.specs.Record.{record_rules}
use Rattle.ioc_dbfile.specs.Finished.{linked_all}
use Rattle.ioc_dbfile.specs.OwnDevices.{owner_for}
use Rattle.ioc_dbfile.proofs.finish.link_all.Given as goal

abbrev pub invariant-loop-rest : goal.invariant-loop-rest
invariant-loop-rest l =
    linked_all record_rules l.names l.whole.types.items (owner_for l.whole.owners l.number) l.number l.rest l.item
    ≡ linked_all record_rules l.names l.whole.types.items (owner_for l.whole.owners l.number) l.number l.fields l.initial.item

abbrev pub decreases-loop-rest : goal.decreases-loop-rest
decreases-loop-rest l = length l.rest
