use Rattle.std.proofs.Common.{sym, subst}
use Rattle.ioc_journal.specs.declared.entry.Note.{Note}
use Rattle.ioc_journal.specs.Base.{IsBaseOf}
use Rattle.ioc_journal.specs.Legal.{map_of}
use Rattle.ioc_journal.specs.Places.{JournalOf}
use Rattle.ioc_journaled_set.proofs.checkpoint.drop_known.Goals as goal

pub drop_entries-requires : goal.drop_entries-requires
drop_entries-requires g c =
    let k = g.K.RecordKind.rules in
    let base = g.B.JournalName.base in
    let records = c.args.base.records.items in
    let waiting = c.args.base.waiting.items in
    record { base = subst (λ (j : JournalOf Note). IsBaseOf (map_of k base j.filled) records waiting) (sym c.move_all_to.ensures.journal) c.move_all_to.ensures.base }
