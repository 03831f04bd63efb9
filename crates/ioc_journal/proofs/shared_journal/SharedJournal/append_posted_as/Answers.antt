use Rattle.crossbeam_utils.specs.Seq.{cell_view}
use Rattle.ioc_journal.proofs.Postings.{posting-appends}
use Rattle.ioc_journal.proofs.shared_journal.SharedJournal.append_posted_as.Goals as goal

pub append-added-requires-clause-may : goal.append-added-requires-clause-may
append-added-requires-clause-may g c =
    posting-appends g.K.RecordKind.rules g.B.JournalName.base (cell_view c.copy-nobody.result) g.S.EntryName.entry c.args.entry _ _ _ _
    c.requires.entry c.requires.posting c.requires.answers c.none-counts.ensures.sent c.none-counts.ensures.share
