use Rattle.std.proofs.Common.{take, drop, subst}
use Rattle.crossbeam_utils.specs.Seq.{cell_view}
use Rattle.ioc_journal.specs.declared.entry.Note.{Note}
use Rattle.ioc_journal.specs.Legal.{IsLegal, map_of}
use Rattle.ioc_journal.specs.Places.{JournalOf}
use Rattle.ioc_journal.proofs.Bases.{legal_from}
use Rattle.ioc_journal.proofs.journal.Journal.base.Goals as goal

pub returns-clause-legal : goal.returns-clause-legal
returns-clause-legal g c =
    let k = g.K.RecordKind.rules in
    let base = g.B.JournalName.base in
    subst (λ (j : JournalOf Note). IsLegal k (map_of k base (take j.dropped j.filled)) (drop j.dropped j.filled)) c.self.view_is (legal_from k base c.self.inside.dropped (cell_view c.self.inside.pass).seen c.self.invariant.account.legal)
