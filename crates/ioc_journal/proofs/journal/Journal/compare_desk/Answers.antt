use Rattle.std.proofs.Common.{◌≡◌, subst}
use Rattle.crossbeam_utils.specs.Seq.{cell_view}
use Rattle.ioc_journal.specs.declared.entry.Note.{Note}
use Rattle.ioc_journal.specs.Account.{DeskView, calls, calls_by}
use Rattle.ioc_journal.specs.Places.{JournalOf}
use Rattle.ioc_journal.proofs.Learning.{desk-moves, calls-stay}
use Rattle.ioc_journal.proofs.journal.Journal.compare_desk.Goals as goal

pub invariant_of-desk : goal.invariant_of-desk
invariant_of-desk g c =
    let e = c.learn_whole.ensures in
    desk-moves c.desk.invariant (cell_view c.self.inside.pass).seen c.self.invariant.account e.goes_on _ _ e.set.0 e.set.1

pub returns-clause-calls : goal.returns-clause-calls
returns-clause-calls g c =
    subst (λ (d : DeskView). calls_by d.number (calls c.args.self.now.filled) ≡ calls_by d.number (calls d.seen)) c.desk.view_is
    (subst (λ (j : JournalOf Note). calls_by c.desk.inside.number (calls j.filled) ≡ calls_by c.desk.inside.number (calls (cell_view c.desk.inside.pass).seen)) c.self.view_is
    (calls-stay c.desk.invariant (cell_view c.self.inside.pass).seen c.self.invariant.account c.learn_whole.ensures.goes_on))
