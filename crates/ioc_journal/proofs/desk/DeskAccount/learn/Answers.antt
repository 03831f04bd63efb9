use Rattle.std.proofs.Common.{rules, ◌≡◌, sym, ap, ◌∙◌, subst}
use Rattle.crossbeam_utils.specs.Seq.{cell_view}
use Rattle.ioc_journal.specs.declared.cell.View.{View}
use Rattle.ioc_journal.specs.Line.{holder, longer}
use Rattle.ioc_journal.specs.Account.{DeskView, calls, calls_by, IsAccount}
use Rattle.ioc_journal.proofs.Learning.{desk-learns, same-calls}
use Rattle.ioc_journal.proofs.desk.DeskAccount.learn.Goals as goal

pub invariant_of-self : goal.invariant_of-self
invariant_of-self g c =
    let told = ap (λ (v : View). v.seen) c.copy-copy.ensures.given.2 in
    let account = subst (IsAccount g.K.RecordKind.rules g.B.JournalName.base) (sym told) c.receipt.invariant.account in
    let e = c.learn.ensures in
    desk-learns c.self.invariant _ account e.goes_on _ _ e.kept.0 (e.kept.1 ∙ search rules)

pub returns-clause-calls : goal.returns-clause-calls
returns-clause-calls g c =
    let told = ap (λ (v : View). v.seen) c.copy-copy.ensures.given.2 in
    let account = subst (IsAccount g.K.RecordKind.rules g.B.JournalName.base) (sym told) c.receipt.invariant.account in
    let e = c.learn.ensures in
    let holds : cell_view c.learn.new.pass ≡ holder (longer (cell_view c.self.inside.pass).seen (cell_view c.copy-copy.result).seen) (cell_view c.self.inside.pass).owns = e.kept.1 ∙ search rules in
    subst (λ (v : DeskView). calls_by c.self.inside.number (calls (cell_view c.learn.new.pass).seen) ≡ calls_by v.number (calls v.seen)) c.self.view_is (same-calls c.self.invariant _ account e.goes_on _ holds)
