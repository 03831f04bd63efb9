use Rattle.std.proofs.Common.{sym, subst, ap, ℕ, List}
use Rattle.crossbeam_utils.specs.Seq.{cell_view}
use Rattle.ioc_journal.specs.declared.cell.View.{View}
use Rattle.ioc_journaled_set.specs.PutPlaces.{Places}
use Rattle.ioc_journaled_set.specs.Puts.{puts_view, AreKept, CanBegin}
use Rattle.ioc_journaled_set.proofs.Kept.{number_given_back, may_begin}
use Rattle.ioc_journaled_set.proofs.shared_notifications.SharedNotifications.release.Goals as goal

pub invariant_of-self : goal.invariant_of-self
invariant_of-self g c =
    subst (λ (p : Places). AreKept g.K.RecordKind.rules g.B.JournalName.base g.B.CellName.table c.self.inside.pass c.self.inside.table p c.self.inside.last) (sym c.give_back.ensures)
    (number_given_back g.K.RecordKind.rules g.B.JournalName.base g.B.CellName.table c.self.inside.pass c.self.inside.table c.self.inside.places c.self.inside.last c.args.number c.self.invariant)

pub returns-clause-can : goal.returns-clause-can
returns-clause-can g c = λ _.
    subst (λ (xs : List ℕ). CanBegin (puts_view c.self.inside.table.live xs c.self.inside.last (cell_view {V = View} c.self.inside.pass).seen) c.args.number) (sym (ap (λ (p : Places). p.taken) c.give_back.ensures))
    (may_begin g.K.RecordKind.rules g.B.JournalName.base g.B.CellName.table c.self.inside.pass c.self.inside.table c.self.inside.places c.self.inside.last c.args.number c.self.invariant
    c.is_table.ensures c.are_few.ensures (c.has_taken.ensures.0 c.if-not-has_taken.false))
