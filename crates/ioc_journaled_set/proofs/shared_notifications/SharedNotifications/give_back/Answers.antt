use Rattle.std.proofs.Common.{sym, subst}
use Rattle.ioc_journaled_set.specs.PutPlaces.{Places}
use Rattle.ioc_journaled_set.specs.Puts.{AreKept}
use Rattle.ioc_journaled_set.proofs.Kept.{number_given_back}
use Rattle.ioc_journaled_set.proofs.shared_notifications.SharedNotifications.give_back.Goals as goal

pub invariant_of-self : goal.invariant_of-self
invariant_of-self g c =
    subst (λ (p : Places). AreKept g.K.RecordKind.rules g.B.JournalName.base g.B.CellName.table c.self.inside.pass c.self.inside.table p c.self.inside.last) (sym c.give_back.ensures)
    (number_given_back g.K.RecordKind.rules g.B.JournalName.base g.B.CellName.table c.self.inside.pass c.self.inside.table c.self.inside.places c.self.inside.last c.args.number c.self.invariant)
