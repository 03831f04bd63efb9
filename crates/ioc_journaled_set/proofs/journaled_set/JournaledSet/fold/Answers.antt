use Rattle.std.proofs.Common.{sym, subst}
use Rattle.ioc_set.specs.SetState.{SetState}
use Rattle.ioc_journaled_set.specs.Holding.{IsHeld, IsCounted}
use Rattle.ioc_watched.specs.Watched.{AreFresh, watched_by}
use Rattle.ioc_journaled_set.specs.SameDevice.{IsDeviceOf}
use Rattle.ioc_journaled_set.proofs.journaled_set.JournaledSet.fold.Goals as goal

pub invariant_of-self : goal.invariant_of-self
invariant_of-self g c =
    subst (λ (h : SetState g.row.K.Denot g.row.D.Denot). IsHeld g.K.RecordKind.rules g.B.JournalName.base (IsDeviceOf g.D.Device.gives g.B.SetsName.devices) g.B.CellName.table c.self.inside.pass h × IsCounted c.self.inside.share h × AreFresh g.K.RecordKind.rules g.B.JournalName.base h.records (watched_by c.self.inside.watched)) (sym c.fold.ensures)
    (record { owner = c.self.invariant.0.owner; holds = c.self.invariant.0.holds; devices = c.self.invariant.0.devices }, c.self.invariant.1, c.self.invariant.2)
