use Rattle.std.proofs.Common.{subst}
use Rattle.ioc_journaled_set.specs.Holding.{HeldView, IsSoundlyHeld}
use Rattle.ioc_journaled_set.proofs.locked.JournaledSetLocked.is_sound.Goals as goal

pub returns : goal.returns
returns g c =
    subst (λ (v : HeldView g.row.K.Denot g.row.D.Denot). IsSoundlyHeld g.K.RecordKind.rules g.B.JournalName.base v) c.self.view_is (record { sound = c.is_sound.ensures; holds = c.self.invariant.0.holds })
