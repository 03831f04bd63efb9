use Rattle.std.proofs.Common.{subst}
use Rattle.ioc_journaled_set.specs.Holding.{HeldView, KeepsDevices}
use Rattle.ioc_journaled_set.specs.SameDevice.{IsDeviceOf}
use Rattle.ioc_journaled_set.proofs.ending.EndedSet.keeps_devices.Goals as goal

pub returns : goal.returns
returns g c = subst (λ (v : HeldView g.row.K.Denot g.row.D.Denot). KeepsDevices (IsDeviceOf g.D.Device.gives g.B.SetsName.devices) v.set) c.self.view_is c.self.invariant.0
