use Rattle.std.proofs.Common.{ℕ, ◌<◌}
use Rattle.std.specs.Prelude.{slice_index_or}
use Rattle.ioc_journaled_set.specs.Holding.{HeldView, KeepsDevices}
use Rattle.ioc_journaled_set.specs.SameDevice.{IsDeviceOf}
use Rattle.ioc_engine_core.proofs.report.all_keep_devices.Given as goal

abbrev pub invariant-loop-held : goal.invariant-loop-held
invariant-loop-held g l = (i : ℕ) (d : HeldView g.row.K.Denot g.row.D.Denot) → i < l.held-index → KeepsDevices (IsDeviceOf g.D.Device.gives g.B.SetsName.devices) (slice_index_or l.sets i d).set
