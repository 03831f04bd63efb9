use Rattle.std.proofs.Common.{[], refl}
use Rattle.ioc_journaled_set.proofs.Fresh.{none_fresh}
use Rattle.ioc_journaled_set.proofs.Nothing.{nothing_is_held, no_numbers}
use Rattle.ioc_journaled_set.proofs.Shares.{none_counted}
use Rattle.ioc_journaled_set.specs.SameDevice.{IsDeviceOf}
use Rattle.ioc_journaled_set.proofs.locked.JournaledSetLocked.empty.Goals as goal

pub invariant_of-result : goal.invariant_of-result
invariant_of-result g c = (nothing_is_held g.K.RecordKind.rules g.met.K.RecordKind.lawful.missing_targets g.B.JournalName.base (IsDeviceOf g.D.Device.gives g.B.SetsName.devices) g.B.CellName.table c.empty.result c.empty.ensures, none_counted c.empty.result c.empty.ensures, none_fresh g.K.RecordKind.rules g.B.JournalName.base c.empty.result.records [] refl)

pub returns : goal.returns
returns g c = no_numbers c.empty.result c.empty.ensures
