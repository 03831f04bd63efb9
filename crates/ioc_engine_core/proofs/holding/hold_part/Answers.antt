use Rattle.std.proofs.Common.{◌+◌, subst, sym}
use Rattle.crossbeam_utils.specs.Seq.{cell_view}
use Rattle.ioc_journal.specs.declared.cell.View.{View}
use Rattle.ioc_journaled_set.specs.SameDevice.{IsDeviceOf}
use Rattle.ioc_engine_core.specs.Loading.{AreOfPartsBelow}
use Rattle.ioc_engine_core.proofs.DealtParts.{set_is_calm, set_awaits_none, set_holds, set_keeps_devices, set_is_fresh, set_is_born}
use Rattle.ioc_engine_core.proofs.holding.hold_part.Goals as goal

pub hold-requires-clause-fresh : goal.hold-requires-clause-fresh
hold-requires-clause-fresh g c =
    let p = c.requires.part in
    set_is_fresh g.K.RecordKind.rules g.met.K.RecordKind.lawful.missing_targets g.B.JournalName.base (IsDeviceOf g.D.Device.gives g.B.SetsName.devices) c.args.parts.now p.all p.rest c.args.part c.args.members p.has (cell_view c.args.master.now).born c.requires.born

pub hold-requires-clause-calm : goal.hold-requires-clause-calm
hold-requires-clause-calm g c =
    let p = c.requires.part in
    set_is_calm g.K.RecordKind.rules g.met.K.RecordKind.lawful.missing_targets g.B.JournalName.base (IsDeviceOf g.D.Device.gives g.B.SetsName.devices) c.args.parts.now p.all p.rest c.args.part c.args.members p.has

pub hold-requires-clause-idle : goal.hold-requires-clause-idle
hold-requires-clause-idle g c =
    let p = c.requires.part in
    set_awaits_none g.K.RecordKind.rules g.met.K.RecordKind.lawful.missing_targets g.B.JournalName.base (IsDeviceOf g.D.Device.gives g.B.SetsName.devices) c.args.parts.now p.all p.rest c.args.part c.args.members p.has

pub hold-requires-clause-holds : goal.hold-requires-clause-holds
hold-requires-clause-holds g c =
    let p = c.requires.part in
    set_holds g.K.RecordKind.rules g.met.K.RecordKind.lawful.missing_targets g.B.JournalName.base (IsDeviceOf g.D.Device.gives g.B.SetsName.devices) c.args.parts.now p.all p.rest c.args.part c.args.members p.has p.one_part

pub hold-requires-clause-devices : goal.hold-requires-clause-devices
hold-requires-clause-devices g c =
    let p = c.requires.part in
    set_keeps_devices g.K.RecordKind.rules g.met.K.RecordKind.lawful.missing_targets g.B.JournalName.base (IsDeviceOf g.D.Device.gives g.B.SetsName.devices) c.args.parts.now p.all p.rest c.args.part c.args.members p.has

pub returns-clause-born : goal.returns-clause-born
returns-clause-born g c =
    let p = c.requires.part in
    subst (λ (v : View). AreOfPartsBelow c.args.parts.now (c.args.part + 1) v.born) (sym c.hold.ensures.master)
    (set_is_born g.K.RecordKind.rules g.met.K.RecordKind.lawful.missing_targets g.B.JournalName.base (IsDeviceOf g.D.Device.gives g.B.SetsName.devices) c.args.parts.now p.all p.rest c.args.part c.args.members p.has (cell_view c.args.master.now).born c.requires.born)
