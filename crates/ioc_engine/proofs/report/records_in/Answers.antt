use Rattle.std.proofs.Common.{List, [], ◌∷◌, ◌++◌, map, refl, sym, subst}
use Rattle.ioc_journaled_set.specs.SameDevice.{IsDeviceOf}
use Rattle.ioc_engine.specs.declared.report.StoppedRecord.{StoppedRecord}
use Rattle.ioc_engine.specs.Stopped.{stopped_of, GivesBack}
use Rattle.ioc_engine.proofs.GivingBack.{set_appended}
use Rattle.ioc_engine.proofs.report.records_in.Goals as goal

pub loop-set-preserved : goal.loop-set-preserved
loop-set-preserved g c =
    let slots = c.into_slots.result.items in
    let had = IsDeviceOf g.D.Device.gives g.B.SetsName.devices in
    subst (λ (l : List (StoppedRecord g.row.D.Denot)). GivesBack had (c.loop-set.yielded ++ c.in-Some.set ∷ []) l) (sym c.in_ok-add_records.ensures)
    (set_appended had c.loop-set.yielded c.loop-set.all.items (map stopped_of slots) c.in-Some.set c.loop-set.invariant
    (record { slots = slots; are = refl; ascending = c.into_slots.ensures.ascending; records = c.into_slots.ensures.records; devices = c.into_slots.ensures.devices; own = c.keeps_devices.ensures }))
