use Rattle.std.proofs.Common.{◌≡◌, ◌+◌, ◌-◌, ◌^◌, [], length}
use Rattle.crossbeam_utils.specs.Seq.{cell_view}
use Rattle.ioc_journal.specs.Line.{keeper}
use Rattle.ioc_journaled_set.specs.SameDevice.{IsDeviceOf}
use Rattle.ioc_ledger.specs.Requests.{no_counts}
use Rattle.ioc_engine_core.proofs.PartSizes.{left-from}
use Rattle.ioc_engine_core.specs.Loading.{AreSetsFrom, AreOfPartsBelow}
use Rattle.ioc_engine_core.proofs.holding.hold_all.Given as goal

-- The keys of the lower parts are created, and the sets from here on are as before.
abbrev pub invariant-loop-part : goal.invariant-loop-part
invariant-loop-part g l = record {
  count : l.directory ≡ length l.parts;
  table : l.master.table_id ≡ g.B.CellName.table;
  master : cell_view l.master ≡ keeper [] (cell_view l.master).born;
  spare : (l.spare.parts + length l.parts ≡ (2 ^ 64 - 1) + left-from l.part l.parts) × (l.spare.counts ≡ no_counts);
  born : AreOfPartsBelow l.parts l.part (cell_view l.master).born;
  left : AreSetsFrom g.K.RecordKind.rules g.B.JournalName.base (IsDeviceOf g.D.Device.gives g.B.SetsName.devices) l.parts l.part l.sets;
}
