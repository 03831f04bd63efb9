use Rattle.std.proofs.Common.{◌≡◌, Option, Some, None, sym, subst, ◌∙◌}
use Rattle.std.specs.Prelude.{Contains}
use Rattle.crossbeam_utils.specs.Seq.{cell_view}
use Rattle.ioc_journal.specs.declared.cell.View.{View}
use Rattle.ioc_journal.specs.Account.{Pass}
use Rattle.ioc_watched.specs.Watched.{AreFresh, watched_by}
use Rattle.ioc_journaled_set.specs.Holding.{HeldView, IsHeld, numbers_of}
use Rattle.ioc_journaled_set.specs.SameDevice.{IsDeviceOf}
use Rattle.ioc_journaled_set.proofs.Keys.{key_there}
use Rattle.ioc_journaled_set.proofs.Fresh.{newly_watched_fresh, held_again}
use Rattle.ioc_journaled_set.proofs.journaled_set.JournaledSet.watch.Goals as goal

pub unreachable-requires : goal.unreachable-requires
unreachable-requires g c =
    let none : c.self.inside.pass ≡ None = sym c.take.ensures.value ∙ c.in_default.is in
    let held = subst (λ (o : Option Pass). IsHeld g.K.RecordKind.rules g.B.JournalName.base (IsDeviceOf g.D.Device.gives g.B.SetsName.devices) g.B.CellName.table o c.self.inside.set) none c.self.invariant.0 in
    held.owner c.args.number (key_there c.self.inside.set.records c.args.number (subst (λ (v : HeldView g.row.K.Denot g.row.D.Denot). Contains (numbers_of v) c.args.number) (sym c.self.view_is) c.requires.there))

pub copy-told-requires : goal.copy-told-requires
copy-told-requires g c =
    let is : c.self.inside.pass ≡ Some c.in-Some.pass = sym c.take.ensures.value ∙ c.in-Some.is in
    let held = subst (λ (o : Option Pass). IsHeld g.K.RecordKind.rules g.B.JournalName.base (IsDeviceOf g.D.Device.gives g.B.SetsName.devices) g.B.CellName.table o c.self.inside.set) is c.self.invariant.0 in
    held.owner.same ∙ sym c.requires.table

pub invariant_of-self : goal.invariant_of-self
invariant_of-self g c =
    let k = g.K.RecordKind.rules in
    let base = g.B.JournalName.base in
    let is : c.self.inside.pass ≡ Some c.in-Some.pass = sym c.take.ensures.value ∙ c.in-Some.is in
    let held = subst (λ (o : Option Pass). IsHeld g.K.RecordKind.rules g.B.JournalName.base (IsDeviceOf g.D.Device.gives g.B.SetsName.devices) g.B.CellName.table o c.self.inside.set) is c.self.invariant.0 in (
      held_again k base (IsDeviceOf g.D.Device.gives g.B.SetsName.devices) g.B.CellName.table c.self.inside.set c.in-Some.pass c.copy-told.new.pass held c.copy-told.ensures.kept.0 c.copy-told.ensures.kept.1,
      c.self.invariant.1,
      subst (λ o. AreFresh k base c.self.inside.set.records (watched_by o)) (sym c.in_err-add_to.ensures.err) c.self.invariant.2,
    )

pub invariant_of-self-2 : goal.invariant_of-self-2
invariant_of-self-2 g c =
    let k = g.K.RecordKind.rules in
    let base = g.B.JournalName.base in
    let is : c.self.inside.pass ≡ Some c.in-Some.pass = sym c.take.ensures.value ∙ c.in-Some.is in
    let held = subst (λ (o : Option Pass). IsHeld g.K.RecordKind.rules g.B.JournalName.base (IsDeviceOf g.D.Device.gives g.B.SetsName.devices) g.B.CellName.table o c.self.inside.set) is c.self.invariant.0 in (
      held_again k base (IsDeviceOf g.D.Device.gives g.B.SetsName.devices) g.B.CellName.table c.self.inside.set c.in-Some.pass c.copy-told.new.pass held c.copy-told.ensures.kept.0 c.copy-told.ensures.kept.1,
      c.self.invariant.1,
      subst (λ ws. AreFresh k base c.self.inside.set.records ws) (sym c.in_ok-add_to.ensures.ok) (newly_watched_fresh k base c.self.inside.set.records (watched_by c.self.inside.watched) c.args.number (cell_view {V = View} c.copy-told.result).seen c.self.invariant.2 (key_there c.self.inside.set.records c.args.number (subst (λ (v : HeldView g.row.K.Denot g.row.D.Denot). Contains (numbers_of v) c.args.number) (sym c.self.view_is) c.requires.there))),
    )
