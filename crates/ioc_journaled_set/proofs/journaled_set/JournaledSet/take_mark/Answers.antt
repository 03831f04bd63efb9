use Rattle.std.proofs.Common.{◌≡◌, Option, Some, None, ap, sym, subst, ◌∙◌}
use Rattle.std.specs.Prelude.{Contains, unwrap_or}
use Rattle.crossbeam_utils.specs.Seq.{cell_view}
use Rattle.ioc_journal.specs.declared.cell.View.{View}
use Rattle.ioc_journal.specs.Account.{Pass}
use Rattle.ioc_watched.specs.Watched.{AreFresh, watched_by}
use Rattle.ioc_journaled_set.specs.Holding.{HeldView, IsHeld, numbers_of}
use Rattle.ioc_journaled_set.specs.SameDevice.{IsDeviceOf}
use Rattle.ioc_journaled_set.proofs.Keys.{key_there}
use Rattle.ioc_journaled_set.proofs.Fresh.{told_fresh, held_again}
use Rattle.ioc_journaled_set.proofs.journaled_set.JournaledSet.take_mark.Goals as goal

pub unreachable-requires : goal.unreachable-requires
unreachable-requires g c =
    let none : c.self.inside.pass ≡ None = sym c.take.ensures.value ∙ c.in_default.is in
    let held = subst (λ (o : Option Pass). IsHeld g.K.RecordKind.rules g.B.JournalName.base (IsDeviceOf g.D.Device.gives g.B.SetsName.devices) g.B.CellName.table o c.self.inside.set) none c.self.invariant.0 in
    held.owner c.args.number (key_there c.self.inside.set.records c.args.number (subst (λ (v : HeldView g.row.K.Denot g.row.D.Denot). Contains (numbers_of v) c.args.number) (sym c.self.view_is) c.requires.there))

pub tell_in-requires : goal.tell_in-requires
tell_in-requires g c =
    let is : c.self.inside.pass ≡ Some c.in-Some.pass = sym c.take.ensures.value ∙ c.in-Some.is in
    let held = subst (λ (o : Option Pass). IsHeld g.K.RecordKind.rules g.B.JournalName.base (IsDeviceOf g.D.Device.gives g.B.SetsName.devices) g.B.CellName.table o c.self.inside.set) is c.self.invariant.0 in
    record { table = held.owner.same ∙ sym c.requires.table }

pub invariant_of-self : goal.invariant_of-self
invariant_of-self g c =
    let k = g.K.RecordKind.rules in
    let base = g.B.JournalName.base in
    let is : c.self.inside.pass ≡ Some c.in-Some.pass = sym c.take.ensures.value ∙ c.in-Some.is in
    let held = subst (λ (o : Option Pass). IsHeld g.K.RecordKind.rules g.B.JournalName.base (IsDeviceOf g.D.Device.gives g.B.SetsName.devices) g.B.CellName.table o c.self.inside.set) is c.self.invariant.0 in
    let there = key_there c.self.inside.set.records c.args.number (subst (λ (v : HeldView g.row.K.Denot g.row.D.Denot). Contains (numbers_of v) c.args.number) (sym c.self.view_is) c.requires.there) in
    let told = c.tell_in.ensures.told in (
      held_again k base (IsDeviceOf g.D.Device.gives g.B.SetsName.devices) g.B.CellName.table c.self.inside.set c.in-Some.pass c.tell_in.new.pass held c.tell_in.ensures.pass.0 c.tell_in.ensures.pass.1,
      c.self.invariant.1,
      subst (λ ws. AreFresh k base c.self.inside.set.records ws) (sym told)
          (told_fresh k base c.self.inside.set.records (watched_by c.self.inside.watched) c.args.number (cell_view {V = View} c.in-Some.pass).seen c.self.invariant.2 (ap (λ o. unwrap_or o k.missing) (held.holds.records c.args.number there))),
    )
