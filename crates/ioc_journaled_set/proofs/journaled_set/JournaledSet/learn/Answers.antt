use Rattle.std.proofs.Common.{◌≡◌, ℕ, Option, Some, None, sym, ◌∙◌, subst}
use Rattle.std.specs.Prelude.{Contains}
use Rattle.crossbeam_utils.specs.Seq.{cell_view}
use Rattle.ioc_set.specs.SetState.{now_of}
use Rattle.ioc_journal.specs.Account.{Pass}
use Rattle.ioc_journaled_set.specs.Holding.{HeldView, IsHeld, numbers_of}
use Rattle.ioc_journaled_set.specs.SameDevice.{IsDeviceOf}
use Rattle.ioc_journaled_set.proofs.Keys.{key_there}
use Rattle.ioc_journaled_set.proofs.Leading.{holds_known}
use Rattle.ioc_journaled_set.proofs.Serving.{owner_on}
use Rattle.ioc_journaled_set.proofs.journaled_set.JournaledSet.learn.Goals as goal

pub unreachable-requires : goal.unreachable-requires
unreachable-requires g c =
    let none : c.self.inside.pass ≡ None = sym c.take.ensures.value ∙ c.in_default.is in
    let held = subst (λ (o : Option Pass). IsHeld g.K.RecordKind.rules g.B.JournalName.base (IsDeviceOf g.D.Device.gives g.B.SetsName.devices) g.B.CellName.table o c.self.inside.set) none c.self.invariant.0 in
    let there = subst (λ (v : HeldView g.row.K.Denot g.row.D.Denot). (n : ℕ) × Contains (numbers_of v) n) (sym c.self.view_is) c.requires.some in
    held.owner there.0 (key_there c.self.inside.set.records there.0 there.1)

pub invariant_of-self : goal.invariant_of-self
invariant_of-self g c =
    let k = g.K.RecordKind.rules in
    let base = g.B.JournalName.base in
    let set = c.self.inside.set in
    let is : c.self.inside.pass ≡ Some c.in-Some.pass = sym c.take.ensures.value ∙ c.in-Some.is in
    let held = subst (λ (o : Option Pass). IsHeld k base (IsDeviceOf g.D.Device.gives g.B.SetsName.devices) g.B.CellName.table o set) is c.self.invariant.0 in
    let e = c.tell_both.ensures in (
      record {
        owner = owner_on g.B.CellName.table _ _ (cell_view c.in-Some.pass) (cell_view c.tell_both.new.set) _ (now_of set) (now_of set) held.owner e.set.0 e.set.1 (λ n has. has);
        holds = holds_known k c.holding_lasts.ensures base (now_of set) (cell_view c.in-Some.pass) (cell_view c.tell_both.new.set) _ held.owner.covers held.holds e.goes_on e.account.legal e.set.1;
        devices = held.devices;
      },
      c.self.invariant.1,
      c.self.invariant.2,
    )

pub tell_both-requires : goal.tell_both-requires
tell_both-requires g c =
    let is : c.self.inside.pass ≡ Some c.in-Some.pass = sym c.take.ensures.value ∙ c.in-Some.is in
    let held = subst (λ (o : Option Pass). IsHeld g.K.RecordKind.rules g.B.JournalName.base (IsDeviceOf g.D.Device.gives g.B.SetsName.devices) g.B.CellName.table o c.self.inside.set) is c.self.invariant.0 in
    record { table = held.owner.same; set = held.owner.holder }
