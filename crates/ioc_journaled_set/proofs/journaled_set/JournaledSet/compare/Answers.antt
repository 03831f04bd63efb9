use Rattle.std.proofs.Common.{◌≡◌, ℕ, Option, Some, None, sym, ◌∙◌, subst}
use Rattle.std.specs.Prelude.{IsSome}
use Rattle.std.specs.FinMap.{get}
use Rattle.crossbeam_utils.specs.Seq.{cell_view}
use Rattle.ioc_set.specs.SetState.{now_of}
use Rattle.ioc_set.specs.Linking.{MayBeOne}
use Rattle.ioc_journaled_set.specs.Holding.{HeldView, IsHeld}
use Rattle.ioc_journaled_set.specs.SameDevice.{IsDeviceOf}
use Rattle.ioc_journaled_set.proofs.Leading.{holds_known, sets_apart, sets_may_be_one}
use Rattle.ioc_journaled_set.proofs.Serving.{owner_on}
use Rattle.ioc_journal.specs.Account.{Pass}
use Rattle.ioc_journaled_set.proofs.journaled_set.JournaledSet.compare.Goals as goal

pub unreachable-requires : goal.unreachable-requires
unreachable-requires g c =
    let none : c.self.inside.pass ≡ None = sym c.take.ensures.value ∙ c.in_default.is in
    let held = subst (λ (o : Option Pass). IsHeld g.K.RecordKind.rules g.B.JournalName.base (IsDeviceOf g.D.Device.gives g.B.SetsName.devices) g.B.CellName.table o c.self.inside.set) none c.self.invariant.0 in
    let there = subst (λ (v : HeldView g.row.K.Denot g.row.D.Denot). (n : ℕ) × IsSome (get v.set.records n)) (sym c.self.view_is) c.requires.one in
    held.owner there.0 there.1

pub unreachable-requires-in_default-take : goal.unreachable-requires-in_default-take
unreachable-requires-in_default-take g c =
    let none : c.other.inside.pass ≡ None = sym c.take-2.ensures.value ∙ c.in_default-take.is in
    let held = subst (λ (o : Option Pass). IsHeld g.K.RecordKind.rules g.B.JournalName.base (IsDeviceOf g.D.Device.gives g.B.SetsName.devices) g.B.CellName.table o c.other.inside.set) none c.other.invariant.0 in
    let there = subst (λ (v : HeldView g.row.K.Denot g.row.D.Denot). (n : ℕ) × IsSome (get v.set.records n)) (sym c.other.view_is) c.requires.other in
    held.owner there.0 there.1

pub invariant_of-self : goal.invariant_of-self
invariant_of-self g c =
    let k = g.K.RecordKind.rules in
    let base = g.B.JournalName.base in
    let set = c.self.inside.set in
    let is : c.self.inside.pass ≡ Some c.in-Some.pass = sym c.take.ensures.value ∙ c.in-Some.is in
    let held = subst (λ (o : Option Pass). IsHeld k base (IsDeviceOf g.D.Device.gives g.B.SetsName.devices) g.B.CellName.table o set) is c.self.invariant.0 in
    let e = c.compare.ensures in
    let known = e.known.1 in (
      record {
        owner = owner_on g.B.CellName.table _ _ (cell_view c.in-Some.pass) (cell_view c.compare.new.one) e.known.0 (now_of set) (now_of set) held.owner e.table.0 known.one_knows (λ n has. has);
        holds = holds_known k c.holding_lasts.ensures base (now_of set) (cell_view c.in-Some.pass) (cell_view c.compare.new.one) e.known.0 held.owner.covers held.holds known.goes_on known.legal known.one_knows;
        devices = held.devices;
      },
      c.self.invariant.1,
      c.self.invariant.2,
    )

pub invariant_of-other : goal.invariant_of-other
invariant_of-other g c =
    let k = g.K.RecordKind.rules in
    let base = g.B.JournalName.base in
    let set = c.other.inside.set in
    let is : c.other.inside.pass ≡ Some c.in-Some-take.beside = sym c.take-2.ensures.value ∙ c.in-Some-take.is in
    let held = subst (λ (o : Option Pass). IsHeld k base (IsDeviceOf g.D.Device.gives g.B.SetsName.devices) g.B.CellName.table o set) is c.other.invariant.0 in
    let e = c.compare.ensures in
    let known = e.known.1 in (
      record {
        owner = owner_on g.B.CellName.table _ _ (cell_view c.in-Some-take.beside) (cell_view c.compare.new.other) e.known.0 (now_of set) (now_of set) held.owner e.table.1 known.other_knows (λ n has. has);
        holds = holds_known k c.holding_lasts.ensures base (now_of set) (cell_view c.in-Some-take.beside) (cell_view c.compare.new.other) e.known.0 held.owner.covers held.holds known.also_goes_on known.legal known.other_knows;
        devices = held.devices;
      },
      c.other.invariant.1,
      c.other.invariant.2,
    )

pub returns-clause-apart : goal.returns-clause-apart
returns-clause-apart g c =
    let k = g.K.RecordKind.rules in
    let base = g.B.JournalName.base in
    let one : c.self.inside.pass ≡ Some c.in-Some.pass = sym c.take.ensures.value ∙ c.in-Some.is in
    let two : c.other.inside.pass ≡ Some c.in-Some-take.beside = sym c.take-2.ensures.value ∙ c.in-Some-take.is in
    let held = subst (λ (o : Option Pass). IsHeld k base (IsDeviceOf g.D.Device.gives g.B.SetsName.devices) g.B.CellName.table o c.self.inside.set) one c.self.invariant.0 in
    let also = subst (λ (o : Option Pass). IsHeld k base (IsDeviceOf g.D.Device.gives g.B.SetsName.devices) g.B.CellName.table o c.other.inside.set) two c.other.invariant.0 in
    let here = sets_apart c.self.inside.set c.other.inside.set (cell_view c.in-Some.pass).owns (cell_view c.in-Some-take.beside).owns held.owner.covers also.owner.covers c.compare.ensures.apart in
    subst (λ (v : HeldView g.row.K.Denot g.row.D.Denot). (q : ℕ) → IsSome (get v.set.records q) → get c.args.other.now.set.records q ≡ None) c.self.view_is
    (subst (λ (v : HeldView g.row.K.Denot g.row.D.Denot). (q : ℕ) → IsSome (get c.self.inside.set.records q) → get v.set.records q ≡ None) c.other.view_is here)

pub returns-clause-one : goal.returns-clause-one
returns-clause-one g c =
    let k = g.K.RecordKind.rules in
    let base = g.B.JournalName.base in
    let one = c.self.inside.set in
    let two = c.other.inside.set in
    let held = subst (λ (o : Option Pass). IsHeld k base (IsDeviceOf g.D.Device.gives g.B.SetsName.devices) g.B.CellName.table o one) (sym c.take.ensures.value ∙ c.in-Some.is) c.self.invariant.0 in
    let also = subst (λ (o : Option Pass). IsHeld k base (IsDeviceOf g.D.Device.gives g.B.SetsName.devices) g.B.CellName.table o two) (sym c.take-2.ensures.value ∙ c.in-Some-take.is) c.other.invariant.0 in
    let e = c.compare.ensures in
    let may = sets_may_be_one k c.holding_lasts.ensures c.lists_leave_sound.ensures.after c.held_sets_may_be_one.ensures base one two c.is_sound.ensures c.is_sound-2.ensures
    (cell_view c.in-Some.pass) (cell_view c.in-Some-take.beside) (cell_view c.compare.new.one) (cell_view c.compare.new.other) e.known.0 e.known.1 held.owner.covers held.holds also.owner.covers also.holds e.apart in
    subst (λ (v : HeldView g.row.K.Denot g.row.D.Denot). MayBeOne v.set c.args.other.now.set) c.self.view_is
    (subst (λ (v : HeldView g.row.K.Denot g.row.D.Denot). MayBeOne one v.set) c.other.view_is may)
