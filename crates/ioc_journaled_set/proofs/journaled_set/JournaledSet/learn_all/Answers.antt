use Rattle.std.proofs.Common.{◌≡◌, Option, Some, None, refl, sym, ◌∙◌, subst}
use Rattle.crossbeam_utils.specs.Seq.{cell_view}
use Rattle.ioc_journal.specs.Line.{holder}
use Rattle.ioc_set.specs.SetState.{now_of}
use Rattle.ioc_journaled_set.specs.Holding.{IsHeld}
use Rattle.ioc_journaled_set.specs.SameDevice.{IsDeviceOf}
use Rattle.ioc_journaled_set.proofs.Leading.{holds_known}
use Rattle.ioc_journaled_set.proofs.Serving.{owner_on}
use Rattle.ioc_journal.specs.Account.{Pass}
use Rattle.ioc_journal.specs.Covering.{Holds}
use Rattle.ioc_journal.specs.Legal.{map_of}
use Rattle.ioc_journaled_set.proofs.journaled_set.JournaledSet.learn_all.Given.{Over}
use Rattle.ioc_journaled_set.proofs.journaled_set.JournaledSet.learn_all.Goals.{After-tell_all}
use Rattle.ioc_journaled_set.proofs.journaled_set.JournaledSet.learn_all.Goals as goal

-- The set's pass, and the world of all calls.
module _ (g : Over) (c : After-tell_all g) where
  held : IsHeld g.K.RecordKind.rules g.B.JournalName.base (IsDeviceOf g.D.Device.gives g.B.SetsName.devices) g.B.CellName.table (Some c.in-Some.pass) c.self.inside.set
  held = subst (λ (o : Option Pass). IsHeld g.K.RecordKind.rules g.B.JournalName.base (IsDeviceOf g.D.Device.gives g.B.SetsName.devices) g.B.CellName.table o c.self.inside.set) (sym c.take.ensures.value ∙ c.in-Some.is) c.self.invariant.0

  holds : Holds g.K.RecordKind.rules (map_of g.K.RecordKind.rules g.B.JournalName.base c.args.journal.now.filled) (now_of c.self.inside.set)
  holds =
      let pass = cell_view c.in-Some.pass in
      let log = c.args.journal.now.filled in
      holds_known g.K.RecordKind.rules c.holding_lasts.ensures g.B.JournalName.base (now_of c.self.inside.set) pass (holder log pass.owns) log held.owner.covers held.holds c.tell_all.ensures.goes_on c.tell_all.ensures.legal.1 refl

pub invariant_of-self-2 : goal.invariant_of-self-2
invariant_of-self-2 g c =
    let at = (goal.at.invariant_of-self-2 g c).After-tell_all in
    let k = g.K.RecordKind.rules in
    let set = c.self.inside.set in
    let held = held g at in
    let e = c.tell_all.ensures in (
      record {
        owner = owner_on g.B.CellName.table _ _ (cell_view c.in-Some.pass) (cell_view c.tell_all.new.set) c.args.journal.now.filled (now_of set) (now_of set) held.owner e.set.0 e.set.1 (λ n has. has);
        holds = holds_known k c.holding_lasts.ensures g.B.JournalName.base (now_of set) (cell_view c.in-Some.pass) (cell_view c.tell_all.new.set) c.args.journal.now.filled held.owner.covers held.holds e.goes_on e.legal.1 e.set.1;
        devices = held.devices;
      },
      c.self.invariant.1,
      c.self.invariant.2,
    )

pub invariant_of-self : goal.invariant_of-self
invariant_of-self g c =
    let none : c.self.inside.pass ≡ None = sym c.take.ensures.value ∙ c.in_default.is in
    (subst (λ (o : Option Pass). IsHeld g.K.RecordKind.rules g.B.JournalName.base (IsDeviceOf g.D.Device.gives g.B.SetsName.devices) g.B.CellName.table o c.self.inside.set) (none ∙ sym c.take.ensures.after) c.self.invariant.0, c.self.invariant.1, c.self.invariant.2)

pub returns-clause-told : goal.returns-clause-told
returns-clause-told g c n some = (holds g (goal.at.returns-clause-told g c).After-tell_all).records n some

pub returns-clause-waiting : goal.returns-clause-waiting
returns-clause-waiting g c n some = (holds g (goal.at.returns-clause-waiting g c).After-tell_all).waiting n some
