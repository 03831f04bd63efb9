use Rattle.std.proofs.Common.{◌≡◌, Option, Some, None, sym, subst, ◌∙◌}
use Rattle.ioc_journal.specs.Account.{Pass}
use Rattle.ioc_journaled_set.specs.Holding.{IsHeld}
use Rattle.ioc_journaled_set.specs.SameDevice.{IsDeviceOf}
use Rattle.ioc_journaled_set.proofs.Keys.{key_there}
use Rattle.ioc_journaled_set.proofs.Fresh.{held_again}
use Rattle.ioc_journaled_set.proofs.journaled_set.JournaledSet.watch_those.Goals as goal

pub returns-in_default-clause-watched : goal.returns-in_default-clause-watched
returns-in_default-clause-watched g c n there named =
    let none : c.self.inside.pass ≡ None = sym c.take.ensures.value ∙ c.in_default.is in
    let held = subst (λ (o : Option Pass). IsHeld g.K.RecordKind.rules g.B.JournalName.base (IsDeviceOf g.D.Device.gives g.B.SetsName.devices) g.B.CellName.table o c.self.inside.set) none c.self.invariant.0 in
    absurd (held.owner n (key_there c.self.inside.set.records n there))

pub invariant_of-self-2 : goal.invariant_of-self-2
invariant_of-self-2 g c =
    let k = g.K.RecordKind.rules in
    let base = g.B.JournalName.base in
    let is : c.self.inside.pass ≡ Some c.in-Some.pass = sym c.take.ensures.value ∙ c.in-Some.is in
    let held = subst (λ (o : Option Pass). IsHeld g.K.RecordKind.rules g.B.JournalName.base (IsDeviceOf g.D.Device.gives g.B.SetsName.devices) g.B.CellName.table o c.self.inside.set) is c.self.invariant.0 in (
      held_again k base (IsDeviceOf g.D.Device.gives g.B.SetsName.devices) g.B.CellName.table c.self.inside.set c.in-Some.pass c.fill.new.pass held c.fill.ensures.pass.0 c.fill.ensures.pass.1,
      c.self.invariant.1,
      c.fill.ensures.fresh k base,
    )

pub returns-clause-watched : goal.returns-clause-watched
returns-clause-watched g c n there named = c.fill.ensures.all n named (key_there c.self.inside.set.records n there)
