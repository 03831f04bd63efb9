use Rattle.std.proofs.Common.{◌≡◌, List, Option, length, sym, ap, subst, ◌∙◌}
use Rattle.std.specs.Prelude.{IfOk, IfNone, OnErr}
use Rattle.std.specs.Option.{IfSome}
use Rattle.crossbeam_utils.specs.Seq.{cell_view}
use Rattle.ioc_ledger.specs.Shared.{ShareView}
use Rattle.ioc_journal.specs.Account.{Pass}
use Rattle.ioc_set.specs.SetState.{SetState}
use Rattle.ioc_journaled_set.specs.Sets.{AreItsSets}
use Rattle.ioc_journaled_set.specs.SameDevice.{IsDeviceOf}
use Rattle.ioc_journaled_set.specs.GivingUp.{EachIsLent, EachIsCounted, HeldGaveUp, AreSameSets}
use Rattle.ioc_journaled_set.proofs.GivingUp.{held_by, lent_then, still_counted, gave_all, missing_all, refused_all}
use Rattle.ioc_journaled_set.proofs.giving_up.give_up_lent.Given.{Over}
use Rattle.ioc_journaled_set.proofs.giving_up.give_up_lent.Goals.{After-as_mut_slice-passes}
use Rattle.ioc_journaled_set.proofs.giving_up.give_up_lent.Goals as goal

-- The sets and the passes as slices.
module _ (g : Over) (c : After-as_mut_slice-passes g) where
  lent : EachIsLent g.K.RecordKind.rules g.B.JournalName.base (IsDeviceOf g.D.Device.gives g.B.SetsName.devices) g.B.CellName.table c.as_mut_slice-sets.result.now c.as_mut_slice-passes.result.now
  lent =
      let has = IsDeviceOf g.D.Device.gives g.B.SetsName.devices in
      subst (λ (ss : List (SetState g.row.K.Denot g.row.D.Denot)). EachIsLent g.K.RecordKind.rules g.B.JournalName.base has g.B.CellName.table ss c.as_mut_slice-passes.result.now) (sym c.as_mut_slice-sets.ensures.value)
      (subst (λ (ps : List (Option Pass)). EachIsLent g.K.RecordKind.rules g.B.JournalName.base has g.B.CellName.table c.args.lent.sets.items ps) (sym c.as_mut_slice-passes.ensures.value) c.requires.lent)

pub give_up_all-given-requires-clause-held : goal.give_up_all-given-requires-clause-held
give_up_all-given-requires-clause-held g c =
    held_by g.K.RecordKind.rules g.B.JournalName.base (IsDeviceOf g.D.Device.gives g.B.SetsName.devices) g.B.CellName.table c.as_mut_slice-sets.result.now c.as_mut_slice-passes.result.now (lent g (goal.at.give_up_all-given-requires-clause-held g c).After-as_mut_slice-passes)

pub take_back_all-requires-clause-lent : goal.take_back_all-requires-clause-lent
take_back_all-requires-clause-lent g c =
    let e = c.give_up_all-given.ensures in
    let lent = lent g (goal.at.take_back_all-requires-clause-lent g c).After-as_mut_slice-passes in
    lent_then g.K.RecordKind.rules g.B.JournalName.base (IsDeviceOf g.D.Device.gives g.B.SetsName.devices) g.B.CellName.table c.args.access.now.history (c.give_up_all-given.new.keeper ≡ c.args.keeper.now) (c.give_up_all-given.new.desk ≡ c.args.desk.now) (AreItsSets c.args.put.number c.args.put.holders c.as_mut_slice-sets.result.now → ⊥) c.give_up_all-given.result c.args.moment c.args.put.number c.args.desk.now c.give_up_all-given.new.desk c.as_mut_slice-sets.result.now c.give_up_all-given.new.sets c.as_mut_slice-passes.result.now c.give_up_all-given.new.passes
    (cell_view c.args.keeper.now) (cell_view c.give_up_all-given.new.keeper) e.gave_up e.missing e.err c.give_up_all-given.auto.sets lent

pub take_back_all-requires-clause-counted : goal.take_back_all-requires-clause-counted
take_back_all-requires-clause-counted g c =
    let e = c.give_up_all-given.ensures in
    let counted =
    subst (λ (ss : List (SetState g.row.K.Denot g.row.D.Denot)). EachIsCounted ss c.as_mut_slice.result.now) (sym c.as_mut_slice-sets.ensures.value)
    (subst (λ (hs : List (Option ShareView)). EachIsCounted c.args.lent.sets.items hs) (sym c.as_mut_slice.ensures.value) c.requires.counted) in
    still_counted g.K.RecordKind.rules c.args.moment c.args.put.number c.as_mut_slice-sets.result.now c.give_up_all-given.new.sets c.as_mut_slice.result.now c.give_up_all-given.auto.sets counted c.args.access.now.history
    g.B.JournalName.base g.B.CellName.table (c.give_up_all-given.new.keeper ≡ c.args.keeper.now) (c.give_up_all-given.new.desk ≡ c.args.desk.now) (AreItsSets c.args.put.number c.args.put.holders c.as_mut_slice-sets.result.now → ⊥) c.give_up_all-given.result
    c.args.desk.now c.give_up_all-given.new.desk c.as_mut_slice-passes.result.now c.give_up_all-given.new.passes (cell_view c.args.keeper.now) (cell_view c.give_up_all-given.new.keeper) e.gave_up e.missing e.err

pub returns-clause-gave_up : goal.returns-clause-gave_up
returns-clause-gave_up g c =
    let sets = c.as_mut_slice-sets.ensures.value in
    let many = c.take_back_all.auto.held ∙ sym c.requires.count.0 in
    subst
    (λ (ss : List (SetState g.row.K.Denot g.row.D.Denot)). IfOk c.give_up_all-given.result (λ given. IfSome given (λ _. HeldGaveUp g.K.RecordKind.rules g.B.JournalName.base c.args.access.now.history c.args.moment c.args.put.number c.args.desk.now ss (cell_view c.args.keeper.now) c.give_up_all-given.new.desk c.take_back_all.new.held (cell_view c.give_up_all-given.new.keeper))))
    sets
    (gave_all g.K.RecordKind.rules g.B.JournalName.base (IsDeviceOf g.D.Device.gives g.B.SetsName.devices) g.B.CellName.table c.args.access.now.history c.args.moment c.args.put.number c.args.desk.now c.give_up_all-given.new.desk c.as_mut_slice-sets.result.now c.take_back_all.new.held c.give_up_all-given.new.sets c.give_up_all-given.new.passes
    (cell_view c.args.keeper.now) (cell_view c.give_up_all-given.new.keeper) c.take_back_all.ensures (many ∙ sym (ap length sets)) c.give_up_all-given.auto.sets c.give_up_all-given.result c.give_up_all-given.ensures.gave_up)

pub returns-clause-missing : goal.returns-clause-missing
returns-clause-missing g c =
    let sets = c.as_mut_slice-sets.ensures.value in
    let many = c.take_back_all.auto.held ∙ sym c.requires.count.0 in
    subst
    (λ (ss : List (SetState g.row.K.Denot g.row.D.Denot)). IfOk c.give_up_all-given.result (λ given. IfNone given (AreSameSets ss c.take_back_all.new.held × (c.give_up_all-given.new.keeper ≡ c.args.keeper.now) × (c.give_up_all-given.new.desk ≡ c.args.desk.now) × (AreItsSets c.args.put.number c.args.put.holders ss → ⊥))))
    sets
    (missing_all g.K.RecordKind.rules g.B.JournalName.base (IsDeviceOf g.D.Device.gives g.B.SetsName.devices) g.B.CellName.table (c.give_up_all-given.new.keeper ≡ c.args.keeper.now) (c.give_up_all-given.new.desk ≡ c.args.desk.now) (AreItsSets c.args.put.number c.args.put.holders c.as_mut_slice-sets.result.now → ⊥) c.give_up_all-given.result c.as_mut_slice-sets.result.now c.take_back_all.new.held c.give_up_all-given.new.sets c.as_mut_slice-passes.result.now c.give_up_all-given.new.passes
    c.take_back_all.ensures (many ∙ sym (ap length sets)) c.give_up_all-given.ensures.missing)

pub returns-clause-err : goal.returns-clause-err
returns-clause-err g c =
    let sets = c.as_mut_slice-sets.ensures.value in
    let many = c.take_back_all.auto.held ∙ sym c.requires.count.0 in
    subst
    (λ (ss : List (SetState g.row.K.Denot g.row.D.Denot)). OnErr c.give_up_all-given.result (AreSameSets ss c.take_back_all.new.held × (c.give_up_all-given.new.keeper ≡ c.args.keeper.now) × (c.give_up_all-given.new.desk ≡ c.args.desk.now)))
    sets
    (refused_all g.K.RecordKind.rules g.B.JournalName.base (IsDeviceOf g.D.Device.gives g.B.SetsName.devices) g.B.CellName.table (c.give_up_all-given.new.keeper ≡ c.args.keeper.now) (c.give_up_all-given.new.desk ≡ c.args.desk.now) c.give_up_all-given.result c.as_mut_slice-sets.result.now c.take_back_all.new.held c.give_up_all-given.new.sets c.as_mut_slice-passes.result.now c.give_up_all-given.new.passes
    c.take_back_all.ensures (many ∙ sym (ap length sets)) c.give_up_all-given.ensures.err)
