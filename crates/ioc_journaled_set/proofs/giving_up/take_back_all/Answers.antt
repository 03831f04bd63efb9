use Rattle.std.proofs.Common.{◌≡◌, ◌≢◌, ℕ, ◌<◌, Option, sym, ap, ◌∙◌, subst, length, get_or, get_or-set_other, get_or-set_same, below_more, arith, rules}
use Rattle.std.proofs.lemmas.List.{get_or_default}
use Rattle.std.specs.Prelude.{slice_set}
use Rattle.crossbeam_utils.specs.Seq.{cell_view}
use Rattle.ioc_ledger.specs.Shared.{ShareView}
use Rattle.ioc_set.specs.SetState.{SetState}
use Rattle.ioc_journaled_set.specs.Holding.{HeldView, held_view, seen_by, IsCounted}
use Rattle.ioc_journaled_set.specs.SameDevice.{IsDeviceOf}
use Rattle.ioc_journaled_set.proofs.GivingUp.{owns_at, has_devices, never_empty}
use Rattle.ioc_journal.specs.Account.{Pass}
use Rattle.ioc_journaled_set.specs.Holding.{IsLent}
use Rattle.ioc_journaled_set.proofs.giving_up.take_back_all.Given.{Over}
use Rattle.ioc_journaled_set.proofs.giving_up.take_back_all.Goals.{After-take}
use Rattle.ioc_journaled_set.proofs.giving_up.take_back_all.Goals as goal

-- The set and the pass at this place were separated from each other.
module _ (g : Over) (c : After-take g) where
  within : c.loop-i.i < length c.args.sets.now
  within = search rules

  set_is : c.replace-set.result ≡ get_or c.args.sets.now c.loop-i.i c.index-sets-i.result
  set_is = c.replace-set.ensures.value ∙ c.loop-i.invariant.sets c.loop-i.i c.index-sets-i.result (omega arith)

  slot_is : get_or c.args.passes.now c.loop-i.i c.index-passes-i.result ≡ c.take.result
  slot_is = sym (c.loop-i.invariant.passes c.loop-i.i c.index-passes-i.result (omega arith)) ∙ sym c.take.ensures.value

  lent : IsLent g.K.RecordKind.rules g.B.JournalName.base (IsDeviceOf g.D.Device.gives g.B.SetsName.devices) g.B.CellName.table (get_or c.args.sets.now c.loop-i.i c.index-sets-i.result) (get_or c.args.passes.now c.loop-i.i c.index-passes-i.result)
  lent = c.requires.lent c.loop-i.i c.index-sets-i.result c.index-passes-i.result within

pub unreachable-requires : goal.unreachable-requires
unreachable-requires g c =
    let at = (goal.at.unreachable-requires g c).After-take in
    never_empty g.K.RecordKind.rules g.B.JournalName.base (IsDeviceOf g.D.Device.gives g.B.SetsName.devices) g.B.CellName.table _ _ (lent g at) (slot_is g at ∙ c.in_default.is)

pub new-requires-clause-owner : goal.new-requires-clause-owner
new-requires-clause-owner g c =
    let at = (goal.at.new-requires-clause-owner g c).After-take in
    (owns_at g.K.RecordKind.rules g.B.JournalName.base (IsDeviceOf g.D.Device.gives g.B.SetsName.devices) g.B.CellName.table _ c.replace-set.result _ c.in-Some.own (lent g at) (slot_is g at ∙ c.in-Some.is) (set_is g at)).0

pub new-requires-clause-holds : goal.new-requires-clause-holds
new-requires-clause-holds g c =
    let at = (goal.at.new-requires-clause-holds g c).After-take in
    (owns_at g.K.RecordKind.rules g.B.JournalName.base (IsDeviceOf g.D.Device.gives g.B.SetsName.devices) g.B.CellName.table _ c.replace-set.result _ c.in-Some.own (lent g at) (slot_is g at ∙ c.in-Some.is) (set_is g at)).1

pub new-requires-clause-devices : goal.new-requires-clause-devices
new-requires-clause-devices g c =
    let at = (goal.at.new-requires-clause-devices g c).After-take in
    has_devices g.K.RecordKind.rules g.B.JournalName.base (IsDeviceOf g.D.Device.gives g.B.SetsName.devices) g.B.CellName.table _ c.replace-set.result _ (lent g at) (set_is g at)

pub new-requires-clause-counted : goal.new-requires-clause-counted
new-requires-clause-counted g c =
    let at = (goal.at.new-requires-clause-counted g c).After-take in
    let share = c.index-shares-i.result in
    let share_is = c.take-in-loop-i.ensures.value ∙ c.loop-i.invariant.shares c.loop-i.i share (omega arith) in
    subst (λ (o : Option ShareView). IsCounted o c.replace-set.result) (sym share_is)
    (subst (λ (h : SetState g.row.K.Denot g.row.D.Denot). IsCounted (get_or c.args.shares.now c.loop-i.i share) h) (sym (set_is g at)) (c.requires.counted c.loop-i.i c.index-sets-i.result share (within g at)))

pub loop-i-preserved : goal.loop-i-preserved
loop-i-preserved g c =
    let i = c.loop-i.i in
    let inv = c.loop-i.invariant in
    let set = c.index-sets-i.result in
    let slot = c.index-passes-i.result in
    let sets = c.args.sets.now in
    let passes = c.args.passes.now in
    let at = (goal.at.loop-i-preserved g c).After-take in
    let beside : i < length passes = search rules in
    let inside : i < length c.loop-i.held = search rules in
    let P : ℕ → Type 0 = λ j. (d : HeldView g.row.K.Denot g.row.D.Denot) (e : SetState g.row.K.Denot g.row.D.Denot) (f : Option Pass)
    → get_or (slice_set c.loop-i.held i c.new.result) j d ≡ held_view (get_or sets j e) (seen_by (get_or passes j f)) in
    record {
      done = λ j d e f lt. below_more P i
          (λ j below d e f. let apart : j ≢ i = omega arith in get_or-set_other c.loop-i.held i j c.new.result d apart ∙ inv.done j d e f below)
          (λ d e f. get_or-set_same c.loop-i.held i c.new.result d inside ∙ c.new.ensures
          ∙ ap (λ (h : SetState g.row.K.Denot g.row.D.Denot). held_view h (cell_view c.in-Some.own).seen) (set_is g at ∙ get_or_default sets i set e (within g at))
          ∙ ap (λ (s : Option Pass). held_view (get_or sets i e) (seen_by s)) (sym (slot_is g at ∙ c.in-Some.is) ∙ get_or_default passes i slot f beside))
          j lt d e f;
      sets = λ j e le. let apart : j ≢ i = omega arith in get_or-set_other c.loop-i.sets i j c.replace-set.new.dest e apart ∙ inv.sets j e (omega arith);
      shares = λ j f le. let apart : j ≢ i = omega arith in get_or-set_other c.loop-i.shares i j c.take-in-loop-i.new.self f apart ∙ inv.shares j f (omega arith);
      passes = λ j f le. let apart : j ≢ i = omega arith in get_or-set_other c.loop-i.passes i j c.take.new.self f apart ∙ inv.passes j f (omega arith);
    }
