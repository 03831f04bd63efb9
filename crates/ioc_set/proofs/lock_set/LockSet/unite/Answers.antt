use Rattle.std.proofs.Common.{◌≡◌, ◌∙◌, List, refl, ap, subst, sym}
use Rattle.std.specs.Prelude.{IsSome, is_some, Contains}
use Rattle.std.specs.FinMap.{get}
use Rattle.ioc_ledger.specs.Requests.{no_counts}
use Rattle.ioc_ledger.specs.declared.tally.Tally.{Tally}
use Rattle.ioc_notify.specs.declared.waiting_lists.Waiting.{Waiting}
use Rattle.ioc_set_records.specs.Contents.{Records}
use Rattle.ioc_set.specs.SetState.{SetState}
use Rattle.ioc_set.specs.Sound.{CountsAddUp}
use Rattle.ioc_set.specs.Doing.{held_by}
use Rattle.ioc_set.specs.Awaiting.{awaited}
use Rattle.ioc_set.proofs.EmptyHistory.{were_none}
use Rattle.ioc_set.proofs.Cleared.{HistoryIsCleared, folded_is_cleared, folded_base}
use Rattle.ioc_set.proofs.AwaitedSums.{awaited-joined}
use Rattle.ioc_set.proofs.Joining.{joined_live, joined_once, joined_held}
use Rattle.ioc_set.proofs.Linked.{empty_history_is_sound, became_one}
use Rattle.ioc_set.proofs.NothingHeld.{nothing_is_sound, nothing_is_like_its_base}
use Rattle.ioc_set.proofs.Counts.{none_add_up, both_add_up}
use Rattle.ioc_set.proofs.lock_set.LockSet.unite.Given.{Over}
use Rattle.ioc_set.proofs.lock_set.LockSet.unite.Goals.{After-join}
use Rattle.ioc_set.proofs.lock_set.LockSet.unite.Goals as goal

-- What is known of both sets once their histories are cleared.
module _ (g : Over) (c : After-join g) where
  first : HistoryIsCleared g.K.RecordKind.rules c.args.self.now c.self.inside.members c.self.inside.puts c.self.inside.tally
  first =
      let s = c.self.inside in
      let live = c.held_records_are_sound.ensures.live (held_by s.members s.puts s.base_tally s.tally s.history.items) c.self.invariant.0 in
      folded_is_cleared g.K.RecordKind.rules c.args.self.now s.members s.puts s.base_tally s.tally s.history.items (c.self.view_is ∙ c.fold.ensures) c.self.invariant.0 live

  second : HistoryIsCleared g.K.RecordKind.rules c.args.other.now c.other.inside.members c.other.inside.puts c.other.inside.tally
  second =
      let s = c.other.inside in
      let live = c.held_records_are_sound.ensures.live (held_by s.members s.puts s.base_tally s.tally s.history.items) c.other.invariant.0 in
      folded_is_cleared g.K.RecordKind.rules c.args.other.now s.members s.puts s.base_tally s.tally s.history.items (c.other.view_is ∙ c.fold-2.ensures) c.other.invariant.0 live

  there : IsSome (get c.self.inside.members.records c.args.change.number)
  there = subst (λ (rs : Records g.row.K.Denot). IsSome (get rs c.args.change.number)) (sym first.records) (ap is_some c.requires.free.1)

pub join-requires-clause-folded : goal.join-requires-clause-folded
join-requires-clause-folded g c =
    let s = c.self.inside in
    folded_base g.K.RecordKind.rules c.args.self.now s.members s.puts s.base_tally s.tally s.history.items (c.self.view_is ∙ c.fold.ensures)

pub join-requires-clause-other_folded : goal.join-requires-clause-other_folded
join-requires-clause-other_folded g c =
    let s = c.other.inside in
    folded_base g.K.RecordKind.rules c.args.other.now s.members s.puts s.base_tally s.tally s.history.items (c.other.view_is ∙ c.fold-2.ensures)

pub joined_puts-puts-requires-clause-live : goal.joined_puts-puts-requires-clause-live
joined_puts-puts-requires-clause-live g c =
    let at = (goal.at.joined_puts-puts-requires-clause-live g c).After-join in
    joined_live g.K.RecordKind.rules g.met.K.RecordKind.lawful c.self.inside.members.records c.other.inside.members.records c.join.new.self.records c.args.change.number c.args.change.field c.args.change.link (there g at) c.join.ensures.shared
    c.self.inside.puts.waiting c.other.inside.puts.waiting c.self.inside.puts.live c.other.inside.puts.live (first g at).are_live (second g at).are_live

pub joined_puts-puts-requires-clause-once : goal.joined_puts-puts-requires-clause-once
joined_puts-puts-requires-clause-once g c =
    let at = (goal.at.joined_puts-puts-requires-clause-once g c).After-join in
    joined_once c.self.inside.puts.waiting c.other.inside.puts.waiting
    (λ x y in_one in_other. c.requires.one.apart x y (subst (λ (l : List Waiting). Contains l x) (first g at).waiting in_one) (subst (λ (l : List Waiting). Contains l y) (second g at).waiting in_other))
    (first g at).held.counted.waits_once (second g at).held.counted.waits_once

pub invariant_of-self : goal.invariant_of-self
invariant_of-self g c =
    let k = g.K.RecordKind.rules in
    let lawful = g.met.K.RecordKind.lawful in
    let at = (goal.at.invariant_of-self g c).After-join in
    let one = first g at in
    let two = second g at in
    let begun = c.self.inside.members.records in
    let others = c.other.inside.members.records in
    let both = c.join.new.self.records in
    let joined = c.joined_puts-puts in
    empty_history_is_sound k c.held_records_are_sound.ensures.sound c.join.new.self joined.result c.add_counts.new.tally c.add_counts.new.tally c.self.inside.history.items
    joined.ensures.begun c.join.ensures.base refl (ap (λ (h : SetState g.row.K.Denot g.row.D.Denot). h.history) (c.self.view_is ∙ c.fold.ensures)) c.join.ensures.part
    (joined_held k lawful begun others both c.args.change.number c.args.change.field c.args.change.link (there g at) c.join.ensures.shared
    c.self.inside.puts.live c.other.inside.puts.live joined.result.live c.self.inside.puts.waiting c.other.inside.puts.waiting joined.result.waiting one.held two.held
    (λ x in_one. subst (λ (rs : Records g.row.K.Denot). IsSome (get rs x.target)) (sym one.records) (c.requires.one.own x (subst (λ (l : List Waiting). Contains l x) one.waiting in_one)))
    (λ x in_other. subst (λ (rs : Records g.row.K.Denot). IsSome (get rs x.target)) (sym two.records) (c.requires.one.others_own x (subst (λ (l : List Waiting). Contains l x) two.waiting in_other)))
    joined.ensures.waiting joined.ensures.counted)
    c.are_few.ensures
    (subst (λ (t : Tally). CountsAddUp t (awaited k both)) (sym c.add_counts.ensures)
    (both_add_up c.self.inside.tally c.other.inside.tally (awaited k begun) (awaited k others) (awaited k both) one.counts two.counts
    (awaited-joined k lawful begun others both c.args.change.number c.args.change.field c.args.change.link (there g at) c.join.ensures.shared)))

pub invariant_of-other : goal.invariant_of-other
invariant_of-other g c =
    let missing = g.met.K.RecordKind.lawful.missing_targets in (
      nothing_is_sound g.K.RecordKind.rules missing c.join.new.other c.none.result c.default-other-inside.result c.default-other-inside.result c.other.inside.history.items c.join.ensures.emptied
          (were_none c.none.result c.none.ensures) refl (ap (λ (h : SetState g.row.K.Denot g.row.D.Denot). h.history) (c.other.view_is ∙ c.fold-2.ensures)) (none_add_up c.default-other-inside.result c.default-other-inside.ensures 0 refl),
      nothing_is_like_its_base g.K.RecordKind.rules missing c.join.new.other c.join.ensures.emptied,
    )

pub returns : goal.returns
returns g c =
    let at = (goal.at.returns g c).After-join in
    let zeros = c.default-other-inside.ensures in
    let none : c.default-other-inside.result ≡ no_counts = λ i. record {
      begun = zeros.0 i;
      processed = zeros.1.0 i;
      disabled = zeros.1.1.0 i;
      active = zeros.1.1.1.0 i;
      reprocess = zeros.1.1.1.1.0 i;
      started = zeros.1.1.1.1.1.0 i;
      completed = zeros.1.1.1.1.1.1 i;
    } in
    let joined = c.joined_puts-puts in
    became_one g.K.RecordKind.rules c.args.change.number c.args.change.field c.args.change.link c.args.self.now c.args.other.now c.self.inside.members c.other.inside.members c.join.new.self c.join.new.other
    c.self.inside.puts c.other.inside.puts joined.result c.none.result c.self.inside.tally c.other.inside.tally c.add_counts.new.tally c.default-other-inside.result c.self.inside.history.items c.other.inside.history.items
    (first g at) (second g at)
    c.join.ensures.shared c.join.ensures.devices joined.ensures.waiting (λ nobody other_nobody. joined.ensures.none nobody other_nobody)
    joined.ensures.begun c.join.ensures.base c.add_counts.ensures (ap (λ (h : SetState g.row.K.Denot g.row.D.Denot). h.history) (c.self.view_is ∙ c.fold.ensures)) c.join.ensures.emptied (were_none c.none.result c.none.ensures) none (ap (λ (h : SetState g.row.K.Denot g.row.D.Denot). h.history) (c.other.view_is ∙ c.fold-2.ensures))
