use Rattle.std.proofs.Common.{◌≡◌, ◌+◌, ◌^◌, ◌<◌, ◌≤◌, ◌∙◌, length, refl, ap, subst, sym, arith}
use Rattle.std.specs.Prelude.{IsSome, is_some}
use Rattle.std.specs.FinMap.{get}
use Rattle.ioc_set_records.specs.Contents.{Records}
use Rattle.ioc_ledger.specs.declared.tally.Tally.{Tally}
use Rattle.ioc_set.specs.Awaiting.{awaited}
use Rattle.ioc_set.specs.Linking.{awaited_alone}
use Rattle.ioc_ledger.specs.Requests.{added}
use Rattle.ioc_ledger.specs.Shared.{less_awaited}
use Rattle.ioc_set.specs.Sound.{CountsAddUp}
use Rattle.ioc_set.specs.SetState.{SetState}
use Rattle.ioc_set.specs.Doing.{held_by}
use Rattle.ioc_set.proofs.AwaitedSums.{awaited-few, awaited-parted}
use Rattle.ioc_set.proofs.Cleared.{HistoryIsCleared, folded_is_cleared, folded_base}
use Rattle.ioc_set.proofs.Counts.{rest_adds_up, stay_adds_up, parts_add_up}
use Rattle.ioc_set.proofs.Linked.{empty_history_is_sound, stay_within, rest_within, fell_apart}
use Rattle.ioc_set.proofs.HeldRecords.{Within, sound_fewer, part_live, part_held, of-before}
use Rattle.ioc_set.proofs.lock_set.LockSet.split.Given.{Over}
use Rattle.ioc_set.proofs.lock_set.LockSet.split.Goals.{After-are_few-3}
use Rattle.ioc_set.proofs.lock_set.LockSet.split.Goals as goal

-- What is known of the set once its history is cleared, and of its two parts.
module _ (g : Over) (c : After-are_few-3 g) where
  cleared : HistoryIsCleared g.K.RecordKind.rules c.args.self.now c.self.inside.members c.self.inside.puts c.self.inside.tally
  cleared =
      let s = c.self.inside in
      let live = c.held_records_are_sound.ensures.live (held_by s.members s.puts s.base_tally s.tally s.history.items) c.self.invariant.0 in
      folded_is_cleared g.K.RecordKind.rules c.args.self.now s.members s.puts s.base_tally s.tally s.history.items (c.self.view_is ∙ c.fold.ensures) c.self.invariant.0 live

  few_wait : length c.self.inside.puts.waiting ≤ 256
  few_wait =
      let s = c.self.inside in
      let few = c.are_few.ensures in
      let fewer = sound_fewer g.K.RecordKind.rules (held_by s.members s.puts s.base_tally s.tally s.history.items) c.self.invariant.0 in
      omega (arith, few, fewer)

  there : IsSome (get c.self.inside.members.records c.args.change.number)
  there = subst (λ (rs : Records g.row.K.Denot). IsSome (get rs c.args.change.number)) (sym cleared.records) (ap is_some c.requires.link.0.1)

  stays : Within g.K.RecordKind.rules c.self.inside.members.records c.part.new.self.records
  stays = stay_within g.K.RecordKind.rules g.met.K.RecordKind.lawful c.args.change.number c.args.change.field c.args.change.link c.self.inside.members.records c.part.new.self.records c.in_ok-rest.rest.records there c.in_ok-rest.ensures.shared

  leaves : Within g.K.RecordKind.rules c.self.inside.members.records c.in_ok-rest.rest.records
  leaves = rest_within g.K.RecordKind.rules g.met.K.RecordKind.lawful c.args.change.number c.args.change.field c.args.change.link c.self.inside.members.records c.part.new.self.records c.in_ok-rest.rest.records there c.in_ok-rest.ensures.shared

  few_leave : awaited g.K.RecordKind.rules c.in_ok-rest.rest.records < 2 ^ 63
  few_leave = omega (arith, awaited-few g.K.RecordKind.rules c.in_ok-rest.rest.records, c.are_few-3.ensures)

  parts : awaited g.K.RecordKind.rules c.self.inside.members.records ≡ awaited g.K.RecordKind.rules c.part.new.self.records + awaited g.K.RecordKind.rules c.in_ok-rest.rest.records
  parts = awaited-parted g.K.RecordKind.rules g.met.K.RecordKind.lawful c.self.inside.members.records c.part.new.self.records c.in_ok-rest.rest.records c.args.change.number c.args.change.field c.args.change.link there c.in_ok-rest.ensures.shared

pub part-requires-clause-folded : goal.part-requires-clause-folded
part-requires-clause-folded g c =
    let s = c.self.inside in
    folded_base g.K.RecordKind.rules c.args.self.now s.members s.puts s.base_tally s.tally s.history.items (c.self.view_is ∙ c.fold.ensures)

pub own_puts-rest_puts-requires-clause-live : goal.own_puts-rest_puts-requires-clause-live
own_puts-rest_puts-requires-clause-live g c =
    let at = (goal.at.own_puts-rest_puts-requires-clause-live g c).After-are_few-3 in
    part_live g.K.RecordKind.rules c.self.inside.members.records c.in_ok-rest.rest.records c.self.inside.puts.waiting c.self.inside.puts.live (leaves g at) (cleared g at).are_live

pub own_puts-rest_puts-requires-clause-waits_once : goal.own_puts-rest_puts-requires-clause-waits_once
own_puts-rest_puts-requires-clause-waits_once g c n = (cleared g (goal.at.own_puts-rest_puts-requires-clause-waits_once g c).After-are_few-3).held.counted.waits_once n

pub own_puts-rest_puts-requires-clause-fits : goal.own_puts-rest_puts-requires-clause-fits
own_puts-rest_puts-requires-clause-fits g c = few_wait g (goal.at.own_puts-rest_puts-requires-clause-fits g c).After-are_few-3

pub own_puts-stay_puts-requires-clause-live : goal.own_puts-stay_puts-requires-clause-live
own_puts-stay_puts-requires-clause-live g c =
    let at = (goal.at.own_puts-stay_puts-requires-clause-live g c).After-are_few-3 in
    part_live g.K.RecordKind.rules c.self.inside.members.records c.part.new.self.records c.self.inside.puts.waiting c.self.inside.puts.live (stays g at) (cleared g at).are_live

pub own_puts-stay_puts-requires-clause-waits_once : goal.own_puts-stay_puts-requires-clause-waits_once
own_puts-stay_puts-requires-clause-waits_once g c n = (cleared g (goal.at.own_puts-stay_puts-requires-clause-waits_once g c).After-are_few-3).held.counted.waits_once n

pub own_puts-stay_puts-requires-clause-fits : goal.own_puts-stay_puts-requires-clause-fits
own_puts-stay_puts-requires-clause-fits g c = few_wait g (goal.at.own_puts-stay_puts-requires-clause-fits g c).After-are_few-3

pub invariant_of-result : goal.invariant_of-result
invariant_of-result g c =
    let k = g.K.RecordKind.rules in
    let at = (goal.at.invariant_of-result g c).After-are_few-3 in
    let rest = c.in_ok-rest.rest in
    let puts = c.self.inside.puts in
    let own = c.own_puts-rest_puts in
    empty_history_is_sound k c.held_records_are_sound.ensures.sound rest own.result c.take_awaited-rest_tally.result c.take_awaited-rest_tally.result c.new.result.items
    own.ensures.begun c.in_ok-rest.ensures.rest_base refl c.new.ensures.items c.in_ok-rest.ensures.rest
    (part_held k c.self.inside.members.records rest.records puts.live own.result.live puts.waiting own.result.waiting (leaves g at) (cleared g at).held
    (of-before rest.records puts.waiting own.result.waiting own.ensures.waiting) own.ensures.counted)
    c.are_few-3.ensures
    (subst (λ (t : Tally). CountsAddUp t (awaited k rest.records)) (sym c.take_awaited-rest_tally.ensures.leaves) (rest_adds_up (awaited k rest.records) (few_leave g at)))

pub invariant_of-self-2 : goal.invariant_of-self-2
invariant_of-self-2 g c =
    let k = g.K.RecordKind.rules in
    let at = (goal.at.invariant_of-self-2 g c).After-are_few-3 in
    let stay = c.part.new.self in
    let puts = c.self.inside.puts in
    let own = c.own_puts-stay_puts in
    empty_history_is_sound k c.held_records_are_sound.ensures.sound stay own.result c.take_awaited-rest_tally.new.tally c.take_awaited-rest_tally.new.tally c.self.inside.history.items
    own.ensures.begun c.in_ok-rest.ensures.base refl (ap (λ (h : SetState g.row.K.Denot g.row.D.Denot). h.history) (c.self.view_is ∙ c.fold.ensures)) c.in_ok-rest.ensures.stay
    (part_held k c.self.inside.members.records stay.records puts.live own.result.live puts.waiting own.result.waiting (stays g at) (cleared g at).held
    (of-before stay.records puts.waiting own.result.waiting own.ensures.waiting) own.ensures.counted)
    c.are_few-2.ensures
    (subst (λ (t : Tally). CountsAddUp t (awaited k stay.records)) (sym c.take_awaited-rest_tally.ensures.stays)
    (stay_adds_up c.self.inside.tally (awaited k c.self.inside.members.records) (awaited k stay.records) (awaited k c.in_ok-rest.rest.records) (cleared g at).counts (parts g at)))

pub returns-clause-apart : goal.returns-clause-apart
returns-clause-apart g c =
    let k = g.K.RecordKind.rules in
    let at = (goal.at.returns-clause-apart g c).After-are_few-3 in
    let count = awaited k c.in_ok-rest.rest.records in
    let was = (cleared g at).tally in
    let together = parts_add_up c.self.inside.tally (awaited k c.self.inside.members.records) (awaited k c.part.new.self.records) count (cleared g at).counts (parts g at) in
    let stay = c.own_puts-stay_puts in
    let rest = c.own_puts-rest_puts in
    fell_apart k c.args.change.number c.args.change.field c.args.change.link c.args.self.now c.self.inside.members c.part.new.self c.in_ok-rest.rest c.self.inside.puts stay.result rest.result count c.self.inside.tally
    c.take_awaited-rest_tally.new.tally c.take_awaited-rest_tally.new.tally c.take_awaited-rest_tally.result c.take_awaited-rest_tally.result c.self.inside.history.items c.new.result.items
    (cleared g at) (c.take_awaited-rest_tally.ensures.stays ∙ ap (λ (t : Tally). less_awaited t count) was)
    c.in_ok-rest.ensures.shared c.in_ok-rest.ensures.devices c.in_ok-rest.ensures.own
    stay.ensures.waiting rest.ensures.waiting stay.ensures.none rest.ensures.none
    stay.ensures.begun c.in_ok-rest.ensures.base refl (ap (λ (h : SetState g.row.K.Denot g.row.D.Denot). h.history) (c.self.view_is ∙ c.fold.ensures))
    rest.ensures.begun c.in_ok-rest.ensures.rest_base refl c.take_awaited-rest_tally.ensures.leaves c.new.ensures.items
    (few_leave g at) (subst (λ (t : Tally). added (less_awaited t count) (awaited_alone count) ≡ t) was together)
