use Rattle.std.proofs.Common.{◌⊎◌, ◌≤◌, ℕ, List, length, ap, sym, ◌∙◌, subst, arith}
use Rattle.ioc_notify.specs.declared.waiting_lists.Waiting.{Waiting}
use Rattle.ioc_store.specs.World.{World}
use Rattle.ioc_events.specs.Holding.{IsCounted}
use Rattle.ioc_set.specs.SetStore.{world_of}
use Rattle.ioc_set.specs.SetState.{SetState, done_by}
use Rattle.ioc_set.specs.Resting.{resting}
use Rattle.ioc_set.specs.Doing.{held_by, with_place, Does}
use Rattle.ioc_set.proofs.DoneLaws.{same_held, now_kept, alike_after, sound_then, does, is_short}
use Rattle.ioc_set.proofs.lock_set.LockSet.do_event.Goals as goal

pub run_set_event-kept-requires-clause-counted : goal.run_set_event-kept-requires-clause-counted
run_set_event-kept-requires-clause-counted g c =
    let k = g.K.RecordKind.rules in
    let one = c.self.inside in
    let room = c.in_ok-make_room_for.ensures in
    let was = held_by one.members one.puts one.base_tally one.tally one.history.items in
    let same = same_held one.members one.puts c.make_room_for.new.self one.base_tally one.tally one.history.items c.make_room_for.ensures.live c.make_room_for.ensures.waiting c.make_room_for.ensures.base_live c.make_room_for.ensures.base_waiting in
    let placed = held_by c.make_place.new.members c.make_place.new.puts c.make_place.new.base_tally one.tally c.make_place.new.history.items in
    subst (λ (w : World g.row.K.Denot). IsCounted k w) (sym (now_kept c.args.most was placed (c.in_ok-make_place.ensures.held ∙ ap (λ (h : SetState g.row.K.Denot g.row.D.Denot). with_place c.args.most h) same))) c.self.invariant.0.counted

pub invariant_of-self-2 : goal.invariant_of-self-2
invariant_of-self-2 g c =
    let k = g.K.RecordKind.rules in
    let one = c.self.inside in
    let entry = c.run_set_event-kept.result in
    let before = c.make_place.new.members in
    let puts = c.make_place.new.puts in
    let after = c.run_set_event-kept.new.members in
    let did = c.run_set_event-kept.ensures.did in
    let was = held_by one.members one.puts one.base_tally one.tally one.history.items in
    let same = same_held one.members one.puts c.make_room_for.new.self one.base_tally one.tally one.history.items c.make_room_for.ensures.live c.make_room_for.ensures.waiting c.make_room_for.ensures.base_live c.make_room_for.ensures.base_waiting in
    let held = c.in_ok-make_place.ensures.held ∙ ap (λ (h : SetState g.row.K.Denot g.row.D.Denot). with_place c.args.most h) same in (
      sound_then k g.D.Device.gives c.args.most was before puts c.make_place.new.base_tally one.tally c.make_place.new.history.items held
          entry after c.run_set_event-kept.new.puts c.run_set_event-kept.new.tally c.run_set_event-kept.new.buffers.store did c.push_reserved.new.self.items c.push_reserved.ensures.items
          c.events_leave_sound.ensures.event c.events_leave_sound.ensures.folded c.self.invariant.0,
      alike_after k before after puts.live puts.waiting entry.moment (done_by k (resting before.records puts.live puts.waiting) entry).world did.keeps did.records did.base c.in_ok-make_place.ensures.like,
    )

pub returns-clause-ok : goal.returns-clause-ok
returns-clause-ok g c =
    let k = g.K.RecordKind.rules in
    let gives = g.D.Device.gives in
    let one = c.self.inside in
    let entry = c.run_set_event-kept.result in
    let after = c.run_set_event-kept.new.members in
    let was = held_by one.members one.puts one.base_tally one.tally one.history.items in
    let same = same_held one.members one.puts c.make_room_for.new.self one.base_tally one.tally one.history.items c.make_room_for.ensures.live c.make_room_for.ensures.waiting c.make_room_for.ensures.base_live c.make_room_for.ensures.base_waiting in
    let held = c.in_ok-make_place.ensures.held ∙ ap (λ (h : SetState g.row.K.Denot g.row.D.Denot). with_place c.args.most h) same in
    let then = held_by after c.run_set_event-kept.new.puts c.make_place.new.base_tally c.run_set_event-kept.new.tally c.push_reserved.new.self.items in
    let come_to = world_of c.run_set_event-kept.new.buffers.store in
    let event = c.args.event.now in
    subst (λ (h : SetState g.row.K.Denot g.row.D.Denot). Does k gives c.args.most h c.args.moment event entry.reply then come_to) c.self.view_is
    (does k gives c.args.most was c.make_place.new.members c.make_place.new.puts c.make_place.new.base_tally one.tally c.make_place.new.history.items held
    entry after c.run_set_event-kept.new.puts c.run_set_event-kept.new.tally c.run_set_event-kept.new.buffers.store c.run_set_event-kept.ensures.did c.push_reserved.new.self.items c.push_reserved.ensures.items
    c.args.moment event c.run_set_event-kept.ensures.moment c.run_set_event-kept.ensures.event)

pub returns-clause-short : goal.returns-clause-short
returns-clause-short g c =
    let grown = c.push_reserved.new.self.items in
    is_short c.args.most c.make_place.new.history.items grown c.run_set_event-kept.result c.push_reserved.ensures.items c.in_ok-make_place.ensures.few

pub make_place-requires-clause-fits : goal.make_place-requires-clause-fits
make_place-requires-clause-fits g c =
    let one = c.self.inside in
    let few = c.are_few.ensures in
    let fewer = c.held_records_are_sound.ensures.fewer (held_by one.members one.puts one.base_tally one.tally one.history.items) c.self.invariant.0 in
    subst (λ (ws : List Waiting). length ws ≤ 256) (sym c.make_room_for.ensures.waiting) (omega (arith, few, fewer))
