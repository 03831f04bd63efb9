use Rattle.std.proofs.Common.{sym, ap, ◌∙◌, subst}
use Rattle.std.specs.FinMap.{len}
use Rattle.ioc_store.specs.World.{World}
use Rattle.ioc_process.specs.Running.{CanRun}
use Rattle.ioc_set_records.specs.Contents.{Contents}
use Rattle.ioc_set.specs.Puts.{Puts}
use Rattle.ioc_set.proofs.DidLaws.{starts, can_run_begun, none_here, did}
use Rattle.ioc_set.proofs.running.run_set_event.Goals as goal

pub run_event-told-requires : goal.run_event-told-requires
run_event-told-requires g c =
    let before = c.args.members.now in
    let puts = c.args.puts.now in
    let buffers = c.args.buffers.now in
    let start = c.begin_at.ensures.world ∙ starts (record { members = c.swap.new.x; event = record buffers.store.event { follow_ups = record buffers.store.event.follow_ups { notifications = c.lend.new.event } } }) before.records puts.live puts.waiting c.args.moment
    (ap (λ (m : Contents g.row.K.Denot g.row.D.Denot). m.records) c.swap.ensures.x_after) c.lend.ensures.live c.lend.ensures.waiting in
    subst (λ (w : World g.row.K.Denot). CanRun g.K.RecordKind.rules w buffers.frames) (sym start)
    (can_run_begun g.K.RecordKind.rules before.records puts.live puts.waiting c.args.moment buffers.frames c.requires.counted.closed buffers.no_frame c.requires.frames)

pub take_back-requires-clause-room : goal.take_back-requires-clause-room
take_back-requires-clause-room g c without =
    let before = c.args.members.now in
    let puts = c.args.puts.now in
    let buffers = c.args.buffers.now in
    let start = c.begin_at.ensures.world ∙ starts (record { members = c.swap.new.x; event = record buffers.store.event { follow_ups = record buffers.store.event.follow_ups { notifications = c.lend.new.event } } }) before.records puts.live puts.waiting c.args.moment
    (ap (λ (m : Contents g.row.K.Denot g.row.D.Denot). m.records) c.swap.ensures.x_after) c.lend.ensures.live c.lend.ensures.waiting in
    none_here g.K.RecordKind.rules g.D.Device.gives c.rules_are_steps.ensures.allowed c.none_live_stays_so.ensures c.notifications_begin_by_notify.ensures
    before puts c.args.tally.now c.run_event-told.new.tally c.begin_at.new.self c.run_event-told.new.store c.args.event.now c.run_event-told.result c.args.moment c.kept_answers-answers.result
    start c.run_event-told.ensures.step c.kept_answers-answers.ensures.answers c.requires.puts c.none_without_room.ensures c.requires.counted
    (sym (ap (λ (p : Puts). p.has_room) c.lend.ensures.lent) ∙ without)

pub invariant_of-buffers : goal.invariant_of-buffers
invariant_of-buffers g c = record {
  no_record = ap (λ (m : Contents g.row.K.Denot g.row.D.Denot). len m.records) (c.swap-2.ensures.y_after ∙ c.swap.ensures.y_after) ∙ c.args.buffers.now.no_record;
  none_live = c.take_back.ensures.live;
  none_waits = c.take_back.ensures.waiting;
  no_frame = c.run_event-told.ensures.run.empty;
  no_answer = c.kept_answers-answers.ensures.empty;
  none_journaled = c.args.buffers.now.none_journaled;
  ended_fit = c.args.buffers.now.ended_fit;
}

pub returns-clause-did : goal.returns-clause-did
returns-clause-did g c =
    let before = c.args.members.now in
    let puts = c.args.puts.now in
    let buffers = c.args.buffers.now in
    let start = c.begin_at.ensures.world ∙ starts (record { members = c.swap.new.x; event = record buffers.store.event { follow_ups = record buffers.store.event.follow_ups { notifications = c.lend.new.event } } }) before.records puts.live puts.waiting c.args.moment
    (ap (λ (m : Contents g.row.K.Denot g.row.D.Denot). m.records) c.swap.ensures.x_after) c.lend.ensures.live c.lend.ensures.waiting in
    rw c.copy_of.ensures (did g.K.RecordKind.rules g.D.Device.gives c.rules_are_steps.ensures.allowed c.none_live_stays_so.ensures c.notifications_begin_by_notify.ensures
    before puts c.args.tally.now c.run_event-told.new.tally c.begin_at.new.self c.run_event-told.new.store c.args.event.now c.run_event-told.result c.args.moment c.kept_answers-answers.result
    start c.run_event-told.ensures.step c.kept_answers-answers.ensures.answers
    (c.begin_at.ensures.members ∙ c.swap.ensures.x_after) c.run_event-told.ensures.run.keeps c.run_event-told.ensures.run.given
    c.devices_are_owned.ensures.devices c.devices_are_owned.ensures.base c.swap-2.new.x c.swap-2.ensures.x_after c.devices_are_owned-2.ensures.devices c.devices_are_owned-2.ensures.base
    c.lend.new.self c.take_back.new.self c.lend.ensures.lent c.take_back.ensures.kept c.swap-2.new.y c.take_back.new.event c.take_back.ensures.ended)
