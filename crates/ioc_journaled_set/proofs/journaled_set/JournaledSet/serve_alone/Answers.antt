use Rattle.ioc_journal.specs.Line.{noted}
use Rattle.std.proofs.Common.{refl, ◌≡◌, ◌++◌, ℕ, Option, Some, None, sym, ap, ◌∙◌, subst, arith}
use Rattle.std.specs.Prelude.{Contains}
use Rattle.crossbeam_utils.specs.Seq.{cell_view}
use Rattle.ioc_store.specs.World.{Has}
use Rattle.ioc_events.specs.declared.event.Entry.{Entry}
use Rattle.ioc_events.specs.declared.event.Call.TheVariants as calling
use Rattle.ioc_events.specs.Step.{names}
use Rattle.ioc_journal.specs.declared.event_counts.SentCounts.{SentCounts}
use Rattle.ioc_journal.specs.Counting.{MaySend}
use Rattle.ioc_journal.specs.Covering.{Holds}
use Rattle.ioc_journal.specs.Legal.{map_of}
use Rattle.ioc_journal.specs.declared.cell.View.{View}
use Rattle.ioc_journal.specs.Account.{journalled, HasCalled, Pass}
use Rattle.ioc_journal.proofs.Numbers.{begins_none}
use Rattle.ioc_set.specs.SetState.{NoneIsLive, now_of}
use Rattle.ioc_set.specs.NoCalls.{no_call}
use Rattle.ioc_set.specs.SetStore.{world_of}
use Rattle.ioc_journaled_set.specs.Holding.{HeldView, watching, numbers_of, IsHeld, Serves}
use Rattle.ioc_journaled_set.specs.SameDevice.{IsDeviceOf}
use Rattle.ioc_watched.specs.Watched.{watched_by}
use Rattle.ioc_journaled_set.proofs.Fresh.{none_fresh}
use Rattle.ioc_journaled_set.proofs.Keys.{key_there}
use Rattle.ioc_journaled_set.proofs.Devices.{worked_there, keeps_on}
use Rattle.ioc_journaled_set.proofs.Ended.{none_have_ended, ends_so}
use Rattle.ioc_journaled_set.proofs.Serving.{IsDoneAlone, names_one, ordinary_on, begins_no_put, owner_on, entry_is, none_held, none_ended, may_follow, may_send, may_count, held_then, only, as_many}
use Rattle.ioc_journaled_set.proofs.Watches.{does_unwatched}
use Rattle.ioc_journaled_set.proofs.Counting.{some_len}
use Rattle.ioc_journaled_set.proofs.Shares.{backed, counted_then, has_share, is_there}
use Rattle.ioc_journaled_set.proofs.journaled_set.JournaledSet.serve_alone.Given.{Over}
use Rattle.ioc_journaled_set.proofs.journaled_set.JournaledSet.serve_alone.Goals.{After-counts_since-counts}
use Rattle.ioc_journaled_set.proofs.journaled_set.JournaledSet.serve_alone.Goals as goal

-- The set's pass, and the event as it was done on the set.
module _ (g : Over) (c : After-counts_since-counts g) where
  held : IsHeld g.K.RecordKind.rules g.B.JournalName.base (IsDeviceOf g.D.Device.gives g.B.SetsName.devices) g.B.CellName.table (Some c.in-Some.pass) c.self.inside.set
  held = subst (λ (o : Option Pass). IsHeld g.K.RecordKind.rules g.B.JournalName.base (IsDeviceOf g.D.Device.gives g.B.SetsName.devices) g.B.CellName.table o c.self.inside.set) (sym c.take.ensures.value ∙ c.in-Some.is) c.self.invariant.0

  there : (n : ℕ) → Contains (names c.args.event.now) n → Has (now_of c.self.inside.set) n
  there n has = key_there c.self.inside.set.records n (subst (λ (v : HeldView g.row.K.Denot g.row.D.Denot). Contains (numbers_of v) n) (sym c.self.view_is) (c.requires.there n has))

  none : NoneIsLive c.self.inside.set
  none = subst (λ (v : HeldView g.row.K.Denot g.row.D.Denot). NoneIsLive v.set) (sym c.self.view_is) c.requires.none

  done : IsDoneAlone g.K.RecordKind.rules g.D.Device.gives c.args.access.now.history c.self.inside.set c.run_with_answers.new.set c.args.moment c.args.event.now c.in-Ok.done.0 (world_of c.run_with_answers.new.buffers.store) g.B.JournalName.base (cell_view c.in-Some.pass).seen (cell_view c.in-Some.pass).owns
      (record { moment = c.args.moment; call = calling.Event c.args.event.now c.in-Ok.done.0; answers = c.in-Ok.done.1 })
  done = record {
    does = c.in-Ok.ensures.ok;
    there = there;
    laws = c.calls_have_laws.ensures;
    ordinary = c.requires.ordinary;
    same =
        none_held g.K.RecordKind.rules g.D.Device.gives c.self.inside.set c.run_with_answers.new.set c.args.moment c.args.event.now c.in-Ok.done.0 (world_of c.run_with_answers.new.buffers.store) c.in-Ok.ensures.ok there
        c.calls_have_laws.ensures.events c.is_sound.ensures.counted none
        (c.sets_stay_without_puts.ensures.stay c.args.access.now.history c.self.inside.set c.run_with_answers.new.set c.args.moment c.args.event.now c.in-Ok.done.0 (world_of c.run_with_answers.new.buffers.store) c.in-Ok.ensures.ok c.requires.ordinary c.is_sound.ensures none);
    covers = held.owner.covers;
    holds = held.holds;
    entry_is = entry_is g.K.RecordKind.rules g.D.Device.gives c.self.inside.set c.run_with_answers.new.set c.args.moment c.args.event.now c.in-Ok.done.0 (world_of c.run_with_answers.new.buffers.store) c.in-Ok.ensures.ok there c.in-Ok.done.1 c.in-Ok.ensures.answers;
  }

pub unreachable-requires : goal.unreachable-requires
unreachable-requires g c =
    let k = g.K.RecordKind.rules in
    let none : c.self.inside.pass ≡ None = sym c.take.ensures.value ∙ c.in_default.is in
    let held = subst (λ (o : Option Pass). IsHeld k g.B.JournalName.base (IsDeviceOf g.D.Device.gives g.B.SetsName.devices) g.B.CellName.table o c.self.inside.set) none c.self.invariant.0 in
    let one = names_one c.args.event.now (ordinary_on c.args.event.now c.requires.ordinary) in
    held.owner one.0 (key_there c.self.inside.set.records one.0 (subst (λ (v : HeldView g.row.K.Denot g.row.D.Denot). Contains (numbers_of v) one.0) (sym c.self.view_is) (c.requires.there one.0 one.1)))

pub take_share-share-requires : goal.take_share-share-requires
take_share-share-requires g c =
    let one = names_one c.args.event.now (ordinary_on c.args.event.now c.requires.ordinary) in
    let there = key_there c.self.inside.set.records one.0 (subst (λ (v : HeldView g.row.K.Denot g.row.D.Denot). Contains (numbers_of v) one.0) (sym c.self.view_is) (c.requires.there one.0 one.1)) in
    record { there = has_share c.self.inside.share c.self.inside.set c.self.invariant.1 (some_len c.self.inside.set.records one.0 there) }

pub append-appended-requires-clause-set : goal.append-appended-requires-clause-set
append-appended-requires-clause-set g c =
    let at = (goal.at.append-appended-requires-clause-set g c).After-counts_since-counts in
    let held = held g at in
    (held.owner.holder, λ key has desk. let record_key = held.owner.records key has in omega (arith, record_key, desk))

pub append-appended-requires-clause-follows : goal.append-appended-requires-clause-follows
append-appended-requires-clause-follows g c =
    let at = (goal.at.append-appended-requires-clause-follows g c).After-counts_since-counts in
    may_follow (done g at)

pub append-appended-requires-clause-sent : goal.append-appended-requires-clause-sent
append-appended-requires-clause-sent g c =
    let at = (goal.at.append-appended-requires-clause-sent g c).After-counts_since-counts in
    subst (λ (n : SentCounts). MaySend g.K.RecordKind.rules g.B.JournalName.base (cell_view c.in-Some.pass).seen (cell_view c.in-Some.pass).owns (record { moment = c.args.moment; call = calling.Event c.args.event.now c.in-Ok.done.0; answers = c.in-Ok.done.1 }) n) (sym c.counts_since-counts.ensures.sent)
    (may_send (done g at))

pub append-appended-requires-clause-counts : goal.append-appended-requires-clause-counts
append-appended-requires-clause-counts g c =
    let at = (goal.at.append-appended-requires-clause-counts g c).After-counts_since-counts in
    may_count (done g at) c.counts_since-counts.result.share c.counts_since-counts.result.before c.counts_since-counts.result.after (λ none. is_there c.counts_since-counts.ensures.share none)
    (c.counts_since-counts.ensures.counts.0 ∙ c.tally-before.ensures) c.counts_since-counts.ensures.counts.1

pub append-appended-requires-clause-backed : goal.append-appended-requires-clause-backed
append-appended-requires-clause-backed g c =
    let one = names_one c.args.event.now (ordinary_on c.args.event.now c.requires.ordinary) in
    let there = key_there c.self.inside.set.records one.0 (subst (λ (v : HeldView g.row.K.Denot g.row.D.Denot). Contains (numbers_of v) one.0) (sym c.self.view_is) (c.requires.there one.0 one.1)) in
    backed c.take_share-share.result c.self.inside.share c.counts_since-counts.result.share c.self.inside.set c.counts_since-counts.result.before c.take_share-share.ensures.share c.counts_since-counts.ensures.share c.self.invariant.1
    (c.counts_since-counts.ensures.counts.0 ∙ c.tally-before.ensures) (some_len c.self.inside.set.records one.0 there)

pub append-appended-requires-clause-begins : goal.append-appended-requires-clause-begins
append-appended-requires-clause-begins g c = begins_none (cell_view c.in-Some.pass).seen (cell_view c.in-Some.pass).owns (calling.Event c.args.event.now c.in-Ok.done.0) (begins_no_put c.args.event.now c.requires.ordinary)

pub invariant_of-self-2 : goal.invariant_of-self-2
invariant_of-self-2 g c =
    let at = (goal.at.invariant_of-self-2 g c).After-counts_since-counts in
    let k = g.K.RecordKind.rules in
    let held = held g at in
    let set = c.append-appended.ensures.set in
    let added = c.append-appended.ensures.added in
    let came = only g.K.RecordKind.rules g.D.Device.gives c.self.inside.set c.run_with_answers.new.set c.args.moment c.args.event.now c.in-Ok.done.0 (world_of c.run_with_answers.new.buffers.store) c.in-Ok.ensures.ok (there g at) c.calls_have_laws.ensures.events held.holds.shut in (
      record {
        owner = owner_on g.B.CellName.table _ _ (cell_view c.in-Some.pass) (cell_view c.append-appended.new.set) _ (now_of c.self.inside.set) (now_of c.run_with_answers.new.set) held.owner set.0 set.1 came;
        devices = keeps_on g.D.Device.gives g.B.SetsName.devices c.self.inside.set c.run_with_answers.new.set held.devices (worked_there c.in-Ok.ensures.ok.work) came;
        holds = subst (λ (x : View). Holds k (map_of k g.B.JournalName.base x.seen) (now_of c.run_with_answers.new.set)) (sym set.1) (held_then (done g at) added.0 _ added.1);
      },
      counted_then c.take_share-share.result c.self.inside.share c.counts_since-counts.result.share c.append-appended.result.share c.self.inside.set c.run_with_answers.new.set c.counts_since-counts.result.after c.take_share-share.ensures.share c.counts_since-counts.ensures.share c.self.invariant.1
          c.append-appended.ensures.share c.counts_since-counts.ensures.counts.1
          (as_many g.K.RecordKind.rules g.D.Device.gives c.self.inside.set c.run_with_answers.new.set c.args.moment c.args.event.now c.in-Ok.done.0 (world_of c.run_with_answers.new.buffers.store) c.in-Ok.ensures.ok (there g at) c.calls_have_laws.ensures.events held.holds.shut),
      none_fresh g.K.RecordKind.rules g.B.JournalName.base c.run_with_answers.new.set.records (watched_by c.self.inside.watched) (ap (λ (v : HeldView g.row.K.Denot g.row.D.Denot). v.watched) c.self.view_is ∙ c.requires.unwatched),
    )

pub returns-clause-serves : goal.returns-clause-serves
unfolding done
returns-clause-serves g c =
    let at = (goal.at.returns-clause-serves g c).After-counts_since-counts in
    let k = g.K.RecordKind.rules in
    let set = c.append-appended.ensures.set in
    subst (λ (v : HeldView g.row.K.Denot g.row.D.Denot). Serves k g.D.Device.gives g.B.JournalName.base c.args.access.now.history v c.args.desk.now c.args.moment c.args.event.now c.in-Ok.done.0
    (watching c.run_with_answers.new.set (cell_view c.append-appended.new.set).seen (watched_by c.self.inside.watched)) c.append-appended.new.desk (world_of c.run_with_answers.new.buffers.store)) c.self.view_is
    (record {
      is_call = subst (λ (v : HeldView g.row.K.Denot g.row.D.Denot). no_call k (now_of v.set) c.args.event.now ≡ None) (sym c.self.view_is) c.requires.is_call;
      does = does_unwatched k g.D.Device.gives c.args.access.now.history (watched_by c.self.inside.watched) (ap (λ (v : HeldView g.row.K.Denot g.row.D.Denot). v.watched) c.self.view_is ∙ c.requires.unwatched) c.in-Ok.ensures.ok;
      short = c.in-Ok.ensures.short;
      call = subst (λ (x : Entry). HasCalled k g.B.JournalName.base c.args.desk.now x c.append-appended.new.desk) (sym (done g at).entry_is) c.append-appended.ensures.call;
      seen = ap (λ (v : View). v.seen) set.1;
      watched = refl;
    })

pub returns-clause-ended : goal.returns-clause-ended
returns-clause-ended g c =
    let at = (goal.at.returns-clause-ended g c).After-counts_since-counts in
    let added = c.append-appended.ensures.added in
    let none_here = c.sets_stay_without_puts.ensures.ended c.args.access.now.history c.self.inside.set c.run_with_answers.new.set c.args.moment c.args.event.now c.in-Ok.done.0 (world_of c.run_with_answers.new.buffers.store) c.in-Ok.ensures.ok c.requires.ordinary c.is_sound.ensures (none g at) in
    let k = g.K.RecordKind.rules in
    let base = g.B.JournalName.base in
    let pass = cell_view c.in-Some.pass in
    let a = added.1 in
    let last = noted (journalled a.desk a.call (record { moment = c.args.moment; call = calling.Event c.args.event.now c.in-Ok.done.0; answers = c.in-Ok.done.1 })) (pass.owns ++ a.own) in
    none_have_ended k base added.0 last (world_of c.run_with_answers.new.buffers.store).ended _ c.append-appended.new.desk.seen none_here c.clear.ensures.items
    (none_ended (done g at) added.0 _ added.1 c.is_sound.ensures.counted none_here) a.ends
    (ends_so k base c.calls_have_laws.ensures.last added.0 c.append-appended.new.desk.seen last a.ends a.sound c.append-appended.ensures.call.legal.legal)
