use Rattle.std.proofs.Common.{◌≡◌, ℕ, List, Option, Some, None, refl, sym, ap, ◌∙◌, subst, [], ◌∷◌, ◌++◌, inl}
use Rattle.std.specs.Option.{IfSome}
use Rattle.std.specs.Prelude.{Contains}
use Rattle.crossbeam_utils.specs.Seq.{cell_view}
use Rattle.ioc_notify.specs.declared.live_numbers.Live.{Live}
use Rattle.ioc_store.specs.World.{Has, begun_at}
use Rattle.ioc_store.specs.Given.{answers_of}
use Rattle.ioc_events.specs.declared.event.Entry.{Entry}
use Rattle.ioc_events.specs.Step.{names}
use Rattle.ioc_journal.specs.Covering.{Holds}
use Rattle.ioc_journal.specs.Legal.{map_of}
use Rattle.ioc_journal.specs.declared.entry.Note.{Note}
use Rattle.ioc_journal.specs.declared.cell.View.{View}
use Rattle.ioc_journal.specs.Account.{HasCalled, Pass, number_begun, number_given, puts_key, PutsAreKeyed, journalled}
use Rattle.ioc_set.specs.SetState.{now_of}
use Rattle.ioc_set.specs.NoCalls.{no_call}
use Rattle.ioc_set.specs.declared.set_store.SetStore.{SetStore}
use Rattle.ioc_set.specs.SetStore.{world_of}
use Rattle.ioc_journaled_set.specs.Holding.{HeldView, watching, numbers_of, IsHeld, Serves}
use Rattle.ioc_watched.specs.Watched.{watched_by}
use Rattle.ioc_journaled_set.proofs.Fresh.{none_fresh}
use Rattle.ioc_journaled_set.specs.Puts.{CanBegin, AreMoved, AreCounted, HaveEnded, PutsView, puts_view}
use Rattle.ioc_journaled_set.specs.SameDevice.{IsDeviceOf}
use Rattle.ioc_journaled_set.proofs.Keys.{key_there}
use Rattle.ioc_journaled_set.proofs.Devices.{worked_there, keeps_on}
use Rattle.ioc_journaled_set.proofs.Serving.{names_one, no_cancel, owner_on, entry_is, only, as_many, asks_alike, if_some_then}
use Rattle.ioc_journal.specs.declared.event_counts.SentCounts.{SentCounts}
use Rattle.ioc_journal.specs.Counting.{BothMaySend}
use Rattle.ioc_journaled_set.proofs.Watches.{does_unwatched}
use Rattle.ioc_journaled_set.proofs.Counting.{some_len}
use Rattle.ioc_journaled_set.proofs.Shares.{backed, counted_then, has_share, is_there}
use Rattle.ioc_journaled_set.proofs.Beside.{IsDoneBeside, both_follow, both_send, both_count, held_beside, moved_beside, ended_beside}
use Rattle.ioc_journaled_set.proofs.Ended.{have_ended, ends_so}
use Rattle.ioc_journal.specs.Line.{noted}
use Rattle.ioc_journal.proofs.Numbers.{numbers_on}
use Rattle.ioc_journaled_set.proofs.Places.{place_alike}
use Rattle.ioc_journaled_set.proofs.Counted.{up_to_date_on, keyed_before}
use Rattle.ioc_journaled_set.proofs.Taken.{fewer_live}
use Rattle.ioc_journaled_set.proofs.journaled_set.JournaledSet.serve_counted.Given.{Over}
use Rattle.ioc_journaled_set.proofs.journaled_set.JournaledSet.serve_counted.Goals.{After-is_counted}
use Rattle.ioc_journaled_set.proofs.journaled_set.JournaledSet.serve_counted.Goals as goal

-- The set's pass, and the event as it was done on the set.
module _ (g : Over) (c : After-is_counted g) where
  held : IsHeld g.K.RecordKind.rules g.B.JournalName.base (IsDeviceOf g.D.Device.gives g.B.SetsName.devices) g.B.CellName.table (Some c.in-Some.pass) c.self.inside.set
  held = subst (λ (o : Option Pass). IsHeld g.K.RecordKind.rules g.B.JournalName.base (IsDeviceOf g.D.Device.gives g.B.SetsName.devices) g.B.CellName.table o c.self.inside.set) (sym c.take.ensures.value ∙ c.in-Some.is) c.self.invariant.0

  there : (n : ℕ) → Contains (names c.args.event.now) n → Has (now_of c.self.inside.set) n
  there n has = key_there c.self.inside.set.records n (subst (λ (v : HeldView g.row.K.Denot g.row.D.Denot). Contains (numbers_of v) n) (sym c.self.view_is) (c.requires.there n has))

  can : IfSome (number_begun c.args.event.now) (λ number. CanBegin c.deref_mut-all.result.now number)
  can = subst (λ (v : PutsView). IfSome (number_begun c.args.event.now) (λ number. CanBegin v number)) (sym c.deref_mut-all.ensures.value) c.lock_for-guard.ensures.can

  done : IsDoneBeside g.K.RecordKind.rules g.D.Device.gives c.args.access.now.history c.self.inside.set c.run_counted.new.set c.args.moment c.args.event.now c.in_ok-ran.ran.reply (world_of c.run_counted.new.buffers.store) g.B.JournalName.base (cell_view c.in-Some.pass).seen c.deref_mut-all.result.now.seen (cell_view c.in-Some.pass).owns
      c.in_ok-ran.ran.entry
  done = record {
    does = c.in_ok-ran.ensures.does;
    there = there;
    laws = c.calls_have_laws.ensures;
    covers = held.owner.covers;
    holds = held.holds;
    cancels = λ log sound go legal h. no_cancel g.K.RecordKind.rules (map_of g.K.RecordKind.rules g.B.JournalName.base log) (now_of c.self.inside.set) c.args.event.now c.requires.on_record;
    asks =
        λ log sound go legal h. asks_alike g.K.RecordKind.rules (begun_at c.args.moment (now_of c.self.inside.set)) (begun_at c.args.moment (map_of g.K.RecordKind.rules g.B.JournalName.base log)) c.args.event.now c.requires.on_record
        (if_some_then (number_begun c.args.event.now)
        (λ number can. place_alike g.K.RecordKind.rules c.calls_have_laws.ensures.place c.calls_have_laws.ensures.live_lasts c.calls_have_laws.ensures.sound c.lines_tell_holders.ensures.live c.lines_tell_holders.ensures.held g.B.JournalName.base (now_of c.self.inside.set) c.deref_mut-all.result.now.seen log c.deref_mut-all.result.now.live number c.args.moment
        c.is_counted.ensures.table c.is_counted.ensures.counted sound go legal h c.is_sound.ensures.counted (fewer_live c.deref_mut-all.result.now number can) can.free)
        can);
    entry_is = entry_is g.K.RecordKind.rules g.D.Device.gives c.self.inside.set c.run_counted.new.set c.args.moment c.args.event.now c.in_ok-ran.ran.reply (world_of c.run_counted.new.buffers.store) c.in_ok-ran.ensures.does there (answers_of (world_of c.run_counted.new.buffers.store).calls) refl ∙ sym c.in_ok-ran.ensures.entry;
  }

pub unreachable-requires : goal.unreachable-requires
unreachable-requires g c =
    let k = g.K.RecordKind.rules in
    let none : c.self.inside.pass ≡ None = sym c.take.ensures.value ∙ c.in_default.is in
    let held = subst (λ (o : Option Pass). IsHeld k g.B.JournalName.base (IsDeviceOf g.D.Device.gives g.B.SetsName.devices) g.B.CellName.table o c.self.inside.set) none c.self.invariant.0 in
    let one = names_one c.args.event.now c.requires.on_record in
    held.owner one.0 (key_there c.self.inside.set.records one.0 (subst (λ (v : HeldView g.row.K.Denot g.row.D.Denot). Contains (numbers_of v) one.0) (sym c.self.view_is) (c.requires.there one.0 one.1)))

pub take_share-share-requires : goal.take_share-share-requires
take_share-share-requires g c =
    let one = names_one c.args.event.now c.requires.on_record in
    let there = key_there c.self.inside.set.records one.0 (subst (λ (v : HeldView g.row.K.Denot g.row.D.Denot). Contains (numbers_of v) one.0) (sym c.self.view_is) (c.requires.there one.0 one.1)) in
    record { there = has_share c.self.inside.share c.self.inside.set c.self.invariant.1 (some_len c.self.inside.set.records one.0 there) }

pub keep_beside-appended-requires-clause-follows : goal.keep_beside-appended-requires-clause-follows
keep_beside-appended-requires-clause-follows g c =
    let at = (goal.at.keep_beside-appended-requires-clause-follows g c).After-is_counted in
    both_follow (done g at)

pub keep_beside-appended-requires-clause-sent : goal.keep_beside-appended-requires-clause-sent
keep_beside-appended-requires-clause-sent g c =
    let at = (goal.at.keep_beside-appended-requires-clause-sent g c).After-is_counted in
    subst (λ (n : SentCounts). BothMaySend g.K.RecordKind.rules g.B.JournalName.base (cell_view c.in-Some.pass).seen (cell_view c.in-Some.pass).owns c.deref_mut-all.result.now.seen puts_key c.in_ok-ran.ran.entry n) (sym c.counts_since-counts.ensures.sent)
    (both_send (done g at))

pub keep_beside-appended-requires-clause-counts : goal.keep_beside-appended-requires-clause-counts
keep_beside-appended-requires-clause-counts g c =
    let at = (goal.at.keep_beside-appended-requires-clause-counts g c).After-is_counted in
    both_count (done g at) c.counts_since-counts.result.share c.counts_since-counts.result.before c.counts_since-counts.result.after (λ none. is_there c.counts_since-counts.ensures.share none)
    (c.counts_since-counts.ensures.counts.0 ∙ c.tally-tally.ensures) c.counts_since-counts.ensures.counts.1

pub keep_beside-appended-requires-clause-backed : goal.keep_beside-appended-requires-clause-backed
keep_beside-appended-requires-clause-backed g c =
    let one = names_one c.args.event.now c.requires.on_record in
    let there = key_there c.self.inside.set.records one.0 (subst (λ (v : HeldView g.row.K.Denot g.row.D.Denot). Contains (numbers_of v) one.0) (sym c.self.view_is) (c.requires.there one.0 one.1)) in
    backed c.take_share-share.result c.self.inside.share c.counts_since-counts.result.share c.self.inside.set c.counts_since-counts.result.before c.take_share-share.ensures.share c.counts_since-counts.ensures.share c.self.invariant.1
    (c.counts_since-counts.ensures.counts.0 ∙ c.tally-tally.ensures) (some_len c.self.inside.set.records one.0 there)

pub keep_beside-appended-requires-clause-begins : goal.keep_beside-appended-requires-clause-begins
keep_beside-appended-requires-clause-begins g c =
    let can = can g (goal.at.keep_beside-appended-requires-clause-begins g c).After-is_counted in
    subst (λ (x : Entry). IfSome (number_given x.call) (λ number. CanBegin c.deref_mut-all.result.now number)) (sym c.in_ok-ran.ensures.entry) can

pub keep_beside-appended-requires-clause-moves : goal.keep_beside-appended-requires-clause-moves
keep_beside-appended-requires-clause-moves g c =
    let at = (goal.at.keep_beside-appended-requires-clause-moves g c).After-is_counted in
    λ log longer added. subst (λ (ls : List Live). AreMoved g.K.RecordKind.rules g.B.JournalName.base log longer ls c.run_counted.new.set.live) (sym c.in_ok-ran.ensures.before)
    (moved_beside (done g at) log longer added c.lines_tell_holders.ensures.holders c.is_sound.ensures.counted c.in_ok-ran.ensures.sound.counted)

pub invariant_of-self-2 : goal.invariant_of-self-2
invariant_of-self-2 g c =
    let at = (goal.at.invariant_of-self-2 g c).After-is_counted in
    let k = g.K.RecordKind.rules in
    let held = held g at in
    let does = c.in_ok-ran.ensures.does in
    let pass = c.keep_beside-appended.ensures.pass in
    let added = c.keep_beside-appended.ensures.added in
    let came = only g.K.RecordKind.rules g.D.Device.gives c.self.inside.set c.run_counted.new.set c.args.moment c.args.event.now c.in_ok-ran.ran.reply (world_of c.run_counted.new.buffers.store) does (there g at) c.calls_have_laws.ensures.events held.holds.shut in (
      record {
        owner = owner_on g.B.CellName.table _ _ (cell_view c.in-Some.pass) (cell_view c.keep_beside-appended.new.pass) _ (now_of c.self.inside.set) (now_of c.run_counted.new.set) held.owner (pass.0 ∙ sym held.owner.same) pass.1 came;
        devices = keeps_on g.D.Device.gives g.B.SetsName.devices c.self.inside.set c.run_counted.new.set held.devices (worked_there does.work) came;
        holds = subst (λ (x : View). Holds k (map_of k g.B.JournalName.base x.seen) (now_of c.run_counted.new.set)) (sym pass.1) (held_beside (done g at) added.0 _ added.1);
      },
      counted_then c.take_share-share.result c.self.inside.share c.counts_since-counts.result.share c.keep_beside-appended.result.share c.self.inside.set c.run_counted.new.set c.counts_since-counts.result.after c.take_share-share.ensures.share c.counts_since-counts.ensures.share c.self.invariant.1
          c.keep_beside-appended.ensures.share c.counts_since-counts.ensures.counts.1
          (as_many g.K.RecordKind.rules g.D.Device.gives c.self.inside.set c.run_counted.new.set c.args.moment c.args.event.now c.in_ok-ran.ran.reply (world_of c.run_counted.new.buffers.store) does (there g at) c.calls_have_laws.ensures.events held.holds.shut),
      none_fresh g.K.RecordKind.rules g.B.JournalName.base c.run_counted.new.set.records (watched_by c.self.inside.watched) (ap (λ (v : HeldView g.row.K.Denot g.row.D.Denot). v.watched) c.self.view_is ∙ c.requires.unwatched),
    )

pub returns-clause-serves : goal.returns-clause-serves
unfolding done
returns-clause-serves g c =
    let at = (goal.at.returns-clause-serves g c).After-is_counted in
    let k = g.K.RecordKind.rules in
    let base = g.B.JournalName.base in
    let then = watching c.run_counted.new.set (cell_view c.keep_beside-appended.new.pass).seen (watched_by c.self.inside.watched) in
    subst (λ (x : SetStore g.row.K.Denot g.row.D.Denot). Serves k g.D.Device.gives base c.args.access.now.history c.args.self.now c.args.desk.now c.args.moment c.args.event.now c.in_ok-ran.ran.reply then c.keep_beside-appended.new.desk (world_of x)) (sym c.keep_beside-appended.ensures.store)
    (subst (λ (v : HeldView g.row.K.Denot g.row.D.Denot). Serves k g.D.Device.gives base c.args.access.now.history v c.args.desk.now c.args.moment c.args.event.now c.in_ok-ran.ran.reply then c.keep_beside-appended.new.desk (world_of c.run_counted.new.buffers.store)) c.self.view_is
    (record {
      is_call = subst (λ (v : HeldView g.row.K.Denot g.row.D.Denot). no_call k (now_of v.set) c.args.event.now ≡ None) (sym c.self.view_is) c.requires.is_call;
      does = does_unwatched k g.D.Device.gives c.args.access.now.history (watched_by c.self.inside.watched) (ap (λ (v : HeldView g.row.K.Denot g.row.D.Denot). v.watched) c.self.view_is ∙ c.requires.unwatched) c.in_ok-ran.ensures.does;
      short = c.in_ok-ran.ensures.short;
      call = subst (λ (x : Entry). HasCalled k base c.args.desk.now x c.keep_beside-appended.new.desk) (sym (done g at).entry_is) c.keep_beside-appended.ensures.call;
      seen = ap (λ (v : View). v.seen) c.keep_beside-appended.ensures.pass.1;
      watched = refl;
    }))

pub returns-clause-ended : goal.returns-clause-ended
returns-clause-ended g c =
    let at = (goal.at.returns-clause-ended g c).After-is_counted in
    let k = g.K.RecordKind.rules in
    let base = g.B.JournalName.base in
    let kept = c.keep_beside-appended.ensures in
    let added = kept.added in
    let longer = c.keep_beside-appended.new.desk.seen in
    let last = noted (journalled added.1.desk added.1.call c.in_ok-ran.ran.entry) (((cell_view c.in-Some.pass).owns ++ puts_key) ++ added.1.own) in
    let ends = ended_beside (done g at) added.0 _ added.1 c.is_sound.ensures.counted in
    let counts = subst (λ (seen : List Note). AreCounted k base c.keep_beside-appended.new.all.live seen) kept.seen kept.counted.1 in
    subst (λ (x : SetStore g.row.K.Denot g.row.D.Denot). HaveEnded k base (world_of x).ended longer c.keep_beside-appended.new.buffers.ended_everywhere.items) (sym kept.store)
    (have_ended k base added.0 last c.lines_tell_holders.ensures.live c.lines_tell_holders.ensures.held (world_of c.run_counted.new.buffers.store).ended c.keep_beside-appended.new.buffers.ended_everywhere.items longer c.keep_beside-appended.new.all.live
    kept.counted.0 counts (c.calls_have_laws.ensures.sound base longer added.1.sound).2 ends kept.ended added.1.ends
    (ends_so k base c.calls_have_laws.ensures.last added.0 longer last added.1.ends added.1.sound kept.call.legal.legal))

pub returns-clause-begins : goal.returns-clause-begins
unfolding done
returns-clause-begins g c =
    let at = (goal.at.returns-clause-begins g c).After-is_counted in
    let k = g.K.RecordKind.rules in
    let base = g.B.JournalName.base in
    let also = c.deref_mut-all.result.now.seen in
    let all = c.deref_mut-all.result.now in
    let log = c.keep_beside-appended.ensures.added.0 in
    let added = c.keep_beside-appended.ensures.added.1 in
    let note = noted (journalled added.desk added.call c.in_ok-ran.ran.entry) (((cell_view c.in-Some.pass).owns ++ puts_key) ++ added.own) in
    let same = numbers_on also log puts_key added.also_goes_on (inl refl) (keyed_before log (note ∷ []) (subst (λ (l : List Note). PutsAreKeyed l) added.ends c.keep_beside-appended.ensures.call.legal.puts_keyed)) in
    if_some_then (number_begun c.args.event.now)
    (λ number can. record {
      puts = puts_view all.live all.taken all.last log;
      can = record { within = can.within; few = can.few; free = can.free; new = λ begun. can.new (subst (λ (xs : List ℕ). Contains xs number) same begun); own = can.own };
      up_to_date = up_to_date_on k c.calls_have_laws.ensures.live_lasts base also log c.keep_beside-appended.new.desk.seen note all.live all.taken all.last
          c.is_counted.ensures.table c.is_counted.ensures.counted c.is_counted.ensures.below c.is_counted.ensures.taken added.also_goes_on added.legal added.ends c.keep_beside-appended.ensures.call.legal.puts_keyed;
      before = (note, added.ends);
    })
    (can g at)
