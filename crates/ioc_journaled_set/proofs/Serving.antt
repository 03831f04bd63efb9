-- What a set knows after an event of its own.
use Rattle.std.proofs.Common.{◌≡◌, ◌↔◌, ℕ, Bool, true, false, cond, List, [], ◌∷◌, ◌++◌, length, Option, Some, None, refl, sym, ap, ap₂, ◌∙◌, subst, zero, suc, arith}
use Rattle.std.specs.Prelude.{◌==◌, Contains, is_some, Result, Ok}
use Rattle.ioc_values.specs.declared.error.IocError.{IocError}
use Rattle.std.specs.Ordering.{nat_cmp}
use Rattle.std.specs.FinMap.{FinMap, get, len}
use Rattle.std.specs.Option.{IfSome}
use Rattle.atomic_table.specs.Seated.{TableId}
use Rattle.ioc_device.specs.declared.Ask.{Ask}
use Rattle.ioc_device.specs.declared.Answer.{Answer}
use Rattle.ioc_ledger.specs.Shared.{ShareView}
use Rattle.ioc_ledger.specs.declared.tally.Tally.{Tally}
use Rattle.ioc_fields.specs.declared.field_no.FieldNo.{FieldNo}
use Rattle.ioc_record.specs.RecordRules.{RecordRules}
use Rattle.ioc_store.specs.World.{World, Has, IsClosed, at, begun, begun_at, has_place}
use Rattle.ioc_store.specs.Given.{answers_of, listed}
use Rattle.ioc_events.specs.declared.event.Event.{Event}
use Rattle.ioc_events.specs.declared.event.Event.TheVariants.{Process, Put, Complete, Notify, Cancel}
use Rattle.ioc_events.specs.declared.event.Call.TheVariants as calling
use Rattle.ioc_events.specs.declared.event.EventEntry.{EventEntry}
use Rattle.ioc_events.specs.declared.event.Entry.{Entry}
use Rattle.ioc_events.specs.declared.reply.Reply.{Reply}
use Rattle.ioc_events.specs.Holding.{IsCounted, IsHeld, holders}
use Rattle.ioc_events.specs.Local.{AskAlike}
use Rattle.ioc_events.specs.Calls.{called}
use Rattle.ioc_events.specs.Step.{names, shown, tallied}
use Rattle.ioc_events.specs.StepRules.{KeepsRecords}
use Rattle.ioc_journal.specs.declared.entry.Note.{Note}
use Rattle.ioc_journal.specs.declared.cell.View.{View}
use Rattle.ioc_journal.specs.Key.{Key, Has as Has_key}
use Rattle.ioc_journal.specs.Line.{Continues, holder, noted}
use Rattle.ioc_journal.specs.KeyLaws.{has_left}
use Rattle.ioc_journal.specs.Legal.{AreLiveAlike, IsLegal, IsSound, key_of, notifications_key, map_of, done}
use Rattle.ioc_journal.specs.Counting.{once_in, sent_counts, sent_in, sent_by, tallied_by, MaySend, MayCount, DoesCount}
use Rattle.ioc_journal.specs.CountLaws.{PartsCountAlike}
use Rattle.ioc_store.specs.declared.outbox.OutboxItem.{OutboxItem}
use Rattle.ioc_journal.specs.Covering.{Holds, Cover, CancelsWithin, AreHeldAlike, IsOf, IsDone}
use Rattle.ioc_journal.specs.Laws.{Lasts, OneMore, HoldersMove, MovesAlike, EndsOver, Asks, GoesOn}
use Rattle.ioc_journal.specs.EventLaws.{EventLaws}
use Rattle.ioc_journal.specs.Account.{journalled, number_begun, AreRecords, IsHolder, MayFollow, Added}
use Rattle.ioc_journaled_set.specs.CallLaws.{CallLaws}
use Rattle.ioc_journaled_set.specs.Holding.{is_on_record, entry_of_event, IsOwner}
use Rattle.ioc_journaled_set.specs.Puts.{told_at}
use Rattle.ioc_set.specs.SetState.{SetState, NoneIsLive, now_of, folded, done_by, held_after}
use Rattle.ioc_set.specs.Doing.{is_full, is_ordinary, with_place, Does}

pub one_there : {X : Type 0} (x y : X) → Contains (x ∷ []) y → x ≡ y
one_there x y (zero, lt, is) = is
one_there x y (suc i, lt, is) = absurd (omega arith)

pub nothing_there : (y : ℕ) → Contains [] y → ⊥
nothing_there y c = let l = c.1 in omega arith

false_true : false ≡ true → ⊥
false_true e = cc

-- An ordinary event names a record.
pub names_one : (event : Event) → is_on_record event ≡ true → (n : ℕ) × Contains (names event) n
names_one (Process s) is = (s, (zero, omega arith, refl))
names_one (Put s field given) is = (s, (zero, omega arith, refl))
names_one (Complete s n x) is = (s, (zero, omega arith, refl))
names_one (Notify s n field given) is = (s, (zero, omega arith, refl))
names_one (Cancel n) is = absurd (false_true is)

-- An ordinary event is one on a record.
pub ordinary_on : (event : Event) → is_ordinary event ≡ true → is_on_record event ≡ true
ordinary_on (Process s) is = refl
ordinary_on (Put s field given) is = refl
ordinary_on (Complete s n x) is = refl
ordinary_on (Notify s n field given) is = absurd (false_true is)
ordinary_on (Cancel n) is = absurd (false_true is)

-- What follows for the number that there may be.
pub if_some_then : {A : Type 0} {P Q : A → Type 0} (o : Option A) → ((a : A) → P a → Q a) → IfSome o P → IfSome o Q
if_some_then None f p = tt
if_some_then (Some a) f p = f a p

-- An ordinary event begins no put with notification.
pub begins_no_put : (event : Event) → is_ordinary event ≡ true → number_begun event ≡ None
begins_no_put (Process s) is = refl
begins_no_put (Put s field given) is = refl
begins_no_put (Complete s n x) is = refl
begins_no_put (Notify s n field given) is = absurd (false_true is)
begins_no_put (Cancel n) is = refl

-- A pass that has seen more of the list still owns the keys of the records that were there.
pub owner_on : {R : Type 0} (table id id' : TableId) (v v' : View) (seen : List Note) (w w' : World R) → IsOwner table id v w → id' ≡ id → v' ≡ holder seen v.owns → ((n : ℕ) → Has w' n → Has w n) → IsOwner table id' v' w'
owner_on table id id' v v' seen w w' owner same is only = record {
  same = same ∙ owner.same;
  holder = subst (λ (x : View). IsHolder x) (sym is) refl;
  records = subst (λ (x : View). AreRecords x.owns) (sym is) owner.records;
  covers = subst (λ (x : View). Cover x.owns w') (sym is) (λ r s. owner.covers r (only r s));
}

module _ {R : Type 0} (k : RecordRules R) where
  pub no_cancel : (m v : World R) (event : Event) → is_on_record event ≡ true → (reply : Reply) → CancelsWithin k m v (calling.Event event reply)
  no_cancel m v (Process s) is reply = tt
  no_cancel m v (Put s field given) is reply = tt
  no_cancel m v (Complete s n x) is reply = tt
  no_cancel m v (Notify s n field given) is reply = tt
  no_cancel m v (Cancel n) is reply = absurd (false_true is)

  -- An event on a record asks alike in two worlds if the put with notification that it may begin
  -- has a place in both or in none.
  pub asks_alike : (w v : World R) (event : Event) → is_on_record event ≡ true → IfSome (number_begun event) (λ number. has_place w number ≡ has_place v number) → AskAlike w v event
  asks_alike w v (Process s) is same = tt
  asks_alike w v (Put s field given) is same = tt
  asks_alike w v (Complete s n x) is same = tt
  asks_alike w v (Notify s n field given) is same = same
  asks_alike w v (Cancel n) is same = absurd (false_true is)

  -- An ordinary event asks alike in any two worlds.
  pub asks_nothing : (w v : World R) (event : Event) → is_ordinary event ≡ true → AskAlike w v event
  asks_nothing w v event is = asks_alike w v event (ordinary_on event is) (subst (λ (o : Option ℕ). IfSome o (λ number. has_place w number ≡ has_place v number)) (sym (begins_no_put event is)) tt)

  closed_begun : (w : World R) (moment : ℕ) → IsClosed k w → IsClosed k (begun_at moment w)
  unfolding at begun_at begun
  closed_begun w moment c = record { closed = c.closed }

  there_begun : (w : World R) (moment n : ℕ) → Has (begun_at moment w) n → Has w n
  unfolding begun_at begun
  there_begun w moment n h = h

  -- What a set knows of a longer list without its keys.
  module _ (lasts : Lasts k) (base v : World R) (seen : List Note) (owned : List Key) (covers : Cover owned v) (holds : Holds k (map_of k base seen) v) where
    pub holds_on : (log : List Note) → Continues seen owned log → IsLegal k base log → Holds k (map_of k base log) v
    holds_on log go legal =
        subst (λ (l : List Note). Holds k (map_of k base l) v) (sym go.1)
        (lasts base v seen go.0 holds (λ r s. go.2 (key_of r) (covers r s)) (subst (λ (l : List Note). IsLegal k base l) go.1 legal))

  live_alike : (v w : World R) → v.live ≡ w.live → AreLiveAlike v w
  live_alike v w same number = rw same refl

  counted_begun : (w : World R) (moment : ℕ) → IsCounted k w → IsCounted k (begun_at moment w)
  unfolding at begun_at begun holders
  counted_begun w moment c = record {
    closed = closed_begun w moment c.closed;
    few = c.few;
    counted = record { counted = c.counted.counted; live = c.counted.live; waits_once = c.counted.waits_once };
  }

  placed_tally : {D : Type 0} (full : Bool) (h : SetState R D) → (cond full (folded h) h).tally ≡ h.tally
  placed_tally true h = refl
  placed_tally false h = refl

  -- With a share, an event counts what has moved the counts of its set on.
  pub counts_with : (m : World R) (n : Note) (share : Option ShareView) (before then : Tally) → (share ≡ None → ⊥) → then ≡ tallied_by k before m n → DoesCount k m n share before then
  counts_with m n None before then there is = absurd (there refl)
  counts_with m n (Some s) before then there is = is

  placed_now : {D : Type 0} (full : Bool) (h : SetState R D) → now_of (cond full (folded h) h) ≡ now_of h
  placed_now true h = refl
  placed_now false h = refl

module _ {R D : Type 0} {most : ℕ} (k : RecordRules R) (gives : D → Ask → ℕ → Answer → D → Type 0) (h h' : SetState R D) (moment : ℕ) (event : Event) (reply : Reply) (come_to : World R)
    (does : Does k gives most h moment event reply h' come_to) (there : (n : ℕ) → Contains (names event) n → Has (now_of h) n) where
  abbrev e : EventEntry
  e = does.entry

  abbrev made : Entry
  made = entry_of_event does.entry

  abbrev after : World R
  after = (done_by k (now_of h) e).world

  was_now : now_of (with_place most h) ≡ now_of h
  was_now = placed_now k (is_full most (length h.history)) h

  used : answers_of after.calls ≡ e.answers
  used = subst (λ (w : World R). answers_of (done_by k w e).world.calls ≡ e.answers) was_now does.tells.answers

  replied : (done_by k (now_of h) e).reply ≡ e.reply
  replied = subst (λ (w : World R). (done_by k w e).reply ≡ e.reply) was_now does.tells.reply

  -- The entry has the answers of devices that the event left.
  pub entry_is : (answers : List Answer) → answers ≡ answers_of come_to.calls → made ≡ record { moment = moment; call = calling.Event event reply; answers = answers }
  entry_is answers copied =
      let told : e.answers ≡ answers = sym used ∙ ap (λ (w : World R). answers_of w.calls) (sym does.left) ∙ sym copied in
      λ i. record { moment = does.moment i; call = calling.Event (does.event i) (does.answer i); answers = told i }

  now_then : now_of h' ≡ now_of (held_after k (with_place most h) e h'.devices)
  now_then = ap (λ (z : SetState R D). now_of z) does.after

  pub records_then : (now_of h').records ≡ after.records
  records_then = ap (λ (w : World R). w.records) now_then ∙ ap (λ (w : World R). (done_by k w e).world.records) was_now

  pub waiting_then : (now_of h').waiting ≡ after.waiting
  waiting_then = ap (λ (w : World R). w.waiting) now_then ∙ ap (λ (w : World R). (done_by k w e).world.waiting) was_now

  pub live_then : (now_of h').live ≡ after.live
  live_then = ap (λ (w : World R). w.live) now_then ∙ ap (λ (w : World R). (done_by k w e).world.live) was_now

  -- What has ended on the set is left in the buffers.
  pub ended_then : come_to.ended ≡ after.ended
  ended_then = ap (λ (w : World R). w.ended) does.left

  -- What was sent on the set is left in the buffers.
  pub outbox_then : come_to.outbox ≡ after.outbox
  outbox_then = ap (λ (w : World R). w.outbox) does.left

  dropped_then : come_to.dropped ≡ after.dropped
  dropped_then = ap (λ (w : World R). w.dropped) does.left

  -- The counts of the set are those before with what the event counts.
  pub tally_then : h'.tally ≡ tallied h.tally (begun_at e.moment (now_of h)) e.event (done_by k (now_of h) e)
  tally_then =
      ap (λ (z : SetState R D). z.tally) does.after
      ∙ ap (λ (t : Tally). tallied t (begun_at e.moment (now_of (with_place most h))) e.event (done_by k (now_of (with_place most h)) e)) (placed_tally k (is_full most (length h.history)) h)
      ∙ ap (λ (w : World R). tallied h.tally (begun_at e.moment w) e.event (done_by k w e)) was_now

  -- If no put with notification is live before and after, no record is part of one.
  pub none_held : EventLaws k → IsCounted k (now_of h) → NoneIsLive h → NoneIsLive h' → AreHeldAlike k (now_of h) after
  unfolding called
  none_held laws before none none_then number =
      let w = begun_at e.moment (now_of h) in
      let d = called k (listed e.answers) w made.call in
      let then = laws.counted (listed e.answers) w d.world d.call d.requests (laws.allowed (listed e.answers) w made.call) (counted_begun k (now_of h) e.moment before) in
      sym (before.counted.counted number) ∙ live_alike k (now_of h) after (none.0 ∙ sym none_then.0 ∙ live_then) number ∙ then.counted.counted number

  -- The event, noted with these keys, follows a legal list after which the set is held: the set is
  -- held after it, and the counts of all records change as those of the set do.
  module _ (one_more : OneMore k) (moves : HoldersMove k) (base : World R) (log : List Note) (desk call : ℕ) (keys : List Key) (sound : IsSound k base) (legal : IsLegal k base log)
      (holds : Holds k (map_of k base log) (now_of h)) (covers : Cover keys (now_of h)) (cancels : (r : Reply) → CancelsWithin k (map_of k base log) (now_of h) (calling.Event event r))
      (asks : AskAlike (begun_at moment (now_of h)) (begun_at moment (map_of k base log)) event) (same : (Has_key notifications_key keys → ⊥) → AreHeldAlike k (now_of h) after) where
    abbrev note : Note
    note = noted (journalled desk call made) keys

    is_of : IsOf k (map_of k base log) (now_of h) note
    unfolding done called
    is_of = record {
      named = λ r c. there r (subst (λ (x : Event). Contains (names x) r) does.event c);
      cancels = subst (λ (x : Event). CancelsWithin k (map_of k base log) (now_of h) (calling.Event x e.reply)) (sym does.event) (cancels e.reply);
      asks = subst (λ (t : ℕ). AskAlike (begun_at t (now_of h)) (begun_at t (map_of k base log)) e.event) (sym does.moment) (subst (λ (x : Event). AskAlike (begun_at moment (now_of h)) (begun_at moment (map_of k base log)) x) (sym does.event) asks);
      covers = covers;
      live = same;
    }

    is_done : IsDone k (now_of h) note after
    unfolding done called
    is_done = record { world = refl; reply = ap (λ (r : Reply). calling.Event e.event r) replied; used = used }

    pub noted_on : GoesOn k base log note (λ m. Holds k m after)
    noted_on = one_more base (now_of h) after log note sound legal holds is_of is_done

    pub moved_on : MovesAlike k (map_of k base log) (map_of k base (log ++ note ∷ [])) (now_of h) after
    moved_on = moves base (now_of h) after log note sound legal holds is_of is_done

    -- The event sends and drops as much among all records as on the set.
    pub sent_on : PartsCountAlike k → sent_in come_to ≡ sent_by k (map_of k base log) note
    unfolding done called
    sent_on law = ap₂ (λ (items : List OutboxItem) (dropped : ℕ). sent_counts (length (once_in items)) dropped) outbox_then dropped_then ∙ sym (law base (now_of h) log note sound legal holds is_of).sent

    -- The event counts as much among all records as on the set.
    pub counted_on : PartsCountAlike k → h'.tally ≡ tallied_by k h.tally (map_of k base log) note
    unfolding done called tallied
    counted_on law = tally_then ∙ sym ((law base (now_of h) log note sound legal holds is_of).tally h.tally)

    -- What has ended among all records has ended on the set, and no record is part of it.
    pub ended_on : EndsOver k → IsCounted k (now_of h) → (n : ℕ) → Contains (map_of k base (log ++ note ∷ [])).ended n ↔ (Contains after.ended n × (IsHeld k (map_of k base (log ++ note ∷ [])) n → ⊥))
    ended_on ends counted n = ends base (now_of h) after log note sound legal holds is_of is_done counted n

  keeps_records : EventLaws k → IsClosed k (now_of h) → KeepsRecords (begun_at e.moment (now_of h)) after
  unfolding called
  keeps_records laws shut =
      let w = begun_at e.moment (now_of h) in
      let d = called k (listed e.answers) w made.call in
      laws.kept (listed e.answers) w d.world d.call d.requests (laws.allowed (listed e.answers) w made.call) (closed_begun k (now_of h) e.moment shut)

  -- The event adds no record.
  pub only : EventLaws k → IsClosed k (now_of h) → (n : ℕ) → Has (now_of h') n → Has (now_of h) n
  only laws shut n has =
      there_begun k (now_of h) e.moment n ((keeps_records laws shut).only n (subst (λ (rs : FinMap nat_cmp R). is_some (get rs n) ≡ true) records_then has))

  -- The set has as many records as before.
  pub as_many : EventLaws k → IsClosed k (now_of h) → len h'.records ≡ len h.records
  unfolding begun_at begun
  as_many laws shut = ap (λ (rs : FinMap nat_cmp R). len rs) records_then ∙ (keeps_records laws shut).count

-- An event was done on a set. It asks nothing of all puts with notification, and leaves the counts
-- of the set as they were.
module _ {R D : Type 0} (k : RecordRules R) (gives : D → Ask → ℕ → Answer → D → Type 0) (most : ℕ) (h h' : SetState R D) (moment : ℕ) (event : Event) (reply : Reply) (come_to base : World R) (seen : List Note) (owned : List Key) (entry : Entry) where
  pub record IsDoneAlone : Type 0 where
    pub does : Does k gives most h moment event reply h' come_to
    pub there : (n : ℕ) → Contains (names event) n → Has (now_of h) n
    pub laws : CallLaws k
    pub ordinary : is_ordinary event ≡ true
    pub same : AreHeldAlike k (now_of h) (done_by k (now_of h) does.entry).world
    pub covers : Cover owned (now_of h)
    pub holds : Holds k (map_of k base seen) (now_of h)
    pub entry_is : entry_of_event does.entry ≡ entry

module _ {R D : Type 0} {k : RecordRules R} {gives : D → Ask → ℕ → Answer → D → Type 0} {most : ℕ} {h h' : SetState R D} {moment : ℕ} {event : Event} {reply : Reply} {come_to base : World R} {seen : List Note} {owned : List Key} {entry : Entry}
    (d : IsDoneAlone k gives most h h' moment event reply come_to base seen owned entry) where
  abbrev alone : (desk call : ℕ) → List Key → Note
  alone desk call own = noted (journalled desk call (entry_of_event d.does.entry)) (owned ++ own)

  module _ (log : List Note) (desk call : ℕ) (own : List Key) (sound : IsSound k base) (go : Continues seen owned log) (legal : IsLegal k base log) where
    held_on : Holds k (map_of k base log) (now_of h)
    held_on = holds_on k d.laws.lasts base (now_of h) seen owned d.covers d.holds log go legal

    covers_on : Cover (owned ++ own) (now_of h)
    covers_on r s = has_left (key_of r) owned own (d.covers r s)

    goes_on : GoesOn k base log (alone desk call own) (λ m. Holds k m (done_by k (now_of h) d.does.entry).world)
    goes_on =
        noted_on k gives h h' moment event reply come_to d.does d.there d.laws.one_more d.laws.moves base log desk call (owned ++ own) sound legal held_on covers_on
        (no_cancel k (map_of k base log) (now_of h) event (ordinary_on event d.ordinary)) (asks_nothing k (begun_at moment (now_of h)) (begun_at moment (map_of k base log)) event d.ordinary) (λ out. d.same)

  -- The event may follow any legal list.
  pub may_follow : MayFollow k base seen owned entry
  may_follow = subst (λ (x : Entry). MayFollow k base seen owned x) d.entry_is (λ log desk call own sound go legal. (goes_on log desk call own sound go legal).legal)

  -- The event sends and drops as much after any legal list as on the set.
  pub may_send : MaySend k base seen owned entry (sent_in come_to)
  may_send = subst (λ (x : Entry). MaySend k base seen owned x (sent_in come_to)) d.entry_is
      (λ log desk call own sound go legal.
      sent_on k gives h h' moment event reply come_to d.does d.there d.laws.one_more d.laws.moves base log desk call (owned ++ own) sound legal (held_on log desk call own sound go legal) (covers_on log desk call own sound go legal)
      (no_cancel k (map_of k base log) (now_of h) event (ordinary_on event d.ordinary)) (asks_nothing k (begun_at moment (now_of h)) (begun_at moment (map_of k base log)) event d.ordinary) (λ out. d.same) d.laws.counts)

  -- The event counts as much after any legal list as on the set.
  pub may_count : (share : Option ShareView) (before then : Tally) → (share ≡ None → ⊥) → before ≡ h.tally → then ≡ h'.tally → MayCount k base seen owned entry share before then
  may_count share before then there was now = subst (λ (x : Entry). MayCount k base seen owned x share before then) d.entry_is
      (λ log desk call own sound go legal.
      counts_with k (map_of k base log) (alone desk call own) share before then there
      (now
      ∙ counted_on k gives h h' moment event reply come_to d.does d.there d.laws.one_more d.laws.moves base log desk call (owned ++ own) sound legal (held_on log desk call own sound go legal) (covers_on log desk call own sound go legal)
      (no_cancel k (map_of k base log) (now_of h) event (ordinary_on event d.ordinary)) (asks_nothing k (begun_at moment (now_of h)) (begun_at moment (map_of k base log)) event d.ordinary) (λ out. d.same) d.laws.counts
      ∙ ap (λ (t : Tally). tallied_by k t (map_of k base log) (alone desk call own)) (sym was)))

  module _ (log longer : List Note) (added : Added k base seen owned entry log longer) where
    as_done : Added k base seen owned (entry_of_event d.does.entry) log longer
    as_done = subst (λ (x : Entry). Added k base seen owned x log longer) (sym d.entry_is) added

    -- If nothing has ended on the set, nothing has among all records.
    pub none_ended : IsCounted k (now_of h) → come_to.ended ≡ [] → (n : ℕ) → Contains (map_of k base longer).ended n → ⊥
    none_ended counted none n has =
        let a = as_done in
        let over =
        ended_on k gives h h' moment event reply come_to d.does d.there d.laws.one_more d.laws.moves base log a.desk a.call (owned ++ a.own) a.sound a.legal (held_on log a.desk a.call a.own a.sound a.goes_on a.legal)
        (covers_on log a.desk a.call a.own a.sound a.goes_on a.legal) (no_cancel k (map_of k base log) (now_of h) event (ordinary_on event d.ordinary))
        (asks_nothing k (begun_at moment (now_of h)) (begun_at moment (map_of k base log)) event d.ordinary) (λ out. d.same) d.laws.over counted n in
        let here = (over.0 (subst (λ (l : List Note). Contains (map_of k base l).ended n) a.ends has)).0 in
        nothing_there n (subst (λ (ls : List ℕ). Contains ls n) (sym (ended_then k gives h h' moment event reply come_to d.does d.there) ∙ none) here)

    -- The set is held after the event.
    pub held_then : Holds k (map_of k base longer) (now_of h')
    held_then =
        let a = as_done in
        let after = (done_by k (now_of h) d.does.entry).world in
        let known = (goes_on log a.desk a.call a.own a.sound a.goes_on a.legal).known in
        d.laws.alike (map_of k base longer) after (now_of h') (subst (λ (l : List Note). Holds k (map_of k base l) after) (sym a.ends) known)
        (records_then k gives h h' moment event reply come_to d.does d.there) (waiting_then k gives h h' moment event reply come_to d.does d.there)

-- A get on a held set.
module _ {R : Type 0} (k : RecordRules R) (lasts : Lasts k) (asks : Asks k) (base v : World R) (moment s : ℕ) (field : FieldNo) (text : List ℕ)
    (answer : shown k v s field ≡ Ok text) (there : Has v s)
    (seen : List Note) (owned : List Key) (covers : Cover owned v) (holds : Holds k (map_of k base seen) v) where
  abbrev pub got : Entry
  got = told_at moment (calling.Get s field (Ok text))

  told : (called k (listed []) v got.call).call ≡ got.call
  unfolding called
  told = ap (λ (t : Result (List ℕ) IocError). calling.Get s field t) answer

  get_goes_on : (log : List Note) (desk number : ℕ) (own : List Key) → IsSound k base → Continues seen owned log → IsLegal k base log
      → GoesOn k base log (noted (journalled desk number got) (owned ++ own)) (λ m. Holds k m v)
  get_goes_on log desk number own sound go legal =
      asks base v log desk number moment got.call (listed []) (owned ++ own) refl told sound legal (holds_on k lasts base v seen owned covers holds log go legal)
      (λ r c. subst (λ (n : ℕ). Has v n) (one_there s r c) there) tt (λ r h. has_left (key_of r) owned own (covers r h))

  pub get_may_follow : (entry : Entry) → got ≡ entry → MayFollow k base seen owned entry
  get_may_follow entry is = subst (λ (x : Entry). MayFollow k base seen owned x) is (λ log desk number own sound go legal. (get_goes_on log desk number own sound go legal).legal)

  pub held_after_get : (entry : Entry) → got ≡ entry → (log longer : List Note) → Added k base seen owned entry log longer → Holds k (map_of k base longer) v
  held_after_get entry is log longer added =
      let a = subst (λ (x : Entry). Added k base seen owned x log longer) (sym is) added in
      subst (λ (l : List Note). Holds k (map_of k base l) v) (sym a.ends) (get_goes_on log a.desk a.call a.own a.sound a.goes_on a.legal).known
