-- An event on the records of a set, in terms of its code and the store on which it was done.
use Rattle.std.proofs.Common.{◌≡◌, ◌≢◌, ◌≤◌, ℕ, true, false, List, [], ◌∷◌, ◌++◌, refl, sym, ap, ◌∙◌, subst}
use Rattle.std.specs.FinMap.{len}
use Rattle.std.specs.Global.{Vec}
use Rattle.std.specs.Vec.{vec_capacity}
use Rattle.ioc_device.specs.declared.Ask.{Ask}
use Rattle.ioc_device.specs.declared.Answer.{Answer}
use Rattle.ioc_ledger.specs.declared.tally.Tally.{Tally}
use Rattle.ioc_ledger.specs.Requests.{Requests}
use Rattle.ioc_notify.specs.declared.live_numbers.Live.{Live}
use Rattle.ioc_notify.specs.declared.waiting_lists.Waiting.{Waiting}
use Rattle.ioc_record.specs.RecordRules.{RecordRules}
use Rattle.ioc_set_records.specs.Contents.{Records, Contents, DevicesAreOwned, BaseHasTheSame}
use Rattle.ioc_store.specs.declared.call.Call.{Call}
use Rattle.ioc_store.specs.declared.frames.Frame.{Frame}
use Rattle.ioc_store.specs.declared.notifications.Notifications.{Notifications}
use Rattle.ioc_store.specs.World.{World, IsClosed, Keeps, at, begun, begun_at}
use Rattle.ioc_store.specs.Given.{Answers, Begins, DevicesWork, calls_of, answers_of, listed}
use Rattle.ioc_process.specs.Answering.{listed-accords}
use Rattle.ioc_process.specs.Running.{CanRun}
use Rattle.ioc_process.specs.Runs.{ForAnswers}
use Rattle.ioc_events.specs.declared.event.Event.{Event}
use Rattle.ioc_events.specs.declared.event.EventEntry.{EventEntry}
use Rattle.ioc_events.specs.declared.reply.Reply.{Reply}
use Rattle.ioc_events.specs.declared.reply.Reply.TheVariants.{Notify as Notify-reply}
use Rattle.ioc_events.specs.Events.{Tells}
use Rattle.ioc_events.specs.Step.{Stepped, stepped}
use Rattle.ioc_events.specs.StepRules.{Step}
use Rattle.ioc_events.specs.EventReplay.{Replay, at_the_end, and_then}
use Rattle.ioc_events.specs.Holding.{IsCounted}
use Rattle.ioc_set.specs.declared.set_store.SetStore.{SetStore}
use Rattle.ioc_set.specs.SetStore.{world_of, given_of}
use Rattle.ioc_set.specs.Attached.{AttachedGives, attached_in}
use Rattle.ioc_set.specs.Puts.{Puts, AreNone, now_with, is_put_with_notification}
use Rattle.ioc_set.specs.Resting.{resting}
use Rattle.ioc_set.specs.Doing.{with_kept, Did}
use Rattle.ioc_set.proofs.AttachedLaws.{base_kept, worked}

-- An event begins on a store that has these records and these puts with notification.
pub starts : {R D : Type 0} (s : SetStore R D) (rs : Records R) (live : List Live) (waiting : List Waiting) (moment : ℕ) → s.members.records ≡ rs → (world_of s).live ≡ live → (world_of s).waiting ≡ waiting
    → begun_at moment (world_of s) ≡ begun_at moment (resting rs live waiting)
unfolding begun_at begun
starts s rs live waiting moment r l w = λ i. record { records = r i; moment = moment; calls = []; outbox = []; dropped = 0; live = l i; ended = []; waiting = w i }

pub can_run_begun : {R : Type 0} (k : RecordRules R) (rs : Records R) (live : List Live) (waiting : List Waiting) (moment : ℕ) (frames : Vec Frame)
    → IsClosed k (resting rs live waiting) → frames.items ≡ [] → len rs ≤ vec_capacity frames → CanRun k (begun_at moment (resting rs live waiting)) frames
unfolding at begun_at begun
can_run_begun k rs live waiting moment frames c empty room = record { closed = record { closed = c.closed }; empty = empty; room = room }

no_calls : {R : Type 0} (moment : ℕ) (w : World R) → (begun_at moment w).calls ≡ []
unfolding begun_at begun
no_calls moment w = refl

at_moment : {R : Type 0} (moment : ℕ) (w : World R) → (begun_at moment w).moment ≡ moment
unfolding begun_at
at_moment moment w = refl

module _ {R D : Type 0} (k : RecordRules R) (gives : D → Ask → ℕ → Answer → D → Type 0)
    (allowed : (answers : Answers) (w : World R) (event : Event) → Step k answers w event (stepped k answers w event).world (stepped k answers w event).reply (stepped k answers w event).requests)
    (stays : (w after : World R) (entry : EventEntry) → Replay k w (entry ∷ []) after → IsCounted k w → w.live ≡ [] → ((n : ℕ) → entry.reply ≢ Notify-reply n) → (after.live ≡ []) × (after.waiting ≡ []))
    (begin : (answers : Answers) (w after : World R) (event : Event) (reply : Reply) (requests : Requests) (n : ℕ) → Step k answers w event after reply requests → reply ≡ Notify-reply n → is_put_with_notification event ≡ true)
    (before : Contents R D) (was : Puts) (t counts : Tally) (s s' : SetStore R D) (event : Event) (reply : Reply) (moment : ℕ) (answers : List Answer)
    (start : world_of s ≡ begun_at moment (resting before.records was.live was.waiting))
    (tells : ForAnswers (given_of s') (λ given. Tells (world_of s) (world_of s') reply t counts event (stepped k given (world_of s) event)))
    (copied : answers ≡ answers_of (calls_of s'.event.calls)) where
  abbrev w : World R
  w = resting before.records was.live was.waiting

  abbrev w0 : World R
  w0 = begun_at moment w

  abbrev done : Stepped R
  done = stepped k (listed answers) w0 event

  told : Tells w0 (world_of s') reply t counts event (stepped k (listed answers) w0 event)
  told =
      let calls = calls_of s'.event.calls in
      subst (λ (w : World R). Tells w (world_of s') reply t counts event (stepped k (listed answers) w event)) start
      (subst (λ (l : List Answer). Tells (world_of s) (world_of s') reply t counts event (stepped k (listed l) (world_of s) event)) (sym copied) (tells (listed (answers_of calls)) (listed-accords calls)))

  step : Step k (listed answers) w0 event done.world reply done.requests
  step = subst (λ (r : Reply). Step k (listed answers) w0 event done.world r done.requests) (sym told.reply) (allowed (listed answers) w0 event)

  used : answers_of done.world.calls ≡ answers
  used = ap (λ (w : World R). answers_of w.calls) (sym told.world) ∙ sym copied

  none : (is_put_with_notification event ≡ true → ⊥) → IsCounted k w → was.live ≡ [] → (done.world.live ≡ []) × (done.world.waiting ≡ [])
  none other counted nobody =
      let entry : EventEntry = record { moment = moment; event = event; answers = answers; reply = reply } in
      stays w done.world entry (and_then step used at_the_end) counted nobody
      (λ n is. other (begin (listed answers) w0 done.world event reply done.requests n step is))

  -- If no room was reserved for puts with notification, none is live afterwards.
  pub none_here : (is_put_with_notification event ≡ true → was.has_room ≡ true) → (was.has_room ≡ false → AreNone was) → IsCounted k w → was.has_room ≡ false → ((world_of s').live ≡ []) × ((world_of s').waiting ≡ [])
  none_here room roomless counted without =
      let n = none (λ put. let z : false ≡ true = sym without ∙ room put in cc) counted (roomless without).0 in
      (ap (λ (w : World R). w.live) told.world ∙ n.0, ap (λ (w : World R). w.waiting) told.world ∙ n.1)

  module _ (held : s.members ≡ before)
      (keeps : Keeps k (world_of s) (world_of s')) (begins : Begins (AttachedGives {R = R} gives) (given_of s) (given_of s'))
      (owned : DevicesAreOwned before) (same : BaseHasTheSame before) (after : Contents R D) (now : after ≡ s'.members) (owned_then : DevicesAreOwned after) (same_then : BaseHasTheSame after)
      (lent is : Puts) (was_lent : lent ≡ now_with was [] []) (taken : is ≡ now_with lent (world_of s').live (world_of s').waiting)
      (left : Contents R D) (back : Notifications) (ended : back.ended.items ≡ (world_of s').ended) where
    work : DevicesWork (AttachedGives {R = R} gives) (attached_in before) moment done.world.calls (attached_in after)
    work =
        let calls : begins.more ≡ done.world.calls =
        ap (λ (l : List Call). l ++ begins.more) (sym (ap (λ (w : World R). w.calls) start ∙ no_calls moment w)) ∙ sym begins.calls ∙ ap (λ (w : World R). w.calls) told.world in
        let at : (given_of s).moment ≡ moment = ap (λ (w : World R). w.moment) start ∙ at_moment moment w in
        subst (λ (c : Contents R D). DevicesWork (AttachedGives {R = R} gives) (attached_in c) moment done.world.calls (attached_in after)) held
        (subst (λ (c : Contents R D). DevicesWork (AttachedGives {R = R} gives) (attached_in s.members) moment done.world.calls (attached_in c)) (sym now)
        (subst (λ (m : ℕ). DevicesWork (AttachedGives {R = R} gives) (attached_in s.members) m done.world.calls (attached_in s'.members)) at
        (subst (λ (l : List Call). DevicesWork (AttachedGives {R = R} gives) (attached_in s.members) (given_of s).moment l (attached_in s'.members)) calls begins.work)))

    -- The state of the event, with what the set has taken back.
    same_world : with_kept after.records is.live is.waiting (world_of (record { members = left; event = record s'.event { follow_ups = record s'.event.follow_ups { notifications = back } } })) ≡ world_of s'
    same_world = λ i. record {
      records = (now i).records;
      moment = (world_of s').moment;
      calls = (world_of s').calls;
      outbox = (world_of s').outbox;
      dropped = (world_of s').dropped;
      live = (taken i).live;
      ended = ended i;
      waiting = (taken i).waiting;
    }

    pub did : Did k gives before was t (record { moment = moment; event = event; answers = answers; reply = reply }) after is counts (record { members = left; event = record s'.event { follow_ups = record s'.event.follow_ups { notifications = back } } })
    did = record {
      reply = sym told.reply;
      answers = used;
      records = ap (λ (c : Contents R D). c.records) now ∙ ap (λ (w : World R). w.records) told.world;
      base = base_kept gives before after work;
      puts = taken ∙ (λ i. now_with (was_lent i) (told.world i).live (told.world i).waiting);
      tally = told.tally;
      work = worked gives before after work owned same owned_then same_then;
      keeps = subst (λ (w : World R). Keeps k w done.world) start (subst (λ (w : World R). Keeps k (world_of s) w) told.world keeps);
      left = same_world ∙ told.world;
    }
