-- The invariant of a lock set, after an event.
use Rattle.std.proofs.Common.{◌≡◌, ℕ, ◌<◌, ◌+◌, Option, Some, None, false, true, List, [], ◌∷◌, ◌++◌, length, refl, sym, ap, ◌∙◌, subst, arith}
use Rattle.std.specs.Prelude.{IsSome, Bool, if◌then◌else◌, unwrap_or}
use Rattle.std.specs.Option.{option_map}
use Rattle.std.specs.FinMap.{get}
use Rattle.std.proofs.lemmas.List.{length_push}
use Rattle.ioc_dbcommon.specs.Links.{named_by_all}
use Rattle.ioc_ledger.specs.declared.tally.Tally.{Tally}
use Rattle.ioc_ledger.specs.Requests.{Requests, Fits, AddsUp, CountsEach, counted, counted_started, counted_completion}
use Rattle.ioc_notify.specs.declared.live_numbers.Live.{Live}
use Rattle.ioc_notify.specs.declared.waiting_lists.Waiting.{Waiting}
use Rattle.ioc_record.specs.RecordRules.{RecordRules, targets}
use Rattle.ioc_set_records.specs.Contents.{Records, Devices}
use Rattle.ioc_set_records.specs.Joined.{Links, links_of, IsPart}
use Rattle.ioc_store.specs.World.{World, IsClosed, Keeps, SameLinks, at, begun, begun_at}
use Rattle.ioc_store.specs.Given.{Answers, answers_of, later_among, listed}
use Rattle.ioc_process.specs.Rules.{IsSettled}
use Rattle.ioc_events.specs.declared.event.Event.{Event}
use Rattle.ioc_events.specs.declared.event.EventEntry.{EventEntry}
use Rattle.ioc_events.specs.declared.reply.Reply.{Reply}
use Rattle.ioc_events.specs.Step.{Stepped, stepped, tallied, completes, calls_since}
use Rattle.ioc_events.specs.StepRules.{Step}
use Rattle.ioc_events.specs.EventReplay.{Replay, at_the_end, and_then}
use Rattle.ioc_events.specs.Starting.{NoneReady, is_ready}
use Rattle.ioc_events.specs.Holding.{IsCounted, HoldersAwait, holders}
use Rattle.ioc_set.specs.Awaiting.{awaited, one_if_completes}
use Rattle.ioc_set.specs.SetState.{SetState, now_of, before_of, done_by, counted_on, held_after, folded}
use Rattle.ioc_set.specs.Resting.{resting}
use Rattle.ioc_set.specs.Sound.{IsSound, TellsOf}
use Rattle.ioc_set.proofs.Counts.{AnswersAddUp, answers_same, answers_then}

-- Calls that are answered later and completions are counted beside the requests.
fits_beside : (completes : Bool) (t : Tally) (later : ℕ) → Fits t → Fits (if completes then counted_completion (counted_started t later) else counted_started t later)
fits_beside true t later f = f
fits_beside false t later f = f

adds_beside : (completes : Bool) (t : Tally) (later : ℕ) → AddsUp t → AddsUp (if completes then counted_completion (counted_started t later) else counted_started t later)
adds_beside true t later a = a
adds_beside false t later a = a

fits_each : {t u : Tally} {requests : Requests} → CountsEach t u requests → Fits u
fits_each e = (omega (arith, e.begun), omega (arith, e.processed), omega (arith, e.disabled), omega (arith, e.active), omega (arith, e.reprocess))

module _ {R : Type 0} (k : RecordRules R) where
  -- Properties of the records and the puts with notification hold between events as in an event.
  settled_rest : (w : World R) → IsSettled k w → IsSettled k (resting w.records w.live w.waiting)
  unfolding at
  settled_rest w s = record { closed = record { closed = s.closed.closed }; quiet = record { quiet = s.quiet.quiet } }

  settled_begun : (rs : Records R) (live : List Live) (waiting : List Waiting) (moment : ℕ) → IsSettled k (resting rs live waiting) → IsSettled k (begun_at moment (resting rs live waiting))
  unfolding at begun_at begun
  settled_begun rs live waiting moment s = record { closed = record { closed = s.closed.closed }; quiet = record { quiet = s.quiet.quiet } }

  none_rest : (w : World R) → NoneReady k w → NoneReady k (resting w.records w.live w.waiting)
  unfolding at is_ready
  none_rest w n = record { none = n.none }

  none_begun : (rs : Records R) (live : List Live) (waiting : List Waiting) (moment : ℕ) → NoneReady k (resting rs live waiting) → NoneReady k (begun_at moment (resting rs live waiting))
  unfolding at is_ready begun_at begun
  none_begun rs live waiting moment n = record { none = n.none }

  counted_rest : (w : World R) → IsCounted k w → IsCounted k (resting w.records w.live w.waiting)
  unfolding at holders
  counted_rest w c = record {
    closed = record { closed = c.closed.closed };
    few = c.few;
    counted = record { counted = c.counted.counted; live = c.counted.live; waits_once = c.counted.waits_once };
  }

  counted_begun : (rs : Records R) (live : List Live) (waiting : List Waiting) (moment : ℕ) → IsCounted k (resting rs live waiting) → IsCounted k (begun_at moment (resting rs live waiting))
  unfolding at holders begun_at begun
  counted_begun rs live waiting moment c = record {
    closed = record { closed = c.closed.closed };
    few = c.few;
    counted = record { counted = c.counted.counted; live = c.counted.live; waits_once = c.counted.waits_once };
  }

  awaits_rest : (w : World R) → HoldersAwait k w → HoldersAwait k (resting w.records w.live w.waiting)
  unfolding at
  awaits_rest w a = record { records = a.records; waiting = a.waiting }

  awaits_begun : (rs : Records R) (live : List Live) (waiting : List Waiting) (moment : ℕ) → HoldersAwait k (resting rs live waiting) → HoldersAwait k (begun_at moment (resting rs live waiting))
  unfolding at begun_at begun
  awaits_begun rs live waiting moment a = record { records = a.records; waiting = a.waiting }

  -- An event begins equally on all worlds with the same records and puts with notification.
  begins_alike : (v : World R) (rs : Records R) (live : List Live) (waiting : List Waiting) (moment : ℕ) → v.records ≡ rs → v.live ≡ live → v.waiting ≡ waiting
      → begun_at moment v ≡ begun_at moment (resting rs live waiting)
  unfolding begun_at begun
  begins_alike v rs live waiting moment r l w = λ i. record { records = r i; moment = moment; calls = []; outbox = []; dropped = 0; live = l i; ended = []; waiting = w i }

  -- The links of records are kept.
  targets_kept : (r s : R) → SameLinks k r s → targets k s ≡ targets k r
  targets_kept r s same = ap (λ link. named_by_all link (k.link_fields s)) same.links ∙ ap (named_by_all (k.link r)) same.fields

  links_at : (o p : Option R) → (IsSome o → IsSome p) → (IsSome p → IsSome o) → targets k (unwrap_or p k.missing) ≡ targets k (unwrap_or o k.missing) → option_map (targets k) p ≡ option_map (targets k) o
  links_at None None there back e = refl
  links_at None (Some s) there back e = absurd (let h : false ≡ true = back refl in cc)
  links_at (Some r) None there back e = absurd (let h : false ≡ true = there refl in cc)
  links_at (Some r) (Some s) there back e = ap Some e

  links_kept : (rs : Records R) (live : List Live) (waiting : List Waiting) (moment : ℕ) (after : World R) → Keeps k (begun_at moment (resting rs live waiting)) after → (q : ℕ) → links_of k after.records q ≡ links_of k rs q
  unfolding at begun_at begun
  links_kept rs live waiting moment after keeps q = links_at (get rs q) (get after.records q) (keeps.has q) (keeps.only q) (targets_kept _ _ (keeps.links q))

  pub part_kept : (rs : Records R) (live : List Live) (waiting : List Waiting) (moment : ℕ) (after : World R) → Keeps k (begun_at moment (resting rs live waiting)) after → IsPart (links_of k rs) → IsPart (links_of k after.records)
  part_kept rs live waiting moment after keeps part =
      let all : links_of k after.records ≡ links_of k rs = λ i q. links_kept rs live waiting moment after keeps q i in
      subst (λ (f : Links). IsPart f) (sym all) part

  -- The history with one more event.
  replay_more : {w v w' : World R} {requests : Requests} (entries : List EventEntry) (entry : EventEntry) → Replay k w entries v
      → Step k (listed entry.answers) (begun_at entry.moment v) entry.event w' entry.reply requests → answers_of w'.calls ≡ entry.answers → Replay k w (entries ++ entry ∷ []) w'
  replay_more [] entry at_the_end step same = and_then step same at_the_end
  replay_more {w = w} {v = v} {w' = w'} {requests = requests} (x ∷ entries) entry (and_then {w' = w''} {requests = first_requests} first used rest) step same =
      and_then first used (replay_more {w = w''} entries entry rest step same)

  -- The counts after an event.
  module _ (each : (t : Tally) (requests : Requests) → Fits t → CountsEach t (counted t requests) requests)
      (up : (t : Tally) (requests : Requests) → Fits t → AddsUp t → AddsUp (counted t requests)) where
    fits_after : (t : Tally) (w : World R) (event : Event) (done : Stepped R) → Fits t → Fits (tallied t w event done)
    unfolding tallied
    fits_after t w event done fits = fits_beside (completes event done.reply) (counted t done.requests) (later_among (calls_since w done.world)) (fits_each (each t done.requests fits))

    adds_after : (t : Tally) (w : World R) (event : Event) (done : Stepped R) → Fits t → AddsUp t → AddsUp (tallied t w event done)
    unfolding tallied
    adds_after t w event done fits adds = adds_beside (completes event done.reply) (counted t done.requests) (later_among (calls_since w done.world)) (up t done.requests fits adds)

    answers_after : (t : Tally) (w : World R) (event : Event) (done : Stepped R) (still after : ℕ) → Fits t → AnswersAddUp t still
        → after + one_if_completes event done.reply ≡ still + later_among (calls_since w done.world) → AnswersAddUp (tallied t w event done) after
    unfolding tallied
    answers_after t w event done still after fits one law =
        let requests = each t done.requests fits in
        answers_then (completes event done.reply) (counted t done.requests) still (later_among (calls_since w done.world)) after
        (answers_same t (counted t done.requests) still requests.started requests.completed one) law

  awaited_begun : (rs : Records R) (live : List Live) (waiting : List Waiting) (moment : ℕ) → awaited k (begun_at moment (resting rs live waiting)).records ≡ awaited k rs
  unfolding begun_at begun
  awaited_begun rs live waiting moment = refl

  module _ (allowed : (answers : Answers) (w : World R) (event : Event) → Step k answers w event (stepped k answers w event).world (stepped k answers w event).reply (stepped k answers w event).requests)
      (alone : (answers : Answers) (w after : World R) (event : Event) (reply : Reply) (requests : Requests) → Step k answers w event after reply requests
      → stepped k answers w event ≡ record { world = after; reply = reply; requests = requests }) where
    counted_more : (t : Tally) {w v : World R} (entries : List EventEntry) (entry : EventEntry) → Replay k w entries v
        → counted_on k t w (entries ++ entry ∷ []) ≡ tallied (counted_on k t w entries) (begun_at entry.moment v) entry.event (done_by k v entry)
    counted_more t [] entry at_the_end = refl
    counted_more t {w = w} {v = v} (x ∷ entries) entry (and_then {w' = w'} {requests = first_requests} first used rest) =
        let same : (done_by k w x).world ≡ w' = ap (λ z. z.world) (alone _ _ _ _ _ _ first) in
        counted_more (tallied t (begun_at x.moment w) x.event (done_by k w x)) entries entry (subst (λ (z : World R). Replay k z entries v) (sym same) rest)

    module _ (keeps : (answers : Answers) (w after : World R) (event : Event) (reply : Reply) (requests : Requests) → Step k answers w event after reply requests → IsClosed k w → Keeps k w after)
        (settles : (answers : Answers) (w after : World R) (event : Event) (reply : Reply) (requests : Requests) → Step k answers w event after reply requests → IsSettled k w → IsSettled k after)
        (readies : (answers : Answers) (w after : World R) (event : Event) (reply : Reply) (requests : Requests) → Step k answers w event after reply requests → NoneReady k w → NoneReady k after)
        (counts : (answers : Answers) (w after : World R) (event : Event) (reply : Reply) (requests : Requests) → Step k answers w event after reply requests → IsCounted k w → IsCounted k after)
        (awaits : (answers : Answers) (w after : World R) (event : Event) (reply : Reply) (requests : Requests) → Step k answers w event after reply requests → IsSettled k w → HoldersAwait k w → HoldersAwait k after)
        (each : (t : Tally) (requests : Requests) → Fits t → CountsEach t (counted t requests) requests)
        (up : (t : Tally) (requests : Requests) → Fits t → AddsUp t → AddsUp (counted t requests))
        (awaitings : (answers : Answers) (w after : World R) (event : Event) (reply : Reply) (requests : Requests) → Step k answers w event after reply requests → IsSettled k w
        → awaited k after.records + one_if_completes event reply ≡ awaited k w.records + later_among (calls_since w after))
        {D : Type 0} (h : SetState R D) where
      pub sound_after : (entry : EventEntry) (devices : Devices D) → IsSound k h → length h.history < 64 → TellsOf k h entry → IsSound k (held_after k h entry devices)
      sound_after entry devices sound room tells =
          let given = listed entry.answers in
          let m = entry.moment in
          let w = begun_at m (now_of h) in
          let done = done_by k (now_of h) entry in
          let step = allowed given w entry.event in
          let quiet = settled_begun h.records h.live h.waiting m sound.settled in
          let alike = begins_alike sound.leads.after h.records h.live h.waiting m sound.leads.records sound.leads.live sound.leads.waiting in
          let told : Step k given (begun_at m sound.leads.after) entry.event done.world entry.reply done.requests =
          subst (λ (z : World R). Step k given z entry.event done.world entry.reply done.requests) (sym alike)
          (subst (λ (z : Reply). Step k given w entry.event done.world z done.requests) tells.reply step) in
          let law = awaitings given w done.world entry.event done.reply done.requests step quiet ∙ ap (λ (n : ℕ). n + later_among (calls_since w done.world)) (awaited_begun h.records h.live h.waiting m) in
          let answers = answers_after each up h.tally w entry.event done (awaited k h.records) (awaited k done.world.records) sound.counts.fits (record { fit = sound.counts.answers_fit; add_up = sound.counts.answers_add_up }) law in
          record {
            part = part_kept h.records h.live h.waiting m done.world (keeps given w done.world entry.event done.reply done.requests step quiet.closed) sound.part;
            settled = settled_rest done.world (settles given w done.world entry.event done.reply done.requests step quiet);
            none_ready = none_rest done.world (readies given w done.world entry.event done.reply done.requests step (none_begun h.records h.live h.waiting m sound.none_ready));
            counted = counted_rest done.world (counts given w done.world entry.event done.reply done.requests step (counted_begun h.records h.live h.waiting m sound.counted));
            holders_await = awaits_rest done.world (awaits given w done.world entry.event done.reply done.requests step quiet (awaits_begun h.records h.live h.waiting m sound.holders_await));
            leads = record {
              after = done.world;
              replay = replay_more h.history entry sound.leads.replay told tells.answers;
              records = refl;
              live = refl;
              waiting = refl;
            };
            tally =
                ap (λ t. tallied t w entry.event done) sound.tally
                ∙ ap (λ (z : World R). tallied (counted_on k h.base.tally (before_of h.base) h.history) z entry.event (stepped k given z entry.event)) (sym alike)
                ∙ sym (counted_more h.base.tally h.history entry sound.leads.replay);
            counts = record {
              fits = fits_after each up h.tally w entry.event done sound.counts.fits;
              adds_up = adds_after each up h.tally w entry.event done sound.counts.fits sound.counts.adds_up;
              answers_fit = answers.fit;
              answers_add_up = answers.add_up;
            };
            short = omega (arith, room, length_push h.history entry);
          }

  -- The invariant after the history is cleared.
  pub sound_folded : {D : Type 0} (h : SetState R D) → IsSound k h → IsSound k (folded h)
  sound_folded h sound = record {
    part = sound.part;
    settled = sound.settled;
    none_ready = sound.none_ready;
    counted = sound.counted;
    holders_await = sound.holders_await;
    leads = record { after = now_of h; replay = at_the_end; records = refl; live = refl; waiting = refl };
    tally = refl;
    counts = sound.counts;
    short = omega arith;
  }
