-- A put with notification that is canceled in all held sets with its records: one event of all
-- records.
use Rattle.std.proofs.Common.{◌≡◌, ◌≢◌, ℕ, ◌+◌, ◌≤◌, Bool, true, false, cond, not, eqb, nat_eq, ◌||◌, List, [], ◌∷◌, ◌++◌, length, Option, Some, None, refl, sym, ap, subst, ◌∙◌, inl, inr, arith}
use Rattle.std.specs.Prelude.{is_some, unwrap_or, IsSome, Contains, option_map}
use Rattle.std.specs.List.{AllPairs}
use Rattle.std.specs.FinMap.{get}
use Rattle.std.proofs.lemmas.Bool.{eqb-true, eq-eqb, ne_eqb}
use Rattle.ioc_device.specs.declared.Ask.{Ask}
use Rattle.ioc_device.specs.declared.Answer.{Answer}
use Rattle.ioc_dbcommon.specs.Steps.{with_notification}
use Rattle.ioc_ledger.specs.Requests.{None as No_requests, followed_by, counted_all}
use Rattle.ioc_ledger.specs.declared.tally.Tally.{Tally}
use Rattle.ioc_notify.specs.declared.live_numbers.Live.{Live}
use Rattle.ioc_notify.specs.declared.waiting_lists.Waiting.{Waiting}
use Rattle.ioc_notify.specs.Living.{holders_of, is_live, forgotten}
use Rattle.ioc_notify.specs.Waits.{at_record, without}
use Rattle.ioc_record.specs.RecordRules.{RecordRules, targets}
use Rattle.ioc_record.specs.Laws.{IsLawful}
use Rattle.ioc_store.specs.World.{World, Has, at, common_at, begun, begun_at, cancelled, freed, is_notification}
use Rattle.ioc_store.specs.Weights.{weight_of}
use Rattle.ioc_store.specs.Given.{DevicesWork, no_call, and_then, listed, answers_of, later_among}
use Rattle.ioc_store.specs.declared.call.Call.{Call}
use Rattle.ioc_store.specs.Freeing.{get-mapped, at_cancelled-either}
use Rattle.ioc_store.specs.StepFrames.{targets-set}
use Rattle.ioc_events.specs.declared.event.Event.{Event}
use Rattle.ioc_events.specs.declared.event.Event.TheVariants.{Cancel}
use Rattle.ioc_events.specs.declared.event.EventEntry.{EventEntry}
use Rattle.ioc_events.specs.declared.event.Call.TheVariants as calling
use Rattle.ioc_events.specs.declared.reply.Reply.{Reply}
use Rattle.ioc_events.specs.declared.reply.Reply.TheVariants.{Plain}
use Rattle.ioc_events.specs.Holding.{how_many, one_if_has, holders}
use Rattle.ioc_events.specs.Starting.{NoneReady}
use Rattle.ioc_events.specs.Calls.{Called, called}
use Rattle.ioc_events.specs.Step.{Stepped, stepped, tallied, calls_since}
use Rattle.ioc_events.proofs.RecordLists.{taken-from_each}
use Rattle.ioc_journal.specs.declared.entry.Note.{Note}
use Rattle.ioc_journal.specs.Key.{Key, Has as Has_key}
use Rattle.ioc_journal.specs.Legal.{key_of, notifications_key, done, map_of, Fits, IsLegal, IsUntouched}
use Rattle.ioc_journal.specs.Counting.{is_completion, sent_in, sent_by, nothing_sent, tallied_by}
use Rattle.ioc_journal.specs.Covering.{Holds}
use Rattle.ioc_journal.specs.Laws.{StaysSound, CancelIsHeld, BeginningIsHeld, HeldAlike}
use Rattle.ioc_journal.proofs.Placing.{live-once}
use Rattle.ioc_set.specs.SetState.{SetState, now_of, folded, done_by, held_after}
use Rattle.ioc_set.specs.Doing.{IsShort, is_full, with_place}
use Rattle.ioc_set.specs.Sound.{IsSound}
use Rattle.ioc_journaled_set.specs.GiveUpLaws.{cancel_event, cancel_note, ShareNone, holders_in_all, GivesUp, IsHeldSoundly, SetsGiveUp, CancelGivesUp, CameToNothing}
use Rattle.ioc_journal.proofs.Summing.{point, of-number}
use Rattle.ioc_journaled_set.proofs.Shortness.{does_short}
use Rattle.ioc_journaled_set.proofs.GiveUpAmong.{some-or-none, nobody-outside}
use Rattle.ioc_journaled_set.proofs.GiveUpEvents.{cancel-steps, AreActive, none-then, begun-none, begun-active}

-- The counts once a put with notification is removed.

uncounted : (n : ℕ) (ls : List Live) → how_many (λ (l : Live). l.number) n ls ≡ 0 → holders_of n ls ≡ 0
uncounted n [] none = refl
uncounted n (l ∷ ls) none = elim (eqb l.number n) as (λ b. cond b (1 + how_many (λ (x : Live). x.number) n ls) (how_many (λ (x : Live). x.number) n ls) ≡ 0 → cond b l.holders (holders_of n ls) ≡ 0) [
  | true ↦ λ some. absurd (omega (arith, some))
  | false ↦ λ rest. uncounted n ls rest
] none

forgotten-none : (n : ℕ) (ls : List Live) → how_many (λ (l : Live). l.number) n ls ≤ 1 → holders_of n (forgotten n ls) ≡ 0
forgotten-none n [] once = refl
forgotten-none n (l ∷ ls) once = elim (eqb l.number n) as (λ b. eqb l.number n ≡ b → cond b (1 + how_many (λ (x : Live). x.number) n ls) (how_many (λ (x : Live). x.number) n ls) ≤ 1 → holders_of n (cond b ls (l ∷ forgotten n ls)) ≡ 0) [
  | true ↦ λ _ few. uncounted n ls (omega (arith, few))
  | false ↦ λ other few. ap (λ (b : Bool). cond b l.holders (holders_of n (forgotten n ls))) other ∙ forgotten-none n ls few
] refl once

forgotten-other : (n other : ℕ) → other ≢ n → (ls : List Live) → holders_of other (forgotten n ls) ≡ holders_of other ls
forgotten-other n other apart [] = refl
forgotten-other n other apart (l ∷ ls) = elim (eqb l.number n) as (λ b. eqb l.number n ≡ b → holders_of other (cond b ls (l ∷ forgotten n ls)) ≡ holders_of other (l ∷ ls)) [
  | true ↦ λ is. sym (ap (λ (b : Bool). cond b l.holders (holders_of other ls)) (ne_eqb l.number other (λ same. apart (sym same ∙ eqb-true l.number n is))))
  | false ↦ λ _. ap (λ (rest : ℕ). cond (eqb l.number other) l.holders rest) (forgotten-other n other apart ls)
] refl

-- A put with notification is live if its count isn't zero.
held-live : (n : ℕ) (ls : List Live) → holders_of n ls ≢ 0 → is_live n ls ≡ true
held-live n [] some = absurd (some refl)
held-live n (l ∷ ls) some = elim (eqb l.number n) as (λ b. (cond b l.holders (holders_of n ls) ≡ 0 → ⊥) → b || is_live n ls ≡ true) [
  | true ↦ λ _. refl
  | false ↦ λ rest. held-live n ls rest
] some

-- Removing a number that no request waits under changes nothing.

unlisted : (n : ℕ) (xs : List Waiting) → of-number n xs ≡ 0 → without n xs ≡ xs
unlisted n [] none = refl
unlisted n (x ∷ xs) none = elim (eqb x.number n) as (λ b. cond b (1 + of-number n xs) (of-number n xs) ≡ 0 → cond (not b) (x ∷ without n xs) (without n xs) ≡ x ∷ xs) [
  | true ↦ λ some. absurd (omega (arith, some))
  | false ↦ λ rest. ap (λ (l : List Waiting). x ∷ l) (unlisted n xs rest)
] none

module _ {R : Type 0} (k : RecordRules R) where
  -- Lists of notes.

  map-append : (xs ys : List Note) (m : World R) → map_of k m (xs ++ ys) ≡ map_of k (map_of k m xs) ys
  map-append [] ys m = refl
  map-append (x ∷ xs) ys m = map-append xs ys (done k m x).world

  legal-more : (log : List Note) (n : Note) (m : World R) → IsLegal k m log → Fits k (map_of k m log) n → IsLegal k m (log ++ n ∷ [])
  legal-more [] n m legal fits = (fits, tt)
  legal-more (x ∷ log) n m legal fits = (legal.0, legal-more log n (done k m x).world legal.1 fits)

  -- A cancel leaves a record that isn't part of the put with notification unchanged.

  no-notification : (number : ℕ) (r : R) → one_if_has k number r ≡ 0 → freed k number r ≡ r
  no-notification number r none = elim (is_notification number (k.common r).notification) as (λ (b : Bool). cond {A = ℕ} b 1 0 ≡ 0 → cond b (k.with_common r (with_notification None (k.common r))) r ≡ r) [
    | true ↦ λ some. absurd (omega (arith, some))
    | false ↦ λ _. refl
  ] none

  kept-option : (number : ℕ) (o : Option R) → weight_of (one_if_has k number) o ≡ 0 → option_map (freed k number) o ≡ o
  kept-option number None none = refl
  kept-option number (Some r) none = ap Some (no-notification number r none)

  same-record : (number : ℕ) (w : World R) (q : ℕ) → point k number w q ≡ 0 → get (cancelled k number w).records q ≡ get w.records q
  unfolding cancelled
  same-record number w q none = get-mapped (freed k number) w.records q ∙ kept-option number (get w.records q) (omega (arith, none))

  same-waiting : (number : ℕ) (w : World R) (q : ℕ) → point k number w q ≡ 0 → at_record q (cancelled k number w).waiting ≡ at_record q w.waiting
  unfolding cancelled
  same-waiting number w q none =
      taken-from_each number q w.waiting
      ∙ unlisted number (at_record q w.waiting) (omega (arith, none))

  same-targets : IsLawful k → (number : ℕ) (w : World R) (q : ℕ) → targets k (at k (cancelled k number w) q) ≡ targets k (at k w q)
  same-targets lawful number w q = at_cancelled-either k number (λ r s. targets k s ≡ targets k r) (λ r. refl) (λ r. targets-set k lawful r (with_notification None (k.common r)) (refl, refl)) w q

  -- The event of the note.

  module _ (lawful : IsLawful k) (desk call moment number : ℕ) (keys : List Key) where
    abbrev note : Note
    note = cancel_note desk call moment number keys

    abbrev given_up : World R → World R
    given_up m = cancelled k number (begun_at moment m)

    note-done : (m : World R) → is_live number m.live ≡ true → NoneReady k m → AreActive k number m
        → done k m note ≡ record { world = given_up m; call = note.entry.entry.call; requests = followed_by No_requests No_requests }
    unfolding begun begun_at done called
    note-done m live none active =
        ap (λ (d : Stepped R). record { world = d.world; call = calling.Event (Cancel number) d.reply; requests = d.requests }) (cancel-steps k (listed []) (begun_at moment m) number live (none-then k lawful number (begun_at moment m) (begun-none k moment m none) (begun-active k number moment m active)))

    no-calls : (m : World R) → (given_up m).calls ≡ []
    unfolding begun begun_at cancelled
    no-calls m = refl

    none-sent : (m : World R) → sent_in (given_up m) ≡ nothing_sent
    unfolding begun begun_at cancelled
    none-sent m = refl

    sends-none : (m : World R) → is_live number m.live ≡ true → NoneReady k m → AreActive k number m → sent_by k m note ≡ nothing_sent
    sends-none m live none active = ap (λ (s : Called R). sent_in s.world) (note-done m live none active) ∙ none-sent m

    counts-none : (t : Tally) (m : World R) → tallied t (begun_at moment m) (Cancel number) (record { world = given_up m; reply = Plain; requests = followed_by No_requests No_requests }) ≡ t
    unfolding tallied begun begun_at cancelled
    counts-none t m = refl

    noted-none : (t : Tally) (m : World R) → counted_all t (followed_by No_requests No_requests) (later_among (calls_since (begun_at moment m) (given_up m))) false ≡ t
    unfolding begun begun_at cancelled
    noted-none t m = refl

    tally-none : (m : World R) → is_live number m.live ≡ true → NoneReady k m → AreActive k number m → (t : Tally) → tallied_by k t m note ≡ t
    tally-none m live none active t =
        ap (λ (d : Called R). counted_all t d.requests (later_among (calls_since (begun_at moment m) d.world)) (is_completion d.call)) (note-done m live none active) ∙ noted-none t m

    untouched : (m : World R) (r : ℕ) → point k number m r ≡ 0 → IsUntouched k r m (given_up m)
    unfolding at begun begun_at
    untouched m r nobody = record {
      same = same-record number (begun_at moment m) r nobody;
      waiting = same-waiting number (begun_at moment m) r nobody;
      named = λ a c. subst (λ (l : List ℕ). Contains l r) (same-targets lawful number (begun_at moment m) a) c;
    }

    live-then : (m : World R) → (given_up m).live ≡ forgotten number m.live
    unfolding begun begun_at cancelled
    live-then m = refl

    none-ended : (m : World R) → (given_up m).ended ≡ []
    unfolding begun begun_at cancelled
    none-ended m = refl

    note-fits : (m : World R) → is_live number m.live ≡ true → NoneReady k m → AreActive k number m → Has_key notifications_key keys
        → ((r : ℕ) → (Has_key (key_of r) keys → ⊥) → point k number m r ≡ 0) → Fits k m note
    note-fits m live none active key nobody =
        let is = note-done m live none active in
        record {
          reply = sym (ap (λ (s : Called R). s.call) is);
          used = ap (λ (s : Called R). answers_of s.world.calls) is ∙ ap answers_of (no-calls m);
          untouched = λ r out. subst (IsUntouched k r m) (sym (ap (λ (s : Called R). s.world) is)) (untouched m r (nobody r out));
          live = λ out. absurd (out key);
        }

    -- The cancel on held sets.

    module _ {D : Type 0} (cancels : CancelIsHeld k) (begins : BeginningIsHeld k) (alike : HeldAlike k) where
      held-then : (most : ℕ) (m : World R) (h then : SetState R D) → Holds k m (now_of h) → GivesUp k most moment number h then → Holds k (given_up m) (now_of then)
      unfolding begun begun_at cancelled
      held-then most m h then holds gives =
          alike (given_up m) (given_up (now_of h)) (now_of then) (cancels (begun_at moment m) (begun_at moment (now_of h)) number (begins m (now_of h) moment holds)) gives.records gives.waiting

    -- A record of a sound set that is part of the put with notification awaits its device.
    pub set-active : {D : Type 0} (h : SetState R D) → IsSound k h → AreActive k number (now_of h)
    set-active h sound q there has = (sound.settled.quiet.quiet q there).1 (sound.holders_await.records q there (subst (λ (o : Option ℕ). IsSome o) (sym has) refl))

    module _ {D : Type 0} (m : World R) (sets : List (SetState R D)) (known : (h : SetState R D) → Contains sets h → IsHeldSoundly k m keys h) (pairs : AllPairs ShareNone sets)
        (all : holders_in_all number sets ≡ holders k m number) where
      nobody-else : (r : ℕ) → ((h : SetState R D) → Contains sets h → Has (now_of h) r → ⊥) → point k number m r ≡ 0
      nobody-else r out = nobody-outside k number m sets (λ h c. (known h c).holds) (λ h c. (known h c).sound.counted) pairs all r out

      unkeyed : (r : ℕ) → (Has_key (key_of r) keys → ⊥) → point k number m r ≡ 0
      unkeyed r out = nobody-else r (λ h c there. out ((known h c).covers r there))

      held-active : (h : SetState R D) → Contains sets h → (q : ℕ) → Has (now_of h) q → (common_at k m q).notification ≡ Some number → (common_at k m q).active ≡ true
      unfolding at
      held-active h c q there has =
          let same : unwrap_or (get m.records q) k.missing ≡ unwrap_or (get h.records q) k.missing = ap (λ (o : Option R). unwrap_or o k.missing) ((known h c).holds.records q there) in
          ap (λ (r : R). (k.common r).active) same ∙ set-active h (known h c).sound q there (sym (ap (λ (r : R). (k.common r).notification) same) ∙ has)

      had : (o : Option R) → is_some o ≡ true → (k.common (unwrap_or o k.missing)).notification ≡ Some number → weight_of (one_if_has k number) o ≡ 0 → ⊥
      had None there has none = cc
      had (Some r) there has none =
          let one : one_if_has k number r ≡ 1 = ap (λ (n : Option ℕ). cond (is_notification number n) 1 0) has ∙ ap (λ (b : Bool). cond b 1 0) (eq-eqb number number refl) in
          absurd (omega (arith, one, none))

      all-active : AreActive k number m
      unfolding at
      all-active q there has = elim (some-or-none q sets) [
        | inl some ↦ held-active some.0 some.1 q some.2 has
        | inr none ↦ let nobody = nobody-else q none in absurd (had (get m.records q) there has (omega (arith, nobody)))
      ]

  pub sets-give-up : (D : Type 0) → IsLawful k → StaysSound k → CancelIsHeld k → BeginningIsHeld k → HeldAlike k → SetsGiveUp D k
  sets-give-up D lawful stays cancels begins alike base log sets desk call moment number keys sound legal known pairs all some key =
      let m = map_of k base log in
      let n = cancel_note desk call moment number keys in
      let is_sound = (stays base log sound).0 legal in
      let same = all ∙ is_sound.counted.counted.counted number in
      let live = held-live number m.live some in
      let active = all-active lawful desk call moment number keys m sets known pairs same in
      let fits = note-fits lawful desk call moment number keys m live is_sound.none_ready active key (unkeyed lawful desk call moment number keys m sets known pairs same) in
      let leads : map_of k base (log ++ n ∷ []) ≡ cancelled k number (begun_at moment m)
      = map-append log (n ∷ []) base ∙ ap (λ (s : Called R). s.world) (note-done lawful desk call moment number keys m live is_sound.none_ready active) in
      let lives = ap (λ (w : World R). w.live) leads ∙ live-then lawful desk call moment number keys m in (
        record {
          legal = legal-more log n base legal fits;
          known = record {
            held = λ most h then c gives. subst (λ (w : World R). Holds k w (now_of then)) (sym leads) (held-then lawful desk call moment number keys cancels begins alike most m h then (known h c).holds gives);
            nobody = ap (holders_of number) lives ∙ forgotten-none number m.live (live-once k m is_sound.counted number);
            others = λ other apart. ap (holders_of other) lives ∙ forgotten-other number other apart m.live;
            none_ended = ap (λ (w : World R). w.ended) leads ∙ none-ended lawful desk call moment number keys m;
          };
        },
        record {
          tally = tally-none lawful desk call moment number keys m live is_sound.none_ready active;
          sent = sends-none lawful desk call moment number keys m live is_sound.none_ready active;
        },
      )

  -- The cancel on one set.

  module _ {D : Type 0} (lawful : IsLawful k) (number : ℕ) where
    set-steps : (h : SetState R D) (moment : ℕ) (answers : List Answer) → IsSound k h → is_live number h.live ≡ true
        → stepped k (listed answers) (begun_at moment (now_of h)) (Cancel number) ≡ record { world = cancelled k number (begun_at moment (now_of h)); reply = Plain; requests = followed_by No_requests No_requests }
    unfolding begun begun_at
    set-steps h moment answers sound live =
        cancel-steps k (listed answers) (begun_at moment (now_of h)) number live
        (none-then k lawful number (begun_at moment (now_of h)) (begun-none k moment (now_of h) sound.none_ready) (begun-active k number moment (now_of h) (set-active lawful 0 0 moment number [] h sound)))

    now-placed : (most : ℕ) (h : SetState R D) → now_of (with_place most h) ≡ now_of h
    now-placed most h = elim (is_full most (length h.history)) as (λ b. now_of (cond b (folded h) h) ≡ now_of h) [
      | true ↦ refl
      | false ↦ refl
    ]

    tally-placed : (most : ℕ) (h : SetState R D) → (with_place most h).tally ≡ h.tally
    tally-placed most h = elim (is_full most (length h.history)) as (λ b. (cond b (folded h) h).tally ≡ h.tally) [
      | true ↦ refl
      | false ↦ refl
    ]

    module _ (h after : SetState R D) (moment most : ℕ) where
      abbrev given : World R
      given = cancelled k number (begun_at moment (now_of h))

      gives : after.records ≡ given.records → after.waiting ≡ given.waiting → after.live ≡ given.live → get after.devices ≡ get h.devices → after.tally ≡ h.tally
          → after ≡ held_after k (with_place most h) (cancel_event moment number) after.devices → IsShort most after → GivesUp k most moment number h after
      unfolding begun begun_at cancelled
      gives records waiting live devices tally told short = record { records = records; waiting = waiting; live = live; devices = devices; tally = tally; told = told; short = short }

      nothing : (come_to : World R) → come_to.calls ≡ given.calls → come_to.outbox ≡ given.outbox → come_to.ended ≡ given.ended → CameToNothing come_to
      unfolding begun begun_at cancelled
      nothing come_to calls outbox ended = record { calls = calls; outbox = outbox; ended = ended }

  -- Devices that weren't called are unchanged.
  uncalled : {D : Type 0} {gives : D → Ask → ℕ → Answer → D → Type 0} {ds es : ℕ → Option D} {moment : ℕ} {calls : List Call}
      → DevicesWork gives ds moment calls es → calls ≡ [] → es ≡ ds
  uncalled no_call none = refl
  uncalled (and_then first rest) none = cc

  entry-is : (e : EventEntry) (number : ℕ) → e.event ≡ Cancel number → e.answers ≡ [] → e.reply ≡ Plain → e ≡ cancel_event e.moment number
  entry-is e number event answers reply =
      ap (λ (v : Event). record { moment = e.moment; event = v; answers = e.answers; reply = e.reply }) event
      ∙ ap (λ (l : List Answer). record { moment = e.moment; event = Cancel number; answers = l; reply = e.reply }) answers
      ∙ ap (λ (r : Reply). record { moment = e.moment; event = Cancel number; answers = []; reply = r }) reply

  pub cancel-gives-up : {D : Type 0} (gives : D → Ask → ℕ → Answer → D → Type 0) → IsLawful k → CancelGivesUp k gives
  cancel-gives-up {D} gives_answers lawful most before after moment number reply come_to sound live does =
      let e = does.entry in
      let is = ap (λ (event : Event). stepped k (listed e.answers) (begun_at e.moment (now_of before)) event) does.event ∙ set-steps lawful number before e.moment e.answers sound live in
      let placed = ap (λ (w : World R). done_by k w e) (now-placed lawful number most before) ∙ is in
      let plain = sym does.tells.reply ∙ ap (λ (s : Stepped R). s.reply) placed in
      let uncalled-here = no-calls lawful 0 0 e.moment number [] (now_of before) in
      let cancelled_alone : Stepped R = record { world = cancelled k number (begun_at e.moment (now_of before)); reply = Plain; requests = followed_by No_requests No_requests } in
      let counts : after.tally ≡ before.tally
      = ap (λ (h : SetState R D). h.tally) does.after
      ∙ ap (λ (s : Stepped R). tallied (with_place most before).tally (begun_at e.moment (now_of (with_place most before))) e.event s) placed
      ∙ ap (λ (w : World R). tallied (with_place most before).tally (begun_at e.moment w) e.event cancelled_alone) (now-placed lawful number most before)
      ∙ ap (λ (v : Event). tallied (with_place most before).tally (begun_at e.moment (now_of before)) v cancelled_alone) does.event
      ∙ counts-none lawful 0 0 e.moment number [] (with_place most before).tally (now_of before)
      ∙ tally-placed lawful number most before in
      let silent = sym does.tells.answers ∙ ap (λ (s : Stepped R). answers_of s.world.calls) placed ∙ ap answers_of uncalled-here in
      record {
        answer = sym does.answer ∙ plain;
        gives_up = subst (λ (m : ℕ). GivesUp k most m number before after) does.moment (gives lawful number before after e.moment most
            (ap (λ (h : SetState R D). h.records) does.after ∙ ap (λ (s : Stepped R). s.world.records) placed)
            (ap (λ (h : SetState R D). h.waiting) does.after ∙ ap (λ (s : Stepped R). s.world.waiting) placed)
            (ap (λ (h : SetState R D). h.live) does.after ∙ ap (λ (s : Stepped R). s.world.live) placed)
            (uncalled does.work (ap (λ (s : Stepped R). s.world.calls) is ∙ uncalled-here))
            counts
            (does.after ∙ ap (λ (entry : EventEntry). held_after k (with_place most before) entry after.devices) (entry-is e number does.event silent plain))
            (does_short k gives_answers before after moment (Cancel number) reply come_to does));
        nothing = nothing lawful number before after e.moment most come_to
            (ap (λ (w : World R). w.calls) (does.left ∙ ap (λ (s : Stepped R). s.world) is))
            (ap (λ (w : World R). w.outbox) (does.left ∙ ap (λ (s : Stepped R). s.world) is))
            (ap (λ (w : World R). w.ended) (does.left ∙ ap (λ (s : Stepped R). s.world) is));
      }
