-- The cases of an event, in the order of the code.
use Rattle.std.proofs.Common.{◌≡◌, ℕ, Bool, true, false, cond, length, drop, refl, sym, ap, subst, ◌∙◌}
use Rattle.std.specs.Prelude.{Result, Ok, Err, not}
use Rattle.std.specs.FinMap.{contains_key}
use Rattle.ioc_values.specs.declared.error.IocError.{IocError}
use Rattle.ioc_values.specs.declared.error.IocError.TheVariants.{NoRecord, Stale, QueueFull}
use Rattle.ioc_values.specs.declared.input.Input.{Input}
use Rattle.ioc_values.specs.declared.value.Finished.{Finished}
use Rattle.ioc_fields.specs.declared.field_no.FieldNo.{FieldNo}
use Rattle.ioc_ledger.specs.declared.outcome.Outcome.{Outcome}
use Rattle.ioc_ledger.specs.declared.tally.Tally.{Tally}
use Rattle.ioc_ledger.specs.Requests.{Requests, None, Request, counted, counted_one, counted_started, counted_completion}
use Rattle.ioc_store.specs.Given.{Answers, later_among}
use Rattle.ioc_record.specs.RecordRules.{RecordRules, targets}
use Rattle.ioc_record.specs.Values.{put_field, put_tested, put_once_tested, put_untested, converted_for}
use Rattle.ioc_record.specs.Laws.{IsLawful}
use Rattle.ioc_values.specs.declared.value.Value.{Value}
use Rattle.ioc_store.specs.StepFrames.{targets_same, links-stored, stored_with}
use Rattle.ioc_process.specs.Keeping.{keeps-put}
use Rattle.ioc_events.specs.declared.reply.Reply.{Reply}
use Rattle.ioc_events.specs.declared.reply.Reply.TheVariants.{Plain, Outcome as Outcome-reply, Refused}
use Rattle.ioc_ledger.specs.declared.outcome.Outcome.TheVariants.{Processed, Reprocess}
use Rattle.ioc_dbcommon.specs.declared.common.Common.{Common}
use Rattle.ioc_dbcommon.specs.Steps.{with_put_mark, with_reprocess_mark}
use Rattle.ioc_store.specs.World.{World, Has, at, common_at, put, changed, SameLinks, Keeps, has_place, cancelled}
use Rattle.ioc_process.specs.Processing.{Done, ran, processed, resumed_with}
use Rattle.ioc_process.specs.Runs.{Comes, Leaves}
use Rattle.ioc_events.specs.declared.event.Event.{Event}
use Rattle.ioc_events.specs.declared.event.Event.TheVariants.{Process, Put, Complete, Notify, Cancel}
use Rattle.ioc_events.specs.Step.{Stepped, is_there, is_refusal, lets_start, refused, told, processes, awaits, after_put, after_completion, put_with, begun_or_queued, notify_with, done_there, done_alone, with_starts, stepped, completes, calls_since, tallied}
use Rattle.ioc_events.specs.Events.{Tells, Makes, ends, Ends}
use Rattle.ioc_events.specs.Starting.{value_to_put, all_started}
use Rattle.ioc_notify.specs.Living.{is_live}
use Rattle.ioc_process.specs.Bodies.{counted-followed_by}
use Rattle.ioc_store.specs.Scanning.{rescanned}

module _ {R : Type 0} (k : RecordRules R) where
  module _ (answers : Answers) where
    pub step-missing : (w : World R) (event : Event) → is_there w event ≡ false → done_alone k answers w event ≡ refused w NoRecord
    unfolding done_alone
    step-missing w event is = rw is refl

    pub step-there : (w : World R) (event : Event) → is_there w event ≡ true → done_alone k answers w event ≡ done_there k answers w event
    unfolding done_alone
    step-there w event is = rw is refl

    pub makes-refused : (w : World R) (event : Event) (counts : Tally) → is_there w event ≡ false → Makes w (Refused NoRecord) counts counts (done_alone k answers w event)
    makes-refused w event counts is = rw (step-missing w event is) (record { world = refl; reply = refl; tally = refl })

    pub makes-told : (w after : World R) (s : ℕ) (outcome : Outcome) (before counts : Tally) → Leaves after before counts outcome (ran k answers w s)
        → Makes after (Outcome-reply outcome) before counts (told k answers w s)
    unfolding told
    makes-told w after s outcome before counts leaves = record { world = leaves.world; reply = ap Outcome-reply leaves.outcome; tally = leaves.tally }

    -- A put to a field that doesn't process the record has the plain reply.
    pub makes-plain : (w : World R) (s : ℕ) (field : FieldNo) (counts : Tally) → processes k (at k w s) field ≡ false → Makes w Plain counts counts (after_put k answers w s field)
    unfolding after_put
    makes-plain w s field counts is = rw is (record { world = refl; reply = refl; tally = refl })

    pub makes-active : (w : World R) (s : ℕ) (field : FieldNo) (before counts : Tally) → processes k (at k w s) field ≡ true → (common_at k w s).active ≡ true → counts ≡ counted_one before Reprocess
        → Makes (changed k w s (with_reprocess_mark true)) (Outcome-reply Reprocess) before counts (after_put k answers w s field)
    unfolding after_put
    makes-active w s field before counts is active one = rw (is, active) (record { world = refl; reply = refl; tally = one })

    pub after_put-idle : (w : World R) (s : ℕ) (field : FieldNo) → processes k (at k w s) field ≡ true → (common_at k w s).active ≡ false → after_put k answers w s field ≡ told k answers (changed k w s (with_put_mark true)) s
    unfolding after_put
    after_put-idle w s field is idle =
        let down : Stepped R = record { world = changed k w s (with_reprocess_mark true); reply = Outcome-reply Reprocess; requests = Request Reprocess None None } in
        let on = told k answers (changed k w s (with_put_mark true)) s in
        ap (λ (b : Bool). cond {A = Stepped R} b (cond {A = Stepped R} (common_at k w s).active down on) (record { world = w; reply = Plain; requests = None })) is
        ∙ ap (λ (b : Bool). cond {A = Stepped R} b down on) idle

    -- A completion has the plain reply.
    pub makes-completion : (w after : World R) (s : ℕ) (x : Finished) (before counts : Tally) → Comes after before counts Processed (processed (resumed_with k answers w s x))
        → Makes after Plain before counts (after_completion k answers w s x)
    unfolding after_completion
    makes-completion w after s x before counts comes = record { world = comes.world; reply = refl; tally = comes.tally }

    pub step-process : (w : World R) (s : ℕ) → contains_key w.records s ≡ true → done_alone k answers w (Process s) ≡ told k answers w s
    unfolding done_there
    step-process w s is = step-there w (Process s) is

    -- A put that is refused.
    pub step-put_refused : (w : World R) (s : ℕ) (field : FieldNo) (given : Input) (e : IocError) → contains_key w.records s ≡ true
        → put_field k (at k w s) field given ≡ Err e → done_alone k answers w (Put s field given) ≡ refused w e
    unfolding done_there
    step-put_refused w s field given e there is = step-there w (Put s field given) there ∙ ap (put_with k answers w s field) is

    -- A put that is done.
    pub step-put : (w : World R) (s : ℕ) (field : FieldNo) (given : Input) (r : R) → contains_key w.records s ≡ true
        → put_field k (at k w s) field given ≡ Ok r → done_alone k answers w (Put s field given) ≡ after_put k answers (rescanned k (put w s r) s field) s field
    unfolding done_there
    step-put w s field given r there is = step-there w (Put s field given) there ∙ ap (put_with k answers w s field) is

    -- A completion that isn't awaited, and one that is.
    pub step-stale : (w : World R) (s number : ℕ) (x : Finished) → contains_key w.records s ≡ true → awaits (common_at k w s) number ≡ false
        → done_alone k answers w (Complete s number x) ≡ refused w Stale
    unfolding done_there
    step-stale w s number x there is = step-there w (Complete s number x) there ∙ rw is refl

    pub step-complete : (w : World R) (s number : ℕ) (x : Finished) → contains_key w.records s ≡ true → awaits (common_at k w s) number ≡ true
        → done_alone k answers w (Complete s number x) ≡ after_completion k answers w s x
    unfolding done_there
    step-complete w s number x there is = step-there w (Complete s number x) there ∙ rw is refl

    -- A put with notification that is refused or can't begin, and one that is admitted.
    pub step-notify : (w : World R) (s number : ℕ) (field : FieldNo) (given : Input) (value : Result Value IocError) → contains_key w.records s ≡ true
        → value_to_put k (at k w s) field given ≡ value → done_alone k answers w (Notify s number field given) ≡ notify_with k answers w s number field value
    unfolding done_there
    step-notify w s number field given value there is = step-there w (Notify s number field given) there ∙ ap (notify_with k answers w s number field) is

    pub step-no_place : (w : World R) (s number : ℕ) (field : FieldNo) (given : Input) (v : Value) → contains_key w.records s ≡ true
        → value_to_put k (at k w s) field given ≡ Ok v → has_place w number ≡ false → done_alone k answers w (Notify s number field given) ≡ refused w QueueFull
    step-no_place w s number field given v there is full = step-notify w s number field given (Ok v) there is ∙ rw full refl

    pub step-let_in : (w : World R) (s number : ℕ) (field : FieldNo) (given : Input) (v : Value) → contains_key w.records s ≡ true
        → value_to_put k (at k w s) field given ≡ Ok v → has_place w number ≡ true
        → done_alone k answers w (Notify s number field given) ≡ begun_or_queued k answers w (record { number = number; target = s; field = field; value = v })
    step-let_in w s number field given v there is place = step-notify w s number field given (Ok v) there is ∙ rw place refl

    -- A cancel.
    pub step-cancel : (w : World R) (number : ℕ) (b : Bool) → is_live number w.live ≡ b
        → done_alone k answers w (Cancel number) ≡ cond {A = Stepped R} b (record { world = cancelled k number w; reply = Plain; requests = None }) (refused w Stale)
    unfolding done_alone done_there
    step-cancel w number b is = rw is refl

    -- Lemmas about what follows an event by itself.

    same-first : (first : Stepped R) (w1 : World R) (reply : Reply) (t t1 : Tally) → Makes w1 reply t t1 first → record { world = w1; reply = reply; requests = first.requests } ≡ first
    same-first first w1 reply t t1 makes i = record { world = makes.world i; reply = makes.reply i; requests = first.requests }

    record IsStepped (w2 : World R) (asked : ℕ) (reply : Reply) (t t2 : Tally) (done : Stepped R) : Type 0 where
      world : w2 ≡ done.world
      reply_is : reply ≡ done.reply
      tally : t2 ≡ counted_started (counted t done.requests) (later_among (drop asked w2.calls))

    ended : (w1 w2 : World R) (event : Event) (reply : Reply) (requests : Requests) (asked : ℕ) (t t1 t2 : Tally) (b : Bool) → t1 ≡ counted t requests
        → lets_start reply ≡ not b → Ends w2 asked t1 t2 (cond {A = Done R} b (record { world = w1; requests = None }) (all_started k answers w1))
        → let first : Stepped R = record { world = w1; reply = reply; requests = requests } in
        IsStepped w2 asked reply t t2 (cond {A = Stepped R} (lets_start reply) (with_starts k answers first) first)
    ended w1 w2 event reply requests asked t t1 t2 true counts lets ends =
        rw lets (record { world = ends.world; reply_is = refl; tally = ends.tally ∙ ap (λ (x : Tally). counted_started x (later_among (drop asked w2.calls))) counts })
    ended w1 w2 event reply requests asked t t1 t2 false counts lets ends =
        rw lets (record {
          world = ends.world;
          reply_is = refl;
          tally = ends.tally ∙ ap (λ (x : Tally). counted_started (counted x (all_started k answers w1).requests) (later_among (drop asked w2.calls))) counts
              ∙ ap (λ (x : Tally). counted_started x (later_among (drop asked w2.calls))) (sym (counted-followed_by t requests (all_started k answers w1).requests));
        })

    is_stepped : (w w1 w2 : World R) (event : Event) (reply : Reply) (asked : ℕ) (t t1 t2 : Tally) → Makes w1 reply t t1 (done_alone k answers w event)
        → lets_start reply ≡ not (is_refusal reply) → Ends w2 asked t1 t2 (ends k answers w1 reply) → IsStepped w2 asked reply t t2 (stepped k answers w event)
    unfolding stepped
    is_stepped w w1 w2 event reply asked t t1 t2 makes lets ends =
        let first = done_alone k answers w event in
        subst (λ (x : Stepped R). IsStepped w2 asked reply t t2 (cond {A = Stepped R} (lets_start x.reply) (with_starts k answers x) x)) (same-first first w1 reply t t1 makes)
        (ended w1 w2 event reply first.requests asked t t1 t2 (is_refusal reply) makes.tally lets ends)

    tells-from : (w w2 : World R) (event : Event) (reply : Reply) (t t2 counts : Tally) (done : Stepped R) → IsStepped w2 (length w.calls) reply t t2 done
        → counts ≡ cond (completes event reply) (counted_completion t2) t2 → Tells w w2 reply t counts event done
    unfolding tallied
    tells-from w w2 event reply t t2 counts done is counted_last = record {
      world = is.world;
      reply = is.reply_is;
      tally = counted_last ∙ ap (λ (x : Tally). cond (completes event reply) (counted_completion x) x) is.tally
          ∙ ap (λ (v : World R). let begun = counted_started (counted t done.requests) (later_among (calls_since w v)) in cond (completes event reply) (counted_completion begun) begun) is.world
          ∙ ap (λ (r : Reply). let begun = counted_started (counted t done.requests) (later_among (calls_since w done.world)) in cond (completes event r) (counted_completion begun) begun) is.reply_is;
    }

    -- An event by itself, and what follows it.
    pub tells-event : (w w1 w2 : World R) (event : Event) (reply : Reply) (asked : ℕ) (t t1 t2 counts : Tally) → asked ≡ length w.calls → Makes w1 reply t t1 (done_alone k answers w event)
        → lets_start reply ≡ not (is_refusal reply) → Ends w2 asked t1 t2 (ends k answers w1 reply) → counts ≡ cond (completes event reply) (counted_completion t2) t2
        → Tells w w2 reply t counts event (stepped k answers w event)
    tells-event w w1 w2 event reply asked t t1 t2 counts at_first makes lets ends counted_last =
        tells-from w w2 event reply t t2 counts _ (subst (λ (n : ℕ). IsStepped w2 n reply t t2 (stepped k answers w event)) at_first (is_stepped w w1 w2 event reply asked t t1 t2 makes lets ends)) counted_last

module _ {R : Type 0} (k : RecordRules R) (lawful : IsLawful k) where
  -- The record afterwards is that before with some value stored in the field.
  abbrev Stores : R → FieldNo → R → Type 0
  Stores r field r' = (v : Value) × (k.stored r field v ≡ r')

  put_tested_stores : (r r' : R) (field : FieldNo) (given : Input) (test : Result Unit IocError) → put_once_tested k r field given test ≡ Ok r' → Stores r field r'
  unfolding put_untested
  put_tested_stores r r' field given (Ok _) is = stored_with k r r' field (converted_for k r field given) is
  put_tested_stores r r' field given (Err e) is = absurd cc

  put_stores : (r r' : R) (field : FieldNo) (given : Input) → put_field k r field given ≡ Ok r' → Stores r field r'
  unfolding put_field
  put_stores r r' field given is = put_tested_stores r r' field given (put_tested k r field) is

  -- A put changes no link, no active mark and no pending number.
  put_links : (r r' : R) (field : FieldNo) (given : Input) → put_field k r field given ≡ Ok r' → SameLinks k r r'
  put_links r r' field given is = let s = put_stores r r' field given is in subst (λ (x : R). SameLinks k r x) s.1 (links-stored k lawful r field s.0)

  pub put_targets : (r r' : R) (field : FieldNo) (given : Input) → put_field k r field given ≡ Ok r' → targets k r' ≡ targets k r
  put_targets r r' field given is = targets_same k lawful (put_links r r' field given is)

  pub put_active : (r r' : R) (field : FieldNo) (given : Input) → put_field k r field given ≡ Ok r' → (k.common r').active ≡ (k.common r).active
  put_active r r' field given is = let s = put_stores r r' field given is in subst (λ (x : R). (k.common x).active ≡ (k.common r).active) s.1 (lawful.stored_active r field s.0)

  pub put_pending : (r r' : R) (field : FieldNo) (given : Input) → put_field k r field given ≡ Ok r' → (k.common r').pending ≡ (k.common r).pending
  put_pending r r' field given is = let s = put_stores r r' field given is in subst (λ (x : R). (k.common x).pending ≡ (k.common r).pending) s.1 (lawful.stored_pending r field s.0)

  pub put_notification : (r r' : R) (field : FieldNo) (given : Input) → put_field k r field given ≡ Ok r' → (k.common r').notification ≡ (k.common r).notification
  put_notification r r' field given is =
      let s = put_stores r r' field given is in
      subst (λ (x : R). (k.common x).notification ≡ (k.common r).notification) s.1 (ap (λ (c : Common). c.notification) (lawful.stored_common r field s.0))

  pub keeps-put_field : (w : World R) (s : ℕ) (field : FieldNo) (given : Input) (r : R) → Has w s → put_field k (at k w s) field given ≡ Ok r → Keeps k w (put w s r)
  keeps-put_field w s field given r there is = keeps-put k w s there r (put_links (at k w s) r field given is)
