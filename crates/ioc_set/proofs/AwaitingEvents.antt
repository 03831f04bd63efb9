-- After an event, as many records await a completion as before, plus one for each call that is
-- answered later.
use Rattle.std.proofs.Common.{◌≡◌, ℕ, ◌+◌, Bool, true, false, List, [], ◌++◌, length, drop, Option, Some, None as Nothing_, Ok, Err, IsSome, IsTrue, refl, sym, ap, subst, ◌∙◌, append-nil, arith}
use Rattle.std.specs.Prelude.{◌↔◌, ◌&&◌, Result}
use Rattle.std.proofs.Math.Seq.{drop-append_seam}
use Rattle.ioc_values.specs.declared.error.IocError.{IocError}
use Rattle.ioc_values.specs.declared.input.Input.{Input}
use Rattle.ioc_values.specs.declared.value.Value.{Value}
use Rattle.ioc_fields.specs.declared.field_no.FieldNo.{FieldNo}
use Rattle.ioc_ledger.specs.Requests.{Requests}
use Rattle.ioc_notify.specs.declared.waiting_lists.Waiting.{Waiting}
use Rattle.ioc_dbcommon.specs.Steps.{with_put_mark, with_reprocess_mark}
use Rattle.ioc_record.specs.RecordRules.{RecordRules}
use Rattle.ioc_record.specs.Values.{put_field, put_tested, put_once_tested, put_untested, converted_for}
use Rattle.ioc_record.specs.Laws.{IsLawful}
use Rattle.ioc_store.specs.declared.call.Call.{Call}
use Rattle.ioc_store.specs.World.{World, Has, at, common_at, put, changed}
use Rattle.ioc_store.specs.StepFrames.{stored_with}
use Rattle.ioc_store.specs.Given.{Answers, later_among}
use Rattle.ioc_store.specs.Scanning.{rescanned}
use Rattle.ioc_process.specs.Keeping.{keeps_all}
use Rattle.ioc_process.specs.Rules.{IsSettled}
use Rattle.ioc_events.specs.declared.event.Event.{Event}
use Rattle.ioc_events.specs.declared.event.Event.TheVariants.{Complete}
use Rattle.ioc_events.specs.declared.reply.Reply.{Reply}
use Rattle.ioc_events.specs.declared.reply.Reply.TheVariants.{Refused}
use Rattle.ioc_events.specs.Starting.{is_ready, taken_and_stored}
use Rattle.ioc_events.specs.Step.{awaits, is_pending, calls_since}
use Rattle.ioc_events.specs.StepRules.{Does, Step, by_itself, then_others, Starts, to_be_processed, at_once_told, StartsAll, no_more, next_starts, no_such_record, processes_record, refuses_value, stores_alone, stores_while_active, stores_and_processes, not_awaited, completes_record, refuses_notified_value, no_place, waits_its_turn, starts_now, not_live, cancels}
use Rattle.ioc_set.specs.Awaiting.{awaited, one_if_completes}
use Rattle.ioc_set.proofs.AwaitingAlike.{Alike, alike-on, alike-admitted, alike-queued, alike-unqueued, alike-changed, alike-stored, alike-notification, alike-rescanned, alike-notified, alike-cancelled}
use Rattle.ioc_set.proofs.AwaitingCounts.{Fine, fine-alike}
use Rattle.ioc_set.proofs.AwaitingRequests.{requested-fine, resumes-fine}

-- A refusal completes nothing.
refused-none : (event : Event) (e : IocError) → one_if_completes event (Refused e) ≡ 0
refused-none (Complete s number x) e = refl
refused-none event e = refl

-- An idle record awaits nothing, if one that awaits a completion is active.
none-awaited : (b : Bool) (o : Option ℕ) → (IsTrue b ↔ IsSome o) → b ≡ false → o ≡ Nothing_
none-awaited b Nothing_ quiet idle = refl
none-awaited true (Some n) quiet idle = cc
none-awaited false (Some n) quiet idle = absurd (let is : false ≡ true = quiet.1 refl in cc)

-- A record that awaits this number awaits a completion.
is-awaited : (o : Option ℕ) (number : ℕ) → is_pending o number ≡ true → IsSome o
is-awaited Nothing_ number is = cc
is-awaited (Some n) number is = refl

both_left : (a b : Bool) → a && b ≡ true → a ≡ true
both_left true b is = refl
both_left false b is = is

module _ {R : Type 0} (k : RecordRules R) (lawful : IsLawful k) (answers : Answers) where
  -- A put that isn't refused stores a value.
  tested-stored : (r r' : R) (field : FieldNo) (given : Input) (tested : Result Unit IocError) → put_once_tested k r field given tested ≡ Ok r' → (v : Value) × (k.stored r field v ≡ r')
  unfolding put_untested
  tested-stored r r' field given (Ok _) is = stored_with k r r' field (converted_for k r field given) is
  tested-stored r r' field given (Err e) is = cc

  put-stored : (r r' : R) (field : FieldNo) (given : Input) → put_field k r field given ≡ Ok r' → (v : Value) × (k.stored r field v ≡ r')
  unfolding put_field
  put-stored r r' field given is = tested-stored r r' field given (put_tested k r field) is

  stored-alike : (w w' : World R) (s : ℕ) (field : FieldNo) (given : Input) (r : R) → Has w s → put_field k (at k w s) field given ≡ Ok r → w' ≡ rescanned k (put w s r) s field → Alike k w w'
  stored-alike w w' s field given r there is stored =
      let with = put-stored (at k w s) r field given is in
      let first : Alike k w (put w s r) = subst (λ (x : R). Alike k w (put w s x)) with.1 (alike-stored k lawful w s field with.0 there) in
      subst (Alike k w) (sym stored) (alike-on k first (alike-rescanned k lawful (put w s r) s field (first.keeps.has s there)))

  marked-alike : (w : World R) (s : ℕ) → Has w s → Alike k w (changed k w s (with_put_mark true))
  marked-alike w s there = alike-changed k lawful w s (with_put_mark true) there (λ c. (refl, refl)) (λ c. refl) (λ c. refl)

  taken-alike : (w : World R) (x : Waiting) → Has w x.target → Alike k w (taken_and_stored k w x)
  unfolding taken_and_stored
  taken-alike w x there =
      let one = alike-notification k lawful w x.target (Some x.number) there in
      let two = alike-on k one (alike-stored k lawful _ x.target x.field x.value (one.keeps.has x.target there)) in
      alike-on k two (alike-rescanned k lawful _ x.target x.field (two.keeps.has x.target there))

  ready-has : (w : World R) (x : Waiting) → is_ready k w x ≡ true → Has w x.target
  unfolding is_ready
  ready-has w x is = both_left _ _ is

  -- What an event leaves: as many as before, plus one for each call that is answered later, minus
  -- one if it completes one.
  record Counts (completed : ℕ) (w v : World R) : Type 0 where
    made : List Call
    calls : v.calls ≡ w.calls ++ made
    count : awaited k v.records + completed ≡ awaited k w.records + later_among made

  module _ (w0 : World R) (settled : IsSettled k w0) where
    abbrev Fine_ : ℕ → World R → Type 0
    Fine_ = Fine k lawful w0 settled.closed

    first-fine : Fine_ 0 w0
    first-fine = record {
      keeps = keeps_all k w0;
      made = [];
      calls = sym (append-nil w0.calls);
      count = omega arith;
      idle = λ n there idle. none-awaited _ _ (settled.quiet.quiet n there) idle;
    }

    fine-counts : {completed : ℕ} {w : World R} → Fine_ completed w → Counts completed w0 w
    fine-counts fine = record { made = fine.made; calls = fine.calls; count = fine.count }

    on : {due : ℕ} {w v : World R} → Alike k w v → Fine_ due w → Fine_ due v
    on alike fine = fine-alike k lawful w0 settled.closed alike fine

    -- Lemmas about puts with notification that start.

    starts-fine : {due : ℕ} {w : World R} {x : Waiting} {w' : World R} {requests : Requests} → Starts k answers w x w' requests → Has w0 x.target → Fine_ due w → Fine_ due w'
    starts-fine (to_be_processed {w} {stored} {w'} {x} is _ r) there fine =
        let first = on (subst (Alike k w) (sym is) (taken-alike w x (fine.keeps.has x.target there))) fine in
        requested-fine k lawful answers w0 settled.closed r there (on (marked-alike stored x.target (first.keeps.has x.target there)) first)
    starts-fine (at_once_told {w} {stored} {x} is _) there fine =
        let first = on (subst (Alike k w) (sym is) (taken-alike w x (fine.keeps.has x.target there))) fine in
        on (alike-notified k lawful stored x.target (first.keeps.has x.target there)) first

    starts_all-fine : {due : ℕ} {w w' : World R} {requests : Requests} → StartsAll k answers w w' requests → Fine_ due w → Fine_ due w'
    starts_all-fine (no_more _) fine = fine
    starts_all-fine (next_starts {w} {w'} {w''} {x} next one others) fine =
        starts_all-fine others (starts-fine one (fine.keeps.only x.target (ready-has w x next.ready)) (on (alike-unqueued k x.number w) fine))

    -- Lemmas about an event by itself.

    -- The event leaves a world in which it may continue.
    abbrev Leaves : Event → Reply → World R → Type 0
    Leaves event reply v = Fine_ (one_if_completes event reply) v

    nothing-done : (event : Event) (e : IocError) → Leaves event (Refused e) w0
    nothing-done event e = (subst (λ (n : ℕ). Fine_ n w0) (sym (refused-none event e)) first-fine)

    put-leaves : {w' : World R} (s : ℕ) (field : FieldNo) (given : Input) (r : R) → Has w0 s → put_field k (at k w0 s) field given ≡ Ok r → w' ≡ rescanned k (put w0 s r) s field → Fine_ 0 w'
    put-leaves {w'} s field given r there is stored = on (stored-alike w0 w' s field given r there is stored) first-fine

  does-leaves : {w w' : World R} {event : Event} {reply : Reply} {requests : Requests} → Does k answers w event w' reply requests → (settled : IsSettled k w) → Leaves w settled event reply w'
  does-leaves (no_such_record {w} {event} _) settled = nothing-done w settled event _
  does-leaves (processes_record {w} there r _) settled = (requested-fine k lawful answers w settled.closed r there (first-fine w settled))
  does-leaves (refuses_value {w} _ _) settled = (first-fine w settled)
  does-leaves (stores_alone {w} {w'} {s} {field} {given} {r} there is stored _) settled = (put-leaves w settled s field given r there is stored)
  does-leaves (stores_while_active {w} {w'} {s} {field} {given} {r} there is stored _ _) settled =
      let first = put-leaves w settled s field given r there is stored in
      (on w settled (alike-changed k lawful w' s (with_reprocess_mark true) (first.keeps.has s there) (λ c. (refl, refl)) (λ c. refl) (λ c. refl)) first)
  does-leaves (stores_and_processes {w} {w'} {w''} {s} {field} {given} {r} there is stored _ _ q _) settled =
      let first = put-leaves w settled s field given r there is stored in
      (requested-fine k lawful answers w settled.closed q there (on w settled (marked-alike w' s (first.keeps.has s there)) first))
  does-leaves (not_awaited {w} _ _) settled = (first-fine w settled)
  does-leaves (completes_record {w} {w'} {s} {number} there awaits r) settled =
      (resumes-fine k lawful answers w settled.closed r there (is-awaited (common_at k w s).pending number awaits) (first-fine w settled))
  does-leaves (refuses_notified_value {w} _ _) settled = (first-fine w settled)
  does-leaves (no_place {w} _ _ _) settled = (first-fine w settled)
  does-leaves (waits_its_turn {w} {s} {number} {field} {given} {v} _ _ _ _) settled = (on w settled (alike-on k (alike-admitted k number w) (alike-queued k (record { number = number; target = s; field = field; value = v }) _)) (first-fine w settled))
  does-leaves (starts_now {w} {w'} {s} {number} there _ _ _ one) settled = (starts-fine w settled one there (on w settled (alike-admitted k number w) (first-fine w settled)))
  does-leaves (not_live {w} _) settled = (first-fine w settled)
  does-leaves (cancels {w} {number} _) settled = (on w settled (alike-cancelled k lawful number w) (first-fine w settled))

  step-counts : {w w' : World R} {event : Event} {reply : Reply} {requests : Requests} → Step k answers w event w' reply requests → IsSettled k w → Counts (one_if_completes event reply) w w'
  step-counts (by_itself {event = event} {reply = reply} does _) settled = fine-counts _ settled (does-leaves does settled)
  step-counts (then_others {event = event} {reply = reply} does starts others) settled = fine-counts _ settled (starts_all-fine _ settled others (does-leaves does settled))

  since : (w v : World R) (made : List Call) → v.calls ≡ w.calls ++ made → calls_since w v ≡ made
  since w v made is = ap (λ (xs : List Call). drop (length w.calls) xs) is ∙ drop-append_seam w.calls made

  pub step-awaited : {w w' : World R} {event : Event} {reply : Reply} {requests : Requests} → Step k answers w event w' reply requests → IsSettled k w
      → awaited k w'.records + one_if_completes event reply ≡ awaited k w.records + later_among (calls_since w w')
  step-awaited {w} {w'} r settled =
      let counts = step-counts r settled in
      counts.count ∙ ap (λ (xs : List Call). awaited k w.records + later_among xs) (sym (since w w' counts.made counts.calls))
