-- The rules of an event allow the result of the function, and nothing else.
use Rattle.std.proofs.Common.{◌≡◌, ℕ, Bool, true, false, cond, Some, refl, sym, ap, ◌∙◌}
use Rattle.std.specs.Prelude.{Result, Ok, Err}
use Rattle.std.specs.FinMap.{contains_key}
use Rattle.ioc_values.specs.declared.error.IocError.{IocError}
use Rattle.ioc_values.specs.declared.error.IocError.TheVariants.{Stale, QueueFull}
use Rattle.ioc_values.specs.declared.input.Input.{Input}
use Rattle.ioc_values.specs.declared.value.Value.{Value}
use Rattle.ioc_notify.specs.declared.waiting_lists.Waiting.{Waiting}
use Rattle.ioc_notify.specs.Living.{is_live}
use Rattle.ioc_values.specs.declared.value.Finished.{Finished}
use Rattle.ioc_dbcommon.specs.Steps.{with_put_mark, with_reprocess_mark}
use Rattle.ioc_fields.specs.declared.field_no.FieldNo.{FieldNo}
use Rattle.ioc_ledger.specs.declared.outcome.Outcome.{Outcome}
use Rattle.ioc_ledger.specs.declared.outcome.Outcome.TheVariants.{Reprocess}
use Rattle.ioc_ledger.specs.Requests.{Requests, None, Request, first_outcome, followed_by}
use Rattle.ioc_record.specs.RecordRules.{RecordRules}
use Rattle.ioc_record.specs.Laws.{IsLawful}
use Rattle.ioc_record.specs.Values.{put_field}
use Rattle.ioc_events.specs.declared.reply.Reply.{Reply}
use Rattle.ioc_events.specs.declared.reply.Reply.TheVariants.{Plain, Outcome as Outcome-reply, Notify as Notify-reply}
use Rattle.ioc_store.specs.World.{World, at, common_at, put, changed, has_place, admitted, queued, cancelled}
use Rattle.ioc_events.specs.Starting.{value_to_put, must_wait, started}
use Rattle.ioc_events.proofs.StartRules.{starts-is, starts-allowed, starts_all-is, starts_all-allowed}
use Rattle.ioc_store.specs.Scanning.{rescanned}
use Rattle.ioc_process.specs.Rules.{Requested}
use Rattle.ioc_process.specs.Processing.{Done, ran, resumed_with}
use Rattle.ioc_events.specs.declared.event.Event.{Event}
use Rattle.ioc_events.specs.declared.event.Event.TheVariants.{Process, Put, Complete, Notify, Cancel}
use Rattle.ioc_events.specs.Step.{Stepped, is_there, refused, told, awaits, after_put, after_completion, put_with, processes, begun_or_queued, notify_with, lets_start, done_there, done_alone, with_starts, stepped}
use Rattle.ioc_events.specs.StepRules.{Does, Step, by_itself, then_others, no_such_record, processes_record, refuses_value, stores_alone, stores_while_active, stores_and_processes, not_awaited, completes_record, refuses_notified_value, no_place, waits_its_turn, starts_now, not_live, cancels}
use Rattle.ioc_process.specs.RulesAlone.{request-is, takes_completion-is}
use Rattle.ioc_process.specs.RulesAllowed.{ran-allowed, takes_completion-allowed}
use Rattle.ioc_process.specs.Depth.{request-rule}
use Rattle.ioc_events.proofs.Stepping.{step-missing, step-there, step-process, step-put, step-complete, step-notify, step-no_place, step-let_in, step-cancel}
use Rattle.ioc_store.specs.Given.{Answers}

some_same : {X : Type 0} {x y : X} → Some x ≡ Some y → x ≡ y
some_same is = cc

module _ {R : Type 0} (k : RecordRules R) (lawful : IsLawful k) (answers : Answers) where
  abbrev made : World R → Reply → Requests → Stepped R
  made w reply requests = record { world = w; reply = reply; requests = requests }

  first-outcome : {x y : Requests} {outcome : Outcome} → x ≡ y → first_outcome y ≡ Some outcome → first_outcome x ≡ Some outcome
  first-outcome is first = ap first_outcome is ∙ first

  told-is : (w w' : World R) (s : ℕ) (outcome : Outcome) (requests : Requests) → Requested k answers w s w' requests → first_outcome requests ≡ Some outcome
      → told k answers w s ≡ record { world = w'; reply = Outcome-reply outcome; requests = requests }
  unfolding told
  told-is w w' s outcome requests r is =
      let done = sym (request-rule k lawful answers w s) ∙ request-is k lawful answers r in
      let same : (ran k answers w s).outcome ≡ outcome = some_same (first-outcome (ap (λ (d : Done R). d.requests) done) is) in
      ap (λ (d : Done R). record { world = d.world; reply = Outcome-reply (ran k answers w s).outcome; requests = d.requests }) done
      ∙ ap (λ (o : Outcome). record { world = w'; reply = Outcome-reply o; requests = requests }) same

  put-refused-is : (w : World R) (s : ℕ) (field : FieldNo) (given : Input) (e : IocError) → contains_key w.records s ≡ true → put_field k (at k w s) field given ≡ Err e
      → done_alone k answers w (Put s field given) ≡ refused w e
  unfolding done_there
  put-refused-is w s field given e there is = step-there k answers w (Put s field given) there ∙ ap (put_with k answers w s field) is

  after-is : (w : World R) (s : ℕ) (field : FieldNo) (b active : Bool) → processes k (at k w s) field ≡ b → (common_at k w s).active ≡ active
      → after_put k answers w s field ≡ cond {A = Stepped R} b
      (cond {A = Stepped R} active (record { world = changed k w s (with_reprocess_mark true); reply = Outcome-reply Reprocess; requests = Request Reprocess None None }) (told k answers (changed k w s (with_put_mark true)) s))
      (record { world = w; reply = Plain; requests = None })
  unfolding after_put
  after-is w s field b active is act = rw (is, act) refl

  stale-is : (w : World R) (s number : ℕ) (x : Finished) → contains_key w.records s ≡ true → awaits (common_at k w s) number ≡ false → done_alone k answers w (Complete s number x) ≡ refused w Stale
  unfolding done_there
  stale-is w s number x there is = step-there k answers w (Complete s number x) there ∙ rw is refl

  completion-is : (w : World R) (s : ℕ) (x : Finished) (done : Done R) → resumed_with k answers w s x ≡ done → after_completion k answers w s x ≡ record { world = done.world; reply = Plain; requests = done.requests }
  unfolding after_completion
  completion-is w s x done is = ap (λ (d : Done R). record { world = d.world; reply = Plain; requests = d.requests }) is

  begun-is : (w : World R) (x : Waiting) (b : Bool) → must_wait k w x.target ≡ b
      → begun_or_queued k answers w x ≡ cond {A = Stepped R} b (made (queued x (admitted x.number w)) (Notify-reply x.number) None)
      (made (started k answers (admitted x.number w) x).world (Notify-reply x.number) (started k answers (admitted x.number w) x).requests)
  unfolding begun_or_queued
  begun-is w x b is = rw is refl

  -- The rules allow no other result than that of the function.
  pub does-is : {w : World R} {event : Event} {w' : World R} {reply : Reply} {requests : Requests} → Does k answers w event w' reply requests
      → done_alone k answers w event ≡ record { world = w'; reply = reply; requests = requests }
  does-is (no_such_record {w} {event} missing) = step-missing k answers w event missing
  does-is (processes_record {w} {w'} {s} {outcome} {requests} there r is) = step-process k answers w s there ∙ told-is w w' s outcome requests r is
  does-is (refuses_value {w} {s} {field} {given} {e} there is) = put-refused-is w s field given e there is
  does-is (stores_alone {w} {w'} {s} {field} {given} {r} there is stored plain) =
      step-put k answers w s field given r there is ∙ ap (λ (v : World R). after_put k answers v s field) (sym stored) ∙ after-is w' s field false (common_at k w' s).active plain refl
  does-is (stores_while_active {w} {w'} {s} {field} {given} {r} there is stored proc active) =
      step-put k answers w s field given r there is ∙ ap (λ (v : World R). after_put k answers v s field) (sym stored) ∙ after-is w' s field true true proc active
  does-is (stores_and_processes {w} {w'} {w''} {s} {field} {given} {r} {outcome} {requests} there is stored proc idle q first) =
      step-put k answers w s field given r there is ∙ ap (λ (v : World R). after_put k answers v s field) (sym stored) ∙ after-is w' s field true false proc idle
      ∙ told-is (changed k w' s (with_put_mark true)) w'' s outcome requests q first
  does-is (not_awaited {w} {s} {number} {x} there is) = stale-is w s number x there is
  does-is (completes_record {w} {w'} {s} {number} {x} {requests} there is r) =
      step-complete k answers w s number x there is ∙ completion-is w s x _ (takes_completion-is k lawful answers r)
  does-is (refuses_notified_value {w} {s} {number} {field} {given} {e} there is) = step-notify k answers w s number field given (Err e) there is
  does-is (no_place {w} {s} {number} {field} {given} {v} there is full) = step-no_place k answers w s number field given v there is full
  does-is (waits_its_turn {w} {s} {number} {field} {given} {v} there is place waits) =
      step-let_in k answers w s number field given v there is place ∙ begun-is w (record { number = number; target = s; field = field; value = v }) true waits
  does-is (starts_now {w} {w'} {s} {number} {field} {given} {v} {requests} there is place free r) =
      let x : Waiting = record { number = number; target = s; field = field; value = v } in
      step-let_in k answers w s number field given v there is place ∙ begun-is w x false free
      ∙ ap (λ (d : Done R). made d.world (Notify-reply number) d.requests) (starts-is k lawful answers r)
  does-is (not_live {w} {number} is) = step-cancel k answers w number false is
  does-is (cancels {w} {number} is) = step-cancel k answers w number true is

  -- Lemmas that the result of the function is allowed.

  Allows : World R → Event → Stepped R → Type 0
  Allows w event x = Does k answers w event x.world x.reply x.requests

  process-allowed : (w : World R) (s : ℕ) → contains_key w.records s ≡ true → Allows w (Process s) (told k answers w s)
  unfolding told Allows
  process-allowed w s there = processes_record there (ran-allowed k lawful answers w s) refl

  after-allowed : (w : World R) (s : ℕ) (field : FieldNo) (given : Input) (r : R) → contains_key w.records s ≡ true → put_field k (at k w s) field given ≡ Ok r
      → Allows w (Put s field given) (after_put k answers (rescanned k (put w s r) s field) s field)
  unfolding Allows told
  after-allowed w s field given r there is =
      let v = rescanned k (put w s r) s field in
      elim (processes k (at k v s) field) as (λ b. processes k (at k v s) field ≡ b → Allows w (Put s field given) (after_put k answers v s field)) [
        | true ↦ λ proc. elim (common_at k v s).active as (λ b. (common_at k v s).active ≡ b → Allows w (Put s field given) (after_put k answers v s field)) [
          | true ↦ λ active. rw (after-is v s field true true proc active) (stores_while_active there is refl proc active)
          | false ↦ λ idle.
              let q = ran-allowed k lawful answers (changed k v s (with_put_mark true)) s in
              rw (after-is v s field true false proc idle) (stores_and_processes there is refl proc idle q refl)
        ] refl
        | false ↦ λ plain. rw (after-is v s field false (common_at k v s).active plain refl) (stores_alone there is refl plain)
      ] refl

  put-allowed : (w : World R) (s : ℕ) (field : FieldNo) (given : Input) (result : Result R IocError) → contains_key w.records s ≡ true → put_field k (at k w s) field given ≡ result
      → Allows w (Put s field given) (put_with k answers w s field result)
  unfolding Allows
  put-allowed w s field given (Ok r) there is = after-allowed w s field given r there is
  put-allowed w s field given (Err e) there is = refuses_value there is

  complete-allowed : (w : World R) (s number : ℕ) (x : Finished) → contains_key w.records s ≡ true
      → Allows w (Complete s number x) (cond (awaits (common_at k w s) number) (after_completion k answers w s x) (refused w Stale))
  unfolding Allows after_completion
  complete-allowed w s number x there =
      elim (awaits (common_at k w s) number) as (λ b. awaits (common_at k w s) number ≡ b →
      let done = cond {A = Stepped R} b (after_completion k answers w s x) (refused w Stale) in
      Does k answers w (Complete s number x) done.world done.reply done.requests) [
        | true ↦ λ is. completes_record there is (takes_completion-allowed k lawful answers w s x)
        | false ↦ λ is. not_awaited there is
      ] refl

  let_in-allowed : (w : World R) (s number : ℕ) (field : FieldNo) (given : Input) (v : Value) → contains_key w.records s ≡ true → value_to_put k (at k w s) field given ≡ Ok v → has_place w number ≡ true
      → Allows w (Notify s number field given) (begun_or_queued k answers w (record { number = number; target = s; field = field; value = v }))
  unfolding Allows begun_or_queued
  let_in-allowed w s number field given v there is place =
      let x : Waiting = record { number = number; target = s; field = field; value = v } in
      elim (must_wait k w s) as (λ b. must_wait k w s ≡ b →
      let done = cond {A = Stepped R} b (made (queued x (admitted number w)) (Notify-reply number) None) (made (started k answers (admitted number w) x).world (Notify-reply number) (started k answers (admitted number w) x).requests) in
      Does k answers w (Notify s number field given) done.world done.reply done.requests) [
        | true ↦ λ waits. waits_its_turn there is place waits
        | false ↦ λ free. starts_now there is place free (starts-allowed k lawful answers (admitted number w) x)
      ] refl

  notify-allowed : (w : World R) (s number : ℕ) (field : FieldNo) (given : Input) (value : Result Value IocError) → contains_key w.records s ≡ true → value_to_put k (at k w s) field given ≡ value
      → Allows w (Notify s number field given) (notify_with k answers w s number field value)
  unfolding Allows
  notify-allowed w s number field given (Err e) there is = refuses_notified_value there is
  notify-allowed w s number field given (Ok v) there is =
      elim (has_place w number) as (λ b. has_place w number ≡ b →
      let done = cond {A = Stepped R} b (begun_or_queued k answers w (record { number = number; target = s; field = field; value = v })) (refused w QueueFull) in
      Does k answers w (Notify s number field given) done.world done.reply done.requests) [
        | true ↦ λ place. let_in-allowed w s number field given v there is place
        | false ↦ λ full. no_place there is full
      ] refl

  cancel-allowed : (w : World R) (number : ℕ) → Allows w (Cancel number) (done_there k answers w (Cancel number))
  unfolding Allows done_there
  cancel-allowed w number =
      elim (is_live number w.live) as (λ b. is_live number w.live ≡ b →
      let done = cond {A = Stepped R} b (made (cancelled k number w) Plain None) (refused w Stale) in
      Does k answers w (Cancel number) done.world done.reply done.requests) [
        | true ↦ λ live. cancels live
        | false ↦ λ not. not_live not
      ] refl

  there-allowed : (w : World R) (event : Event) → is_there w event ≡ true → Allows w event (done_there k answers w event)
  unfolding done_there
  there-allowed w (Process s) there = process-allowed w s there
  there-allowed w (Put s field given) there = put-allowed w s field given _ there refl
  there-allowed w (Complete s number x) there = complete-allowed w s number x there
  there-allowed w (Notify s number field given) there = notify-allowed w s number field given _ there refl
  there-allowed w (Cancel number) there = cancel-allowed w number

  pub does-allowed : (w : World R) (event : Event) → Does k answers w event (done_alone k answers w event).world (done_alone k answers w event).reply (done_alone k answers w event).requests
  unfolding Allows
  does-allowed w event =
      elim (is_there w event) as (λ b. is_there w event ≡ b → Allows w event (done_alone k answers w event)) [
        | true ↦ λ there. rw (step-there k answers w event there) (there-allowed w event there)
        | false ↦ λ missing. rw (step-missing k answers w event missing) (no_such_record missing)
      ] refl

  -- Lemmas about the starts after an event.

  starting-is : (event : Event) (first : Stepped R) (b : Bool) → lets_start first.reply ≡ b
      → cond {A = Stepped R} (lets_start first.reply) (with_starts k answers first) first ≡ cond {A = Stepped R} b (with_starts k answers first) first
  starting-is event first b is = ap (λ (c : Bool). cond {A = Stepped R} c (with_starts k answers first) first) is

  pub step-is : {w : World R} {event : Event} {w' : World R} {reply : Reply} {requests : Requests} → Step k answers w event w' reply requests
      → stepped k answers w event ≡ record { world = w'; reply = reply; requests = requests }
  unfolding stepped
  step-is (by_itself {w} {w'} {event} {reply} {requests} does lets) =
      ap (λ (x : Stepped R). cond {A = Stepped R} (lets_start x.reply) (with_starts k answers x) x) (does-is does) ∙ starting-is event (made w' reply requests) false lets
  step-is (then_others {w} {w'} {w''} {event} {reply} {first} {rest} does lets others) =
      ap (λ (x : Stepped R). cond {A = Stepped R} (lets_start x.reply) (with_starts k answers x) x) (does-is does) ∙ starting-is event (made w' reply first) true lets
      ∙ ap (λ (d : Done R). made d.world reply (followed_by first d.requests)) (starts_all-is k lawful answers others)

  StepAllows : World R → Event → Stepped R → Type 0
  StepAllows w event x = Step k answers w event x.world x.reply x.requests

  pub step-allowed : (w : World R) (event : Event) → Step k answers w event (stepped k answers w event).world (stepped k answers w event).reply (stepped k answers w event).requests
  unfolding stepped StepAllows
  step-allowed w event =
      let first = done_alone k answers w event in
      elim (lets_start first.reply) as (λ b. lets_start first.reply ≡ b → StepAllows w event (cond {A = Stepped R} b (with_starts k answers first) first)) [
        | true ↦ λ lets. then_others (does-allowed w event) lets (starts_all-allowed k lawful answers first.world)
        | false ↦ λ lets. by_itself (does-allowed w event) lets
      ] refl
