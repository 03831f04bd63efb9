-- After an event, an idle record is part of no put with notification.
use Rattle.std.proofs.Common.{◌≡◌, ◌≢◌, ℕ, Bool, true, false, not, List, Option, Some, None as Nothing_, Ok, IsSome, is_some, refl, sym, ap, subst, ◌∙◌}
use Rattle.std.specs.Prelude.{◌&&◌}
use Rattle.std.specs.FinMap.{contains_key}
use Rattle.ioc_values.specs.declared.input.Input.{Input}
use Rattle.ioc_fields.specs.declared.field_no.FieldNo.{FieldNo}
use Rattle.ioc_ledger.specs.Requests.{Requests}
use Rattle.ioc_notify.specs.declared.live_numbers.Live.{Live}
use Rattle.ioc_notify.specs.declared.waiting_lists.Waiting.{Waiting}
use Rattle.ioc_dbcommon.specs.declared.common.Common.{Common}
use Rattle.ioc_dbcommon.specs.Steps.{with_put_mark, with_reprocess_mark, with_notification}
use Rattle.ioc_record.specs.RecordRules.{RecordRules}
use Rattle.ioc_record.specs.Values.{put_field}
use Rattle.ioc_record.specs.Laws.{IsLawful}
use Rattle.ioc_store.specs.World.{World, Has, at, common_at, put, begun, begun_at, admitted, queued, unqueued, cancelled}
use Rattle.ioc_store.specs.Freeing.{at_cancelled-either, at_missing}
use Rattle.ioc_store.specs.Given.{Answers}
use Rattle.ioc_store.specs.Scanning.{rescanned}
use Rattle.ioc_process.specs.Rules.{IdleIsFree, IsSettled}
use Rattle.ioc_process.specs.Telling.{IsFree, told-put, told-changed, changed-other, put-other, rescanned-told, notified-told, requested-told, resumes-told}
use Rattle.ioc_events.specs.declared.event.Event.{Event}
use Rattle.ioc_events.specs.declared.reply.Reply.{Reply}
use Rattle.ioc_events.specs.Starting.{is_ready, taken_and_stored, NoneReady}
use Rattle.ioc_events.specs.Holding.{HoldersAwait}
use Rattle.ioc_events.specs.StepRules.{Does, Step, by_itself, then_others, Starts, to_be_processed, at_once_told, StartsAll, no_more, next_starts, no_such_record, processes_record, refuses_value, stores_alone, stores_while_active, stores_and_processes, not_awaited, completes_record, refuses_notified_value, no_place, waits_its_turn, starts_now, not_live, cancels}
use Rattle.ioc_events.proofs.Stepping.{put_active, put_notification}
use Rattle.ioc_events.proofs.QuietEvents.{step-settled}
use Rattle.ioc_events.proofs.NoneReady.{step-none}

module _ {R : Type 0} (k : RecordRules R) (lawful : IsLawful k) (n : ℕ) where
  abbrev Free : World R → Type 0
  Free = IsFree k lawful n

  -- It doesn't matter which puts with notification are live or wait.
  beside-told : (live : List Live) (waiting : List Waiting) (w : World R) → Free w → Free (record w { live = live; waiting = waiting })
  unfolding at
  beside-told live waiting w told = told

  pub begun-told : (moment : ℕ) (w : World R) → Free w → Free (begun_at moment w)
  unfolding at begun begun_at
  begun-told moment w told = told

  stored-told : (w w' : World R) (s : ℕ) (field : FieldNo) (given : Input) (r : R) → put_field k (at k w s) field given ≡ Ok r → w' ≡ rescanned k (put w s r) s field → Free w → Free w'
  stored-told w w' s field given r is stored told =
      subst Free (sym stored) (rescanned-told k lawful n (put w s r) s field (told-put k lawful n w s r (put_active k lawful (at k w s) r field given is) (put_notification k lawful (at k w s) r field given is) told))

  taken-other : (w : World R) (x : Waiting) → n ≢ x.target → Free w → Free (taken_and_stored k w x)
  unfolding taken_and_stored
  taken-other w x apart told = rescanned-told k lawful n _ x.target x.field (put-other k lawful n _ x.target _ apart (changed-other k lawful n w x.target (with_notification (Some x.number)) apart told))

  starts-told : (answers : Answers) {w : World R} {x : Waiting} {w' : World R} {requests : Requests} → Starts k answers w x w' requests → Free w → Free w'
  starts-told answers (to_be_processed {w} {stored} {w'} {x} is _ r) told =
      requested-told k lawful n answers r (λ apart. changed-other k lawful n stored x.target (with_put_mark true) apart (subst Free (sym is) (taken-other w x apart told)))
  starts-told answers (at_once_told {w} {stored} {x} is _) told = notified-told k lawful n stored x.target (λ apart. subst Free (sym is) (taken-other w x apart told))

  starts_all-told : (answers : Answers) {w w' : World R} {requests : Requests} → StartsAll k answers w w' requests → Free w → Free w'
  unfolding unqueued
  starts_all-told answers (no_more _) told = told
  starts_all-told answers (next_starts {w} {w'} {w''} {x} _ one others) told = starts_all-told answers others (starts-told answers one (beside-told _ _ w told))

  cancelled-told : (m : ℕ) (w : World R) → Free w → Free (cancelled k m w)
  cancelled-told m w told =
      at_cancelled-either k m (λ r r'. IdleIsFree (k.common r) → IdleIsFree (k.common r')) (λ r h. h)
      (λ r h _. ap (λ (c : Common). c.notification) (lawful.common_set r (with_notification Nothing_ (k.common r)))) w n told

  does-told : (answers : Answers) {w w' : World R} {event : Event} {reply : Reply} {requests : Requests} → Does k answers w event w' reply requests → Free w → Free w'
  unfolding admitted queued
  does-told answers (no_such_record _) told = told
  does-told answers (processes_record _ r _) told = requested-told k lawful n answers r (λ _. told)
  does-told answers (refuses_value _ _) told = told
  does-told answers (stores_alone {w} {w'} {s} {field} {given} {r} _ is stored _) told = stored-told w w' s field given r is stored told
  does-told answers (stores_while_active {w} {w'} {s} {field} {given} {r} _ is stored _ _) told =
      told-changed k lawful n w' s (with_reprocess_mark true) (λ c. refl) (λ c. refl) (stored-told w w' s field given r is stored told)
  does-told answers (stores_and_processes {w} {w'} {w''} {s} {field} {given} {r} _ is stored _ _ q _) told =
      requested-told k lawful n answers q (λ _. told-changed k lawful n w' s (with_put_mark true) (λ c. refl) (λ c. refl) (stored-told w w' s field given r is stored told))
  does-told answers (not_awaited _ _) told = told
  does-told answers (completes_record _ _ r) told = resumes-told k lawful n answers r (λ _. told)
  does-told answers (refuses_notified_value _ _) told = told
  does-told answers (no_place _ _ _) told = told
  does-told answers (waits_its_turn {w} _ _ _ _) told = beside-told _ _ w told
  does-told answers (starts_now {w} _ _ _ _ one) told = starts-told answers one (beside-told _ _ w told)
  does-told answers (not_live _) told = told
  does-told answers (cancels {w} {number} _) told = cancelled-told number w told

  pub step-told : (answers : Answers) {w w' : World R} {event : Event} {reply : Reply} {requests : Requests} → Step k answers w event w' reply requests → Free w → Free w'
  step-told answers (by_itself does _) told = does-told answers does told
  step-told answers (then_others does _ others) told = starts_all-told answers others (does-told answers does told)

-- Lemmas about worlds between events.

some-one : (o : Option ℕ) → (IsSome o → ⊥) → o ≡ Nothing_
some-one Nothing_ none = refl
some-one (Some m) none = absurd (none refl)

true_from : (b : Bool) → (b ≡ false → ⊥) → b ≡ true
true_from true not_false = refl
true_from false not_false = absurd (not_false refl)

some-not_none : {o : Option ℕ} → IsSome o → o ≡ Nothing_ → ⊥
some-not_none some is = cc

not-both : {b : Bool} → b ≡ true → b ≡ false → ⊥
not-both is isnt = cc

-- A waiting one may start if its record exists, is idle and is part of none.
ready-parts : (there active : Bool) (o : Option ℕ) → there && (not active && not (is_some o)) ≡ false → there ≡ true → active ≡ false → IsSome o
ready-parts true false (Some m) unready is idle = refl
ready-parts true false Nothing_ unready is idle = cc
ready-parts true true o unready is idle = cc
ready-parts false active o unready is idle = cc

unready-active : (there active : Bool) (o : Option ℕ) → active ≡ true → there && (not active && not (is_some o)) ≡ false
unready-active true true o is = refl
unready-active true false o is = cc
unready-active false active o is = refl

module _ {R : Type 0} (k : RecordRules R) (lawful : IsLawful k) where
  pub all-told : (w : World R) → IsSettled k w → HoldersAwait k w → (n : ℕ) → IsFree k lawful n w
  all-told w settled await n idle =
      elim (contains_key w.records n) as (λ b. contains_key w.records n ≡ b → (common_at k w n).notification ≡ Nothing_) [
        | true ↦ λ has. some-one _ (λ some. not-both ((settled.quiet.quiet n has).1 (await.records n has some)) idle)
        | false ↦ λ isnt. absurd (not-both (ap (λ (r : R). (k.common r).active) (at_missing k 0 w n isnt) ∙ lawful.missing_is_active) idle)
      ] refl

  pub none-ready : (w : World R) → IsSettled k w → HoldersAwait k w → NoneReady k w
  unfolding is_ready
  none-ready w settled await = record {
    none = λ x h. elim (contains_key w.records x.target) as (λ b. contains_key w.records x.target ≡ b → b && (not (common_at k w x.target).active && not (is_some (common_at k w x.target).notification)) ≡ false) [
      | true ↦ λ has. unready-active true (common_at k w x.target).active (common_at k w x.target).notification ((settled.quiet.quiet x.target has).1 (await.waiting x h has))
      | false ↦ λ isnt. refl
    ] refl;
  }

  ready-of : (w : World R) (x : Waiting) → is_ready k w x ≡ false → Has w x.target → (common_at k w x.target).active ≡ false → IsSome (common_at k w x.target).notification
  unfolding is_ready
  ready-of w x unready has idle = ready-parts (contains_key w.records x.target) (common_at k w x.target).active (common_at k w x.target).notification unready has idle

  pub awaits-of : (w : World R) → IsSettled k w → ((n : ℕ) → IsFree k lawful n w) → NoneReady k w → HoldersAwait k w
  awaits-of w settled told none = record {
    records = λ n has some. (settled.quiet.quiet n has).0 (true_from _ (λ idle. some-not_none some (told n idle)));
    waiting = λ x h has. (settled.quiet.quiet x.target has).0 (true_from _ (λ idle. some-not_none (ready-of w x (none.none x h) has idle) (told x.target idle)));
  }

  pub step-awaits : (answers : Answers) {w w' : World R} {event : Event} {reply : Reply} {requests : Requests} → Step k answers w event w' reply requests → IsSettled k w → HoldersAwait k w → HoldersAwait k w'
  step-awaits answers {w} {w'} step settled await =
      awaits-of w' (step-settled k lawful answers step settled) (λ n. step-told k lawful n answers step (all-told w settled await n)) (step-none k lawful answers step (none-ready w settled await))

  pub begun-awaits : (moment : ℕ) (w : World R) → HoldersAwait k w → HoldersAwait k (begun_at moment w)
  unfolding at begun begun_at
  begun-awaits moment w await = record { records = λ n has some. await.records n has some; waiting = λ x h has. await.waiting x h has }
