-- A request leaves the waiting list unchanged.
use Rattle.std.proofs.Common.{◌≡◌, nat_eq, ℕ, zero, suc, true, false, cond, List, [], ◌∷◌, ◌++◌, length, Option, Some, None as Nothing_, refl, ap, subst, ◌∙◌, inl, inr, arith}
use Rattle.std.specs.Prelude.{nat_lt, not, Contains, Result, Ok, Err}
use Rattle.ioc_ledger.specs.Requests.{None, more}
use Rattle.ioc_notify.specs.declared.waiting_lists.Waiting.{Waiting}
use Rattle.ioc_fields.specs.declared.field_no.FieldNo.{FieldNo}
use Rattle.ioc_record.specs.RecordRules.{RecordRules}
use Rattle.ioc_record.specs.Laws.{IsLawful}
use Rattle.ioc_dbcommon.specs.declared.common.Common.{Common}
use Rattle.ioc_dbcommon.specs.Steps.{with_put_mark, with_reprocess_mark, with_notification}
use Rattle.ioc_store.specs.declared.outbox.OutboxItem.{OutboxItem}
use Rattle.ioc_store.specs.World.{World, at, common_at, put, changed, called, sent, lost, taken_on, let_go, has_place, admitted, queued, cancelled}
use Rattle.ioc_notify.specs.Waits.{without}
use Rattle.ioc_notify.specs.Living.{is_live}
use Rattle.ioc_store.specs.Given.{Answers}
use Rattle.ioc_store.specs.Scanning.{rescanned, rewired}
use Rattle.ioc_store.specs.Notifying.{notified}
use Rattle.ioc_process.specs.Processing.{request}
use Rattle.ioc_events.specs.declared.event.Event.{Event}
use Rattle.ioc_events.specs.declared.event.Event.TheVariants.{Process, Put, Complete, Notify, Cancel}
use Rattle.ioc_events.specs.declared.reply.Reply.TheVariants.{Plain, Outcome as Outcome-reply, Notify as Notify-reply}
use Rattle.ioc_events.specs.Local.{number_of}
use Rattle.ioc_events.specs.Step.{Stepped, is_there, refused, told, after_put, after_completion, awaits, put_with, begun_or_queued, notify_with, done_there, done_alone}
use Rattle.ioc_values.specs.declared.error.IocError.{IocError}
use Rattle.ioc_values.specs.declared.error.IocError.TheVariants.{NoRecord, Stale, QueueFull}
use Rattle.ioc_values.specs.declared.value.Value.{Value}
use Rattle.ioc_values.specs.declared.value.Finished.{Finished}
use Rattle.ioc_ledger.specs.Requests.{Request}
use Rattle.ioc_ledger.specs.declared.outcome.Outcome.TheVariants.{Reprocess}
use Rattle.ioc_record.specs.Values.{put_field}
use Rattle.std.proofs.lemmas.List.Elements.{Contains-append_cases}
use Rattle.ioc_events.specs.Starting.{value_to_put, must_wait}
use Rattle.ioc_events.specs.Starting.{processes, taken_and_stored, started}
use Rattle.ioc_process.specs.Alongside.{Guards, HolderGuards, pass-goes, tell-goes, request-goes, ran-goes, takes_completion-goes}
use Rattle.ioc_store.specs.ScanLaws.{moved-either, rescanned-either, rewired-either}
use Rattle.ioc_store.specs.NotifyLaws.{notified-either}

last-item : (x y : Waiting) → Contains (x ∷ []) y → x ≡ y
last-item x y (zero, lt, is) = is
last-item x y (suc i, lt, is) = absurd (omega arith)

-- Those that wait without one of them all waited.
pub waited : (number : ℕ) (xs : List Waiting) (x : Waiting) → Contains (without number xs) x → Contains xs x
waited number [] x h = h
waited number (y ∷ xs) x h =
    let later : Contains (without number xs) x → Contains (y ∷ xs) x = λ c. let i = waited number xs x c in (suc i.0, omega (arith, i.1), i.2) in
    elim (not (nat_eq y.number number)) as (λ b. Contains (cond b (y ∷ without number xs) (without number xs)) x → Contains (y ∷ xs) x) [
      | true ↦ λ c. elim (Contains-append_cases (y ∷ []) (without number xs) x c) [
        | inl here ↦ (0, omega arith, last-item y x here)
        | inr there ↦ later there
      ]
      | false ↦ later
    ] h

sent-waiting : {R : Type 0} (item : OutboxItem) (w : World R) → (sent item w).waiting ≡ w.waiting
unfolding sent
sent-waiting item w = elim (nat_lt (length w.outbox) 256) as (λ b. (cond b (record w { outbox = w.outbox ++ item ∷ [] }) (record w { dropped = more w.dropped })).waiting ≡ w.waiting) [
  | true ↦ refl
  | false ↦ refl
]

module _ {R : Type 0} (k : RecordRules R) (lawful : IsLawful k) where
  -- The same world, with these that wait.
  abbrev Waits : List Waiting → World R → World R → Type 0
  Waits waiting w v = (w ≡ v) × (w.waiting ≡ waiting)

  holder_guards : (waiting : List Waiting) → HolderGuards k (λ n. Unit {0}) (Waits waiting)
  unfolding put changed taken_on let_go
  holder_guards waiting = record {
    same = λ inv n _. ap (λ (w : World R). at k w n) inv.0;
    hold = λ inv n may held. (ap (λ (w : World R). changed k w n (with_notification held)) inv.0, inv.1);
    take_on = λ inv number. (ap (taken_on number) inv.0, inv.1);
    lets_go = λ inv number. (ap (let_go number) inv.0, inv.1);
  }

  guards : (waiting : List Waiting) → Guards k (λ n. Unit {0}) (λ n r. Unit {0}) (Waits waiting)
  unfolding put called lost
  guards waiting = record {
    same = λ inv n _. ap (λ (w : World R). at k w n) inv.0;
    good = λ inv n may. tt;
    calls = λ inv. ap (λ (w : World R). w.calls) inv.0;
    moment = λ inv. ap (λ (w : World R). w.moment) inv.0;
    link = λ good target links. tt;
    common = λ good c same. tt;
    taken = λ good got. tt;
    posted = λ good changes. tt;
    finished = λ good x. tt;
    stored = λ good f v. tt;
    put = λ inv n may r good _. (ap (λ (w : World R). put w n r) inv.0, inv.1);
    call = λ inv one. (ap (called one) inv.0, inv.1);
    send = λ inv item. (ap (sent item) inv.0, sent-waiting item _ ∙ inv.1);
    lose = λ inv. (ap lost inv.0, inv.1);
    pass = pass-goes k _ _ (holder_guards waiting);
    tell = tell-goes k _ _ (holder_guards waiting);
  }

  pub request-waiting : (answers : Answers) (w : World R) (s : ℕ) → (request k answers w s).world.waiting ≡ w.waiting
  request-waiting answers w s = (request-goes k lawful _ _ _ (guards w.waiting) answers (refl, refl) s tt).inv.1

  marked-waiting : (w : World R) (n : ℕ) (f : Common → Common) → (changed k w n f).waiting ≡ w.waiting
  unfolding changed put
  marked-waiting w n f = refl

  lost-waiting : (w : World R) → (lost w).waiting ≡ w.waiting
  unfolding lost
  lost-waiting w = refl

  pub put-waiting : (w : World R) (n : ℕ) (r : R) → (put w n r).waiting ≡ w.waiting
  unfolding put
  put-waiting w n r = refl

  rescanned-waiting : (w : World R) (n : ℕ) (field : FieldNo) → (rescanned k w n field).waiting ≡ w.waiting
  rescanned-waiting w n field =
      rescanned-either k (λ v. v.waiting ≡ w.waiting) w n field refl (moved-either k (λ v. v.waiting ≡ w.waiting) w n (λ item. sent-waiting item _ ∙ marked-waiting w n _) (lost-waiting w))

  let_go-waiting : (number : ℕ) (w : World R) → (let_go number w).waiting ≡ w.waiting
  unfolding let_go
  let_go-waiting number w = refl

  notified-waiting : (w : World R) (s : ℕ) → (notified k w s).waiting ≡ w.waiting
  notified-waiting w s = notified-either k (λ v. v.waiting ≡ w.waiting) w s refl (λ n. let_go-waiting n _ ∙ marked-waiting w s _)

  stored-waiting : (w : World R) (x : Waiting) → (taken_and_stored k w x).waiting ≡ w.waiting
  unfolding taken_and_stored
  stored-waiting w x = rescanned-waiting _ _ _ ∙ put-waiting _ _ _ ∙ marked-waiting w x.target _

  pub started-waiting : (answers : Answers) (w : World R) (x : Waiting) → (started k answers w x).world.waiting ≡ w.waiting
  unfolding started
  started-waiting answers w x =
      let stored = taken_and_stored k w x in
      elim (processes k (at k stored x.target) x.field) as (λ b.
      (cond b (request k answers (changed k stored x.target (with_put_mark true)) x.target) (record { world = notified k stored x.target; requests = None })).world.waiting ≡ w.waiting) [
        | true ↦ request-waiting answers _ _ ∙ marked-waiting stored x.target _ ∙ stored-waiting w x
        | false ↦ notified-waiting stored x.target ∙ stored-waiting w x
      ]

  -- Lemmas about an event by itself.

  refused-waiting : (w : World R) (e : IocError) → (refused w e).world.waiting ≡ w.waiting
  refused-waiting w e = refl

  told-waiting : (answers : Answers) (w : World R) (s : ℕ) → (told k answers w s).world.waiting ≡ w.waiting
  unfolding told
  told-waiting answers w s = (ran-goes k lawful _ _ _ (guards w.waiting) answers (refl, refl) s tt).inv.1

  after-waiting : (answers : Answers) (w : World R) (s : ℕ) (field : FieldNo) → (after_put k answers w s field).world.waiting ≡ w.waiting
  unfolding after_put
  after-waiting answers w s field =
      elim (processes k (at k w s) field) as (λ p. (cond {A = Stepped R} p (cond {A = Stepped R} (common_at k w s).active (record { world = changed k w s (with_reprocess_mark true); reply = Outcome-reply Reprocess; requests = Request Reprocess None None })
      (told k answers (changed k w s (with_put_mark true)) s)) (record { world = w; reply = Plain; requests = None })).world.waiting ≡ w.waiting) [
        | true ↦ elim (common_at k w s).active as (λ p. (cond {A = Stepped R} p (record { world = changed k w s (with_reprocess_mark true); reply = Outcome-reply Reprocess; requests = Request Reprocess None None })
            (told k answers (changed k w s (with_put_mark true)) s)).world.waiting ≡ w.waiting) [
              | true ↦ marked-waiting w s (with_reprocess_mark true)
              | false ↦ told-waiting answers _ s ∙ marked-waiting w s (with_put_mark true)
            ]
        | false ↦ refl
      ]

  put_with-waiting : (answers : Answers) (w : World R) (s : ℕ) (field : FieldNo) (result : Result R IocError) → (put_with k answers w s field result).world.waiting ≡ w.waiting
  put_with-waiting answers w s field (Ok r) = after-waiting answers _ s field ∙ rescanned-waiting _ s field ∙ put-waiting w s r
  put_with-waiting answers w s field (Err e) = refl

  completion-waiting : (answers : Answers) (w : World R) (s : ℕ) (x : Finished) → (after_completion k answers w s x).world.waiting ≡ w.waiting
  unfolding after_completion
  completion-waiting answers w s x = (takes_completion-goes k lawful _ _ _ (guards w.waiting) answers (refl, refl) s tt x).inv.1

  pub rewired-waiting : (before : List ℕ) (w : World R) (n : ℕ) → (rewired k before w n).waiting ≡ w.waiting
  rewired-waiting before w n =
      rewired-either k (λ v. v.waiting ≡ w.waiting) before w n refl (moved-either k (λ v. v.waiting ≡ w.waiting) w n (λ item. sent-waiting item _ ∙ marked-waiting w n _) (lost-waiting w))

  -- One that waits afterwards waited before, or is that of the event.
  Within : (Waiting → Type 0) → World R → Type 0
  Within P w = (x : Waiting) → Contains w.waiting x → P x

  within-same : (P : Waiting → Type 0) (w v : World R) → v.waiting ≡ w.waiting → Within P w → Within P v
  unfolding Within
  within-same P w v same within x h = within x (subst (λ (l : List Waiting). Contains l x) same h)

  let_in-within : (answers : Answers) (P : Waiting → Type 0) (w : World R) (x : Waiting) → P x → Within P w → Within P (begun_or_queued k answers w x).world
  unfolding begun_or_queued Within admitted queued
  let_in-within answers P w x own within =
      elim (must_wait k w x.target) as (λ b. (y : Waiting) → Contains (cond {A = Stepped R} b (record { world = queued x (admitted x.number w); reply = Notify-reply x.number; requests = None })
      (record { world = (started k answers (admitted x.number w) x).world; reply = Notify-reply x.number; requests = (started k answers (admitted x.number w) x).requests })).world.waiting y → P y) [
        | true ↦ λ y h. elim (Contains-append_cases w.waiting (x ∷ []) y h) [
          | inl before ↦ within y before
          | inr new ↦ subst P (last-item x y new) own
        ]
        | false ↦ λ y h. within y (subst (λ (l : List Waiting). Contains l y) (started-waiting answers (admitted x.number w) x) h)
      ]

  notify-within : (answers : Answers) (P : Waiting → Type 0) (w : World R) (s number : ℕ) (field : FieldNo) (value : Result Value IocError)
      → ((x : Waiting) → cond {A = Option ℕ} (has_place w number) (Some number) Nothing_ ≡ Some x.number → P x) → Within P w
      → Within P (notify_with k answers w s number field value).world
  unfolding Within
  notify-within answers P w s number field (Err e) own within = within
  notify-within answers P w s number field (Ok v) own within =
      let x : Waiting = record { number = number; target = s; field = field; value = v } in
      elim (has_place w number) as (λ b. ((y : Waiting) → cond {A = Option ℕ} b (Some number) Nothing_ ≡ Some y.number → P y)
      → (y : Waiting) → Contains (cond {A = Stepped R} b (begun_or_queued k answers w x) (refused w QueueFull)).world.waiting y → P y) [
        | true ↦ λ begins. let_in-within answers P w x (begins x refl) within
        | false ↦ λ _. within
      ] own

  cancel-within : (P : Waiting → Type 0) (w : World R) (number : ℕ) → Within P w
      → Within P (cond {A = Stepped R} (is_live number w.live) (record { world = cancelled k number w; reply = Plain; requests = None }) (refused w Stale)).world
  unfolding Within cancelled
  cancel-within P w number within =
      elim (is_live number w.live) as (λ b. (x : Waiting) → Contains (cond {A = Stepped R} b (record { world = cancelled k number w; reply = Plain; requests = None }) (refused w Stale)).world.waiting x → P x) [
        | true ↦ λ x h. within x (waited number w.waiting x h)
        | false ↦ within
      ]

  there-within : (answers : Answers) (P : Waiting → Type 0) (w : World R) (event : Event) → ((x : Waiting) → number_of w event ≡ Some x.number → P x) → Within P w → Within P (done_there k answers w event).world
  unfolding done_there
  there-within answers P w (Process s) own within = within-same P w _ (told-waiting answers w s) within
  there-within answers P w (Put s field given) own within = within-same P w _ (put_with-waiting answers w s field (put_field k (at k w s) field given)) within
  there-within answers P w (Complete s number x) own within =
      within-same P w _ (elim (awaits (common_at k w s) number) as (λ b. (cond {A = Stepped R} b (after_completion k answers w s x) (refused w Stale)).world.waiting ≡ w.waiting) [
        | true ↦ completion-waiting answers w s x
        | false ↦ refl
      ]) within
  there-within answers P w (Notify s number field given) own within = notify-within answers P w s number field (value_to_put k (at k w s) field given) own within
  there-within answers P w (Cancel number) own within = cancel-within P w number within

  pub alone-within : (answers : Answers) (P : Waiting → Type 0) (w : World R) (event : Event) → ((x : Waiting) → number_of w event ≡ Some x.number → P x)
      → ((x : Waiting) → Contains w.waiting x → P x) → (x : Waiting) → Contains (done_alone k answers w event).world.waiting x → P x
  unfolding done_alone Within
  alone-within answers P w event own within =
      elim (is_there w event) as (λ b. (x : Waiting) → Contains (cond {A = Stepped R} b (done_there k answers w event) (refused w NoRecord)).world.waiting x → P x) [
        | true ↦ there-within answers P w event own within
        | false ↦ within
      ]
