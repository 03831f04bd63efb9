-- Events depend only on the records that links lead to, and change only these.
use Rattle.std.proofs.Common.{◌≡◌, ◌≢◌, ◌||◌, ℕ, Bool, true, false, cond, List, Ok, Err, is_some, Option, Some, refl, sym, ap, subst, ◌∙◌, nat_eq, inl, inr, [], ◌∷◌, arith}
use Rattle.std.specs.Prelude.{Result, Contains, not, ◌&&◌}
use Rattle.std.specs.Prelude.{None as Nothing_}
use Rattle.std.specs.FinMap.{contains_key}
use Rattle.std.specs.List.{list_any}
use Rattle.std.proofs.lemmas.Grind.{common_steps}
use Rattle.std.proofs.lemmas.List.Elements.{Contains-append_right}
use Rattle.ioc_values.specs.declared.error.IocError.{IocError}
use Rattle.ioc_values.specs.declared.error.IocError.TheVariants.{NoRecord, NoField, PutDisabled, Stale, QueueFull}
use Rattle.ioc_values.specs.declared.input.Input.{Input}
use Rattle.ioc_values.specs.declared.value.Value.{Value}
use Rattle.ioc_values.specs.declared.value.Finished.{Finished}
use Rattle.ioc_fields.specs.declared.field_no.FieldNo.{FieldNo}
use Rattle.ioc_fields.specs.Table.{row_of}
use Rattle.ioc_ledger.specs.declared.outcome.Outcome.{Outcome}
use Rattle.ioc_ledger.specs.declared.outcome.Outcome.TheVariants.{Reprocess}
use Rattle.ioc_ledger.specs.Requests.{Requests, None, Request}
use Rattle.ioc_notify.specs.declared.waiting_lists.Waiting.{Waiting}
use Rattle.ioc_notify.specs.Living.{is_live}
use Rattle.ioc_dbcommon.specs.declared.common.Common.{Common}
use Rattle.ioc_dbcommon.specs.Steps.{with_put_mark, with_reprocess_mark, with_notification}
use Rattle.ioc_dbcommon.specs.declared.link_field.LinkField.{LinkField}
use Rattle.ioc_dbcommon.specs.Links.{use_of, named_by}
use Rattle.ioc_record.specs.RecordRules.{RecordRules, targets}
use Rattle.ioc_record.specs.Values.{text_of, put_field, stops_put}
use Rattle.ioc_record.specs.Laws.{IsLawful}
use Rattle.ioc_store.specs.World.{World, Has, at, common_at, put, changed, has_place, admitted, queued, cancelled, freed, is_notification}
use Rattle.ioc_store.specs.Given.{Answers}
use Rattle.ioc_store.specs.Scanning.{device_of, rewired}
use Rattle.ioc_store.specs.Freeing.{has-cancelled, at_cancelled-is, at_missing, at_cancelled-either}
use Rattle.ioc_store.specs.StepFrames.{targets-set}
use Rattle.ioc_process.specs.Processing.{ran}
use Rattle.ioc_process.specs.Alongside.{OwnAlone, changed-goes, rescanned-goes, rewired-goes, ran-goes, takes_completion-goes}
use Rattle.ioc_events.specs.declared.event.Event.{Event}
use Rattle.ioc_events.specs.declared.event.Event.TheVariants.{Process, Put, Complete, Notify, Cancel}
use Rattle.ioc_events.specs.declared.reply.Reply.{Reply}
use Rattle.ioc_events.specs.declared.reply.Reply.TheVariants.{Plain, Outcome as Outcome-reply, Notify as Notify-reply}
use Rattle.ioc_events.specs.Beside.{Shut, Same, Spares}
use Rattle.ioc_events.specs.Local.{AskAlike, Alike, KeepsApart, IsWithin, AgreeCall, EventIsLocal, CallIsLocal}
use Rattle.ioc_events.specs.declared.event.Call.{Call}
use Rattle.ioc_events.specs.declared.event.Call.TheVariants as call
use Rattle.ioc_events.specs.Calls.{called, linked}
use Rattle.ioc_events.specs.Starting.{value_to_put, must_wait, started}
use Rattle.ioc_events.specs.Step.{shown, link_refusal, relinked, Stepped, is_there, names, all_there, processes, awaits, refused, told, after_put, after_completion, put_with, begun_or_queued, notify_with, lets_start, done_there, done_alone, with_starts, stepped}
use Rattle.ioc_events.proofs.Besides.{not_both, Within, Along, put_along, guards, along}
use Rattle.ioc_events.proofs.LinkChanges.{linked-names, all-alike}
use Rattle.ioc_events.proofs.RecordLists.{waits-too, added-same, added-elsewhere, taken-same, taken-elsewhere, any-same}
use Rattle.ioc_events.proofs.StartsLocal.{both_followed, ready-by, started-goes, all-goes}
use Rattle.ioc_events.proofs.Stepping.{step-there, step-missing, put_targets}
use Rattle.ioc_events.proofs.Waitings.{alone-within}

-- The put with notification is the one that is asked for.
held-is : (number : ℕ) (held : Option ℕ) → is_notification number held ≡ true → held ≡ Some number
held-is number Nothing_ is = cc
held-is number (Some n) is = let e : n ≡ number = grind (arith, common_steps) in ap Some e

module _ {R : Type 0} (k : RecordRules R) (mine : ℕ → Bool) (w v : World R) where
  -- Two events have equal results from `w` and `v`.
  pub record GoesEvent (event other : Stepped R) : Type 0 where
    pub inv : Along k mine w v event.world other.world
    pub reply : event.reply ≡ other.reply
    pub requests : event.requests ≡ other.requests

module _ {R : Type 0} (k : RecordRules R) (lawful : IsLawful k) (mine : ℕ → Bool) (answers : Answers) (w v : World R) where
  abbrev U : ℕ → Type 0
  U = λ n. mine n ≡ true

  abbrev Both : World R → World R → Type 0
  Both = Along k mine w v

  abbrev Agrees : Stepped R → Stepped R → Type 0
  Agrees = GoesEvent k mine w v

  abbrev made : World R → Reply → Requests → Stepped R
  made a reply requests = record { world = a; reply = reply; requests = requests }

  unchanged : {a b : World R} → Both a b → (reply : Reply) (requests : Requests) → Agrees (made a reply requests) (made b reply requests)
  unchanged both reply requests = record { inv = both; reply = refl; requests = refl }

  told-local : {a b : World R} → Both a b → (s : ℕ) → U s → Agrees (told k answers a s) (told k answers b s)
  unfolding told
  told-local {a} {b} both s u =
      let done = ran-goes k lawful U (Within k mine w v) Both (guards k mine w v lawful) answers both s u in
      record {
        inv = done.inv;
        reply = ap Outcome-reply done.outcome;
        requests = ap (λ (x : Requests). Request (ran k answers a s).outcome x None) done.requests ∙ ap (λ (o : Outcome). Request o (ran k answers b s).requests None) done.outcome;
      }

  completion-local : {a b : World R} → Both a b → (s : ℕ) (x : Finished) → U s → Agrees (after_completion k answers a s x) (after_completion k answers b s x)
  unfolding after_completion
  completion-local both s x u =
      let done = takes_completion-goes k lawful U (Within k mine w v) Both (guards k mine w v lawful) answers both s u x in
      record { inv = done.inv; reply = refl; requests = done.requests }

  -- A change of a mark of this record keeps the relation.
  marked : {a b : World R} → Both a b → (s : ℕ) → U s → (f : Common → Common) → ((c : Common) → OwnAlone c (f c)) → Both (changed k a s f) (changed k b s f)
  marked both s u f links = changed-goes k lawful U (Within k mine w v) Both (guards k mine w v lawful) both s u f links

  -- A get of this record.

  -- What follows a put, given whether the field processes the record and whether it is active.
  abbrev follows : ℕ → Bool → Bool → World R → Stepped R
  follows s proc active a =
      cond proc (cond active (made (changed k a s (with_reprocess_mark true)) (Outcome-reply Reprocess) (Request Reprocess None None)) (told k answers (changed k a s (with_put_mark true)) s))
      (made a Plain None)

  follows-local : {a b : World R} → Both a b → (s : ℕ) → U s → (proc active : Bool) → Agrees (follows s proc active a) (follows s proc active b)
  follows-local both s u true true = unchanged (marked both s u (with_reprocess_mark true) (λ c. (refl, refl, refl))) _ _
  follows-local both s u true false = told-local (marked both s u (with_put_mark true) (λ c. (refl, refl, refl))) s u
  follows-local both s u false active = unchanged both _ _

  after-local : {a b : World R} → Both a b → (s : ℕ) (field : FieldNo) → U s → Agrees (after_put k answers a s field) (after_put k answers b s field)
  unfolding after_put
  after-local {a} {b} both s field u =
      subst (λ (r : R). Agrees (follows s (processes k (at k a s) field) (k.common (at k a s)).active a) (follows s (processes k r field) (k.common r).active b))
      (both.same.records s u) (follows-local both s u _ _)

  put_with-local : {a b : World R} → Both a b → (s : ℕ) (field : FieldNo) (given : Input) (result : Result R IocError) → U s → put_field k (at k a s) field given ≡ result
      → Agrees (put_with k answers a s field result) (put_with k answers b s field result)
  put_with-local {a} {b} both s field given (Ok r) u is =
      let links : targets k r ≡ targets k (at k a s) = put_targets k lawful (at k a s) r field given is in
      let stored = put_along k mine w v _ _ both s u r (λ target h. both.shut.shut s target u (subst (λ (l : List ℕ). Contains l target) links h)) in
      after-local (rescanned-goes k lawful U (Within k mine w v) Both (guards k mine w v lawful) stored s u field) s field u
  put_with-local both s field given (Err e) u is = unchanged both _ _

  put-local : {a b : World R} → Both a b → (s : ℕ) (field : FieldNo) (given : Input) → U s → Agrees (done_there k answers a (Put s field given)) (done_there k answers b (Put s field given))
  unfolding done_there
  put-local {a} {b} both s field given u =
      subst (λ (r : R). Agrees (put_with k answers a s field (put_field k (at k a s) field given)) (put_with k answers b s field (put_field k r field given)))
      (both.same.records s u) (put_with-local both s field given _ u refl)

  process-local : {a b : World R} → Both a b → (s : ℕ) → U s → Agrees (done_there k answers a (Process s)) (done_there k answers b (Process s))
  unfolding done_there
  process-local both s u = told-local both s u

  -- A completion of this record.
  abbrev completes-at : ℕ → Finished → Bool → World R → Stepped R
  completes-at s x is a = cond is (after_completion k answers a s x) (refused a Stale)

  completes-local : {a b : World R} → Both a b → (s : ℕ) (x : Finished) → U s → (is : Bool) → Agrees (completes-at s x is a) (completes-at s x is b)
  completes-local both s x u true = completion-local both s x u
  completes-local both s x u false = unchanged both _ _

  complete-local : {a b : World R} → Both a b → (s number : ℕ) (x : Finished) → U s → Agrees (done_there k answers a (Complete s number x)) (done_there k answers b (Complete s number x))
  unfolding done_there
  complete-local {a} {b} both s number x u =
      subst (λ (r : R). Agrees (completes-at s x (awaits (common_at k a s) number) a) (completes-at s x (awaits (k.common r) number) b)) (both.same.records s u) (completes-local both s x u _)

  -- A link change, given whether the records that it leads to exist, whether the field has a link,
  -- and whether DISP forbids it.
  -- The question whether one is live has the same reply in both.
  admitted-goes : {a b : World R} → Both a b → (number : ℕ) → Both (admitted number a) (admitted number b)
  unfolding at admitted
  admitted-goes both number = record {
    same = record { moment = both.same.moment; calls = both.same.calls; outbox = both.same.outbox; dropped = both.same.dropped; waiting = both.same.waiting; records = both.same.records };
    there = both.there;
    shut = record { shut = both.shut.shut };
    spares = record { spared = both.spares.spared; there = both.spares.there; waiting = both.spares.waiting };
    other_spares = record { spared = both.other_spares.spared; there = both.other_spares.there; waiting = both.other_spares.waiting };
  }

  queued-spares : (first a : World R) (x : Waiting) → U x.target → Spares k mine first a → Spares k mine first (queued x a)
  unfolding at queued
  queued-spares first a x u spares = record {
    spared = spares.spared;
    there = spares.there;
    waiting = λ n out. added-elsewhere a.waiting x n (λ e. not_both u (ap mine e ∙ out)) ∙ spares.waiting n out;
  }

  queued-goes : {a b : World R} → Both a b → (x : Waiting) → U x.target → Both (queued x a) (queued x b)
  unfolding at queued
  queued-goes {a} {b} both x u = record {
    same = record {
      moment = both.same.moment;
      calls = both.same.calls;
      outbox = both.same.outbox;
      dropped = both.same.dropped;
      waiting = λ n may. added-same a.waiting b.waiting x n (both.same.waiting n may);
      records = both.same.records;
    };
    there = both.there;
    shut = record { shut = both.shut.shut };
    spares = queued-spares w a x u both.spares;
    other_spares = queued-spares v b x u both.other_spares;
  }

  -- A put with notification that is admitted, given whether it must wait.
  abbrev lets_in : Waiting → Bool → World R → Stepped R
  lets_in x waits a =
      cond {A = Stepped R} waits (made (queued x (admitted x.number a)) (Notify-reply x.number) None)
      (made (started k answers (admitted x.number a) x).world (Notify-reply x.number) (started k answers (admitted x.number a) x).requests)

  lets_in-local : {a b : World R} → Both a b → (x : Waiting) → U x.target → (waits : Bool) → Agrees (lets_in x waits a) (lets_in x waits b)
  lets_in-local both x u true = unchanged (queued-goes (admitted-goes both x.number) x u) _ _
  lets_in-local both x u false =
      let done = started-goes k lawful mine answers w v (admitted-goes both x.number) x u in
      record { inv = done.inv; reply = refl; requests = done.requests }

  waits-same : {a b : World R} → Both a b → (s : ℕ) → U s → must_wait k a s ≡ must_wait k b s
  unfolding must_wait
  waits-same {a} {b} both s u =
      ap (λ (r : R). (k.common r).active || (is_some (k.common r).notification || list_any (λ (x : Waiting). nat_eq x.target s) a.waiting)) (both.same.records s u)
      ∙ ap (λ (c : Bool). (common_at k b s).active || (is_some (common_at k b s).notification || c)) (any-same a.waiting b.waiting s (both.same.waiting s u))

  let_in-local : {a b : World R} → Both a b → (x : Waiting) → U x.target → Agrees (begun_or_queued k answers a x) (begun_or_queued k answers b x)
  unfolding begun_or_queued
  let_in-local {a} {b} both x u =
      subst (λ (c : Bool). Agrees (lets_in x (must_wait k a x.target) a) (lets_in x c b)) (waits-same both x.target u) (lets_in-local both x u _)

  abbrev places : Waiting → Bool → World R → Stepped R
  places x place a = cond {A = Stepped R} place (begun_or_queued k answers a x) (refused a QueueFull)

  places-local : {a b : World R} → Both a b → (x : Waiting) → U x.target → (place : Bool) → Agrees (places x place a) (places x place b)
  places-local both x u true = let_in-local both x u
  places-local both x u false = unchanged both _ _

  notify_with-local : {a b : World R} → Both a b → (s number : ℕ) (field : FieldNo) (value : Result Value IocError) → U s → has_place a number ≡ has_place b number
      → Agrees (notify_with k answers a s number field value) (notify_with k answers b s number field value)
  notify_with-local both s number field (Err e) u alike = unchanged both _ _
  notify_with-local {a} {b} both s number field (Ok value) u alike =
      let x : Waiting = record { number = number; target = s; field = field; value = value } in
      subst (λ (c : Bool). Agrees (places x (has_place a number) a) (places x c b)) alike (places-local both x u _)

  notify-local : {a b : World R} → Both a b → (s number : ℕ) (field : FieldNo) (given : Input) → U s → has_place a number ≡ has_place b number
      → Agrees (done_there k answers a (Notify s number field given)) (done_there k answers b (Notify s number field given))
  unfolding done_there
  notify-local {a} {b} both s number field given u alike =
      subst (λ (r : R). Agrees (notify_with k answers a s number field (value_to_put k (at k a s) field given)) (notify_with k answers b s number field (value_to_put k r field given)))
      (both.same.records s u) (notify_with-local both s number field _ u alike)

  -- Lemmas about a cancel.

  same-cancelled : (a b : World R) (number n : ℕ) → contains_key a.records n ≡ contains_key b.records n → at k a n ≡ at k b n → at k (cancelled k number a) n ≡ at k (cancelled k number b) n
  same-cancelled a b number n there is =
      at_cancelled-is k number a n (contains_key b.records n) there ∙ ap (λ (r : R). cond {A = R} (contains_key b.records n) (freed k number r) k.missing) is
      ∙ sym (at_cancelled-is k number b n (contains_key b.records n) refl)

  spared-cancelled : (a : World R) (number n : ℕ) → (Has a n → (common_at k a n).notification ≡ Some number → ⊥) → at k (cancelled k number a) n ≡ at k a n
  spared-cancelled a number n none =
      elim (contains_key a.records n) as (λ b. contains_key a.records n ≡ b → at k (cancelled k number a) n ≡ at k a n) [
        | true ↦ λ there. at_cancelled-is k number a n true there
            ∙ elim (is_notification number (common_at k a n).notification) as (λ b. is_notification number (common_at k a n).notification ≡ b
            → cond b (k.with_common (at k a n) (with_notification Nothing_ (common_at k a n))) (at k a n) ≡ at k a n) [
              | true ↦ λ held. absurd (none there (held-is number _ held))
              | false ↦ λ _. refl
            ] refl
        | false ↦ λ missing. at_cancelled-is k number a n false missing ∙ sym (at_missing k number a n missing)
      ] refl

  shut-cancelled : (a : World R) (number n target : ℕ) → Contains (targets k (at k (cancelled k number a) n)) target → Contains (targets k (at k a n)) target
  shut-cancelled a number n target =
      at_cancelled-either k number (λ r r'. Contains (targets k r') target → Contains (targets k r) target) (λ r h. h)
      (λ r h. subst (λ (l : List ℕ). Contains l target) (targets-set k lawful r (with_notification Nothing_ (k.common r)) (refl, refl)) h) a n

  -- Nothing outside `U` is part of the put with notification with this number: none waits with it
  -- there, and no record is part of it.
  record Foreign (a : World R) (number : ℕ) : Type 0 where
    waiting : (x : Waiting) → Contains a.waiting x → mine x.target ≡ false → x.number ≢ number
    holders : (n : ℕ) → mine n ≡ false → Has a n → (common_at k a n).notification ≡ Some number → ⊥

  cancelled-lists : (first a : World R) (number : ℕ) → Foreign a number → Spares k mine first a
      → ((n : ℕ) → mine n ≡ false → at k (cancelled k number a) n ≡ at k first n) → ((n : ℕ) → mine n ≡ false → contains_key (cancelled k number a).records n ≡ contains_key first.records n)
      → Spares k mine first (cancelled k number a)
  unfolding cancelled
  cancelled-lists first a number foreign spares spared there = record {
    spared = spared;
    there = there;
    waiting = λ n out. taken-elsewhere number n a.waiting (λ x waits e. foreign.waiting x waits (ap mine e ∙ out)) ∙ spares.waiting n out;
  }

  cancelled-spares : (first a : World R) (number : ℕ) → Foreign a number → Spares k mine first a → Spares k mine first (cancelled k number a)
  cancelled-spares first a number foreign spares =
      cancelled-lists first a number foreign spares (λ n out. spared-cancelled a number n (foreign.holders n out) ∙ spares.spared n out) (λ n out. has-cancelled k number a n ∙ spares.there n out)

  cancelled-same : {a b : World R} → Both a b → (number : ℕ) → ((n : ℕ) → U n → at k (cancelled k number a) n ≡ at k (cancelled k number b) n) → Same k mine (cancelled k number a) (cancelled k number b)
  unfolding cancelled
  cancelled-same {a} {b} both number records = record {
    moment = both.same.moment;
    calls = both.same.calls;
    outbox = both.same.outbox;
    dropped = both.same.dropped;
    waiting = λ n u. taken-same number n a.waiting b.waiting (both.same.waiting n u);
    records = records;
  }

  cancelled-goes : {a b : World R} → Both a b → ((n : ℕ) → U n → contains_key a.records n ≡ contains_key b.records n) → (number : ℕ) → Foreign a number → Foreign b number
      → Both (cancelled k number a) (cancelled k number b)
  cancelled-goes {a} {b} both there number foreign other_foreign = record {
    same = cancelled-same both number (λ n u. same-cancelled a b number n (there n u) (both.same.records n u));
    there = λ n u first. has-cancelled k number a n ∙ there n u ∙ sym (has-cancelled k number b n);
    shut = record { shut = λ n target u h. both.shut.shut n target u (shut-cancelled a number n target h) };
    spares = cancelled-spares w a number foreign both.spares;
    other_spares = cancelled-spares v b number other_foreign both.other_spares;
  }

  abbrev cancels-at : ℕ → Bool → World R → Stepped R
  cancels-at number live a = cond {A = Stepped R} live (made (cancelled k number a) Plain None) (refused a Stale)

  cancels-local : {a b : World R} → Both a b → ((n : ℕ) → U n → contains_key a.records n ≡ contains_key b.records n) → (number : ℕ) → Foreign a number → Foreign b number
      → (live : Bool) → Agrees (cancels-at number live a) (cancels-at number live b)
  cancels-local both there number foreign other_foreign true = unchanged (cancelled-goes both there number foreign other_foreign) _ _
  cancels-local both there number foreign other_foreign false = unchanged both _ _

  cancel-local : {a b : World R} → Both a b → ((n : ℕ) → U n → contains_key a.records n ≡ contains_key b.records n) → (number : ℕ) → Foreign a number → Foreign b number
      → is_live number a.live ≡ is_live number b.live → Agrees (done_there k answers a (Cancel number)) (done_there k answers b (Cancel number))
  unfolding done_there
  cancel-local {a} {b} both there number foreign other_foreign alike =
      subst (λ (c : Bool). Agrees (cancels-at number (is_live number a.live) a) (cancels-at number c b)) alike (cancels-local both there number foreign other_foreign _)

  foreign-of : (a : World R) (number : ℕ) → IsWithin k mine a (Cancel number) → Foreign a number
  foreign-of a number within = record {
    waiting = λ x waits out e. within.waiting x waits out (ap Some (sym e));
    holders = λ n out has held. not_both (within.holders number n refl has held) out;
  }

  -- Lemmas about events.

  there-local : {a b : World R} → Both a b → ((n : ℕ) → U n → contains_key a.records n ≡ contains_key b.records n) → (event : Event) → IsWithin k mine a event → IsWithin k mine b event
      → AskAlike a b event → Agrees (done_there k answers a event) (done_there k answers b event)
  there-local both there (Process s) within _ asks = process-local both s (within.named s (0, omega arith, refl))
  there-local both there (Put s field given) within _ asks = put-local both s field given (within.named s (0, omega arith, refl))
  there-local both there (Complete s number x) within _ asks = complete-local both s number x (within.named s (0, omega arith, refl))
  there-local both there (Notify s number field given) within _ asks = notify-local both s number field given (within.named s (0, omega arith, refl)) asks
  there-local {a} {b} both there (Cancel number) within other_within asks = cancel-local both there number (foreign-of a number within) (foreign-of b number other_within) asks

  -- The record of the event exists in both worlds or in neither.
  there-alike : (a b : World R) (event : Event) → ((n : ℕ) → Contains (names event) n → contains_key a.records n ≡ contains_key b.records n) → is_there a event ≡ is_there b event
  there-alike a b (Process s) alike = alike s (0, omega arith, refl)
  there-alike a b (Put s field given) alike = alike s (0, omega arith, refl)
  there-alike a b (Complete s number x) alike = alike s (0, omega arith, refl)
  there-alike a b (Notify s number field given) alike = alike s (0, omega arith, refl)
  there-alike a b (Cancel number) alike = refl

  alone-local : {a b : World R} → Both a b → ((n : ℕ) → U n → contains_key a.records n ≡ contains_key b.records n) → (event : Event) → IsWithin k mine a event → IsWithin k mine b event
      → AskAlike a b event → Agrees (done_alone k answers a event) (done_alone k answers b event)
  alone-local {a} {b} both there event within other_within asks =
      let alike = there-alike a b event (λ n h. there n (within.named n h)) in
      elim (is_there a event) as (λ c. is_there a event ≡ c → Agrees (done_alone k answers a event) (done_alone k answers b event)) [
        | true ↦ λ is. rw (step-there k answers a event is, step-there k answers b event (sym alike ∙ is)) (there-local both there event within other_within asks)
        | false ↦ λ is. rw (step-missing k answers a event is, step-missing k answers b event (sym alike ∙ is)) (unchanged both _ _)
      ] refl

  -- The events agree with the starts after them.
  starts-local : (first other : Stepped R) (b : Bool) → Agrees first other → KeepsApart k mine first.world → KeepsApart k mine other.world
      → Agrees (cond {A = Stepped R} b (with_starts k answers first) first) (cond {A = Stepped R} b (with_starts k answers other) other)
  starts-local first other true agrees apart other_apart =
      let done = all-goes k lawful mine answers w v first.world other.world agrees.inv apart other_apart in
      record { inv = done.inv; reply = agrees.reply; requests = both_followed agrees.requests done.requests }
  starts-local first other false agrees apart other_apart = agrees

module _ {R : Type 0} (k : RecordRules R) (lawful : IsLawful k) (mine : ℕ → Bool) (answers : Answers) where
  -- The number of one that waits in `U` after an event by itself is that of none that waited
  -- outside.
  alone-numbers : (w : World R) (event : Event) → KeepsApart k mine w → IsWithin k mine w event
      → (x : Waiting) → Contains (done_alone k answers w event).world.waiting x → mine x.target ≡ true → (y : Waiting) → Contains w.waiting y → mine y.target ≡ false → x.number ≢ y.number
  alone-numbers w event apart within =
      alone-within k lawful answers (λ x. mine x.target ≡ true → (y : Waiting) → Contains w.waiting y → mine y.target ≡ false → x.number ≢ y.number) w event
      (λ x own u y waits out e. within.waiting y waits out (own ∙ ap Some e))
      (λ x waits u y other_waits out. apart.numbers x y waits other_waits u out)

  -- Those outside `U` stay apart in an event by itself.
  alone-apart : (w : World R) (event : Event) → KeepsApart k mine w → IsWithin k mine w event → Spares k mine w (done_alone k answers w event).world
      → KeepsApart k mine (done_alone k answers w event).world
  alone-apart w event apart within spares =
      let after = (done_alone k answers w event).world in
      let before : (y : Waiting) → Contains after.waiting y → mine y.target ≡ false → Contains w.waiting y = λ y waits out. waits-too after.waiting w.waiting y (spares.waiting y.target out) waits in
      record {
        none_ready = λ x waits out. ready-by k lawful after w x (spares.spared x.target out) ∙ apart.none_ready x (before x waits out) out;
        numbers = λ x y waits other_waits u out. alone-numbers w event apart within x waits u y (before y other_waits out) out;
      }

  -- Events with the starts after them agree.
  stepped-local : (w v : World R) (event : Event) → (goes : GoesEvent k mine w v (done_alone k answers w event) (done_alone k answers v event))
      → KeepsApart k mine (done_alone k answers w event).world → KeepsApart k mine (done_alone k answers v event).world
      → GoesEvent k mine w v (stepped k answers w event) (stepped k answers v event)
  unfolding stepped
  stepped-local w v event goes apart other_apart =
      let first = done_alone k answers w event in
      let other = done_alone k answers v event in
      subst (λ (r : Reply). GoesEvent k mine w v (cond {A = Stepped R} (lets_start first.reply) (with_starts k answers first) first) (cond {A = Stepped R} (lets_start r) (with_starts k answers other) other)) goes.reply
      (starts-local k lawful mine answers w v first other (lets_start first.reply) goes apart other_apart)

  pub event-local : EventIsLocal k mine answers
  event-local w v event shut alike apart other_apart within other_within asks =
      let goes = alone-local k lawful mine answers w v (along k mine w v shut alike.same) alike.there event within other_within asks in
      let done = stepped-local w v event goes (alone-apart w event apart within goes.inv.spares) (alone-apart v event other_apart other_within goes.inv.other_spares) in
      record {
        alike = record { same = done.inv.same; there = λ n u. done.inv.there n u (alike.there n u) };
        reply = done.reply;
        requests = done.requests;
        shut = done.inv.shut;
        spares = done.inv.spares;
        other_spares = done.inv.other_spares;
      }

module _ {R : Type 0} (k : RecordRules R) (lawful : IsLawful k) (mine : ℕ → Bool) (answers : Answers) where
  -- The field shows the same in both worlds.
  shown-same : (w v : World R) (s : ℕ) (field : FieldNo) → Alike k mine w v → mine s ≡ true → shown k w s field ≡ shown k v s field
  unfolding shown
  shown-same w v s field alike u =
      ap (λ (b : Bool). cond {A = Result (List ℕ) IocError} (not b) (Err NoRecord) (cond {A = Result (List ℕ) IocError} (is_some (row_of (k.record_type (at k w s)) field)) (Ok (text_of k (at k w s) field)) (Err NoField))) (alike.there s u)
      ∙ ap (λ (r : R). cond {A = Result (List ℕ) IocError} (not (contains_key v.records s)) (Err NoRecord) (cond {A = Result (List ℕ) IocError} (is_some (row_of (k.record_type r) field)) (Ok (text_of k r field)) (Err NoField))) (alike.same.records s u)

  refusal-by : (there : Bool) (field : FieldNo) (r : R) → Option IocError
  refusal-by there field r = cond {A = Option IocError} (not there) (Some NoRecord) (cond {A = Option IocError} (not (is_some (k.link r field))) (Some NoField) (cond {A = Option IocError} (stops_put (k.common r) field) (Some PutDisabled) Nothing_))

  -- A link change is refused in both worlds or in neither.
  refusal-same : (w v : World R) (s : ℕ) (field : FieldNo) (link : LinkField) → Alike k mine w v → ((n : ℕ) → Contains (s ∷ named_by (use_of link)) n → mine n ≡ true)
      → link_refusal k w s field link ≡ link_refusal k v s field link
  unfolding link_refusal refusal-by
  refusal-same w v s field link alike within =
      let led = named_by (use_of link) in
      let there : (contains_key w.records s && all_there w led) ≡ (contains_key v.records s && all_there v led) = all-alike w v (s ∷ led) (λ n h. alike.there n (within n h)) in
      ap (λ (b : Bool). refusal-by b field (at k w s)) there ∙ ap (λ (r : R). refusal-by (contains_key v.records s && all_there v led) field r) (alike.same.records s (within s (0, omega arith, refl)))

  -- Neither world changes.
  unchanged-call : {w v : World R} {one other : Call} → Shut k mine w → Alike k mine w v → one ≡ other
      → AgreeCall k mine w v (record { world = w; call = one; requests = None }) (record { world = v; call = other; requests = None })
  unchanged-call {w} {v} shut alike same =
      let both = along k mine w v shut alike.same in
      record { alike = alike; call = same; requests = refl; shut = both.shut; spares = both.spares; other_spares = both.other_spares }

  relinked-both : (w v : World R) (s : ℕ) (field : FieldNo) (link : LinkField) → Shut k mine w → Alike k mine w v → ((n : ℕ) → Contains (s ∷ named_by (use_of link)) n → mine n ≡ true)
      → Along k mine w v (relinked k w s field link) (relinked k v s field link)
  relinked-both w v s field link shut alike within =
      let both = along k mine w v shut alike.same in
      let U : ℕ → Type 0 = λ n. mine n ≡ true in
      let u = within s (0, omega arith, refl) in
      let stored = put_along k mine w v _ _ both s u (k.with_link (at k w s) field link) (λ target h. elim (linked-names k lawful (at k w s) field link target h) [
        | inl before ↦ shut.shut s target u before
        | inr new ↦ within target (Contains-append_right (s ∷ []) (named_by (use_of link)) target new)
      ]) in
      subst (λ (r : R). Along k mine w v (relinked k w s field link) (rewired k (device_of k r) (put v s (k.with_link r field link)) s)) (alike.same.records s u)
      (rewired-goes k lawful U (Within k mine w v) (Along k mine w v) (guards k mine w v lawful) stored (device_of k (at k w s)) s u)

  link-agrees : (w v : World R) (s : ℕ) (field : FieldNo) (link : LinkField) (o : Option IocError) → Shut k mine w → Alike k mine w v → ((n : ℕ) → Contains (s ∷ named_by (use_of link)) n → mine n ≡ true)
      → AgreeCall k mine w v (linked k answers w s field link o) (linked k answers v s field link o)
  link-agrees w v s field link (Some e) shut alike within = unchanged-call shut alike refl
  link-agrees w v s field link Nothing_ shut alike within =
      let done = relinked-both w v s field link shut alike within in
      record {
        alike = record { same = done.same; there = λ n u. done.there n u (alike.there n u) };
        call = refl;
        requests = refl;
        shut = done.shut;
        spares = done.spares;
        other_spares = done.other_spares;
      }

  pub call-local : CallIsLocal k mine answers
  unfolding called
  call-local w v (call.Event event reply) shut alike apart other_apart within other_within asks =
      let done = event-local k lawful mine answers w v event shut alike apart other_apart within other_within asks in
      record { alike = done.alike; call = ap (call.Event event) done.reply; requests = done.requests; shut = done.shut; spares = done.spares; other_spares = done.other_spares }
  call-local w v (call.Get s field text) shut alike apart other_apart within other_within asks =
      unchanged-call shut alike (ap (call.Get s field) (shown-same w v s field alike (within s (0, omega arith, refl))))
  call-local w v (call.IsLive number live) shut alike apart other_apart within other_within asks = unchanged-call shut alike (ap (call.IsLive number) asks)
  call-local w v (call.Link s field link reply) shut alike apart other_apart within other_within asks =
      subst (λ (o : Option IocError). AgreeCall k mine w v (linked k answers w s field link (link_refusal k w s field link)) (linked k answers v s field link o)) (refusal-same w v s field link alike within)
      (link-agrees w v s field link (link_refusal k w s field link) shut alike within)
  call-local w v (call.Post name count) shut alike apart other_apart within other_within asks = unchanged-call shut alike refl
  call-local w v (call.Interrupt device count) shut alike apart other_apart within other_within asks = unchanged-call shut alike refl
