-- After an event, none that waits may start; after a cancel, nothing is part of the put with
-- notification.
use Rattle.std.proofs.Common.{◌≡◌, ◌≢◌, ℕ, true, false, cond, not, eqb, nat_eq, nat_lt, List, [], ◌∷◌, ◌++◌, length, Some, None as Nothing_, is_some, refl, sym, ap, subst, ◌∙◌, inl, inr, arith}
use Rattle.std.specs.Prelude.{Contains, ◌&&◌}
use Rattle.std.proofs.lemmas.Grind.{common_steps}
use Rattle.std.proofs.lemmas.List.Elements.{Contains-append_cases}
use Rattle.ioc_fields.specs.declared.field_no.FieldNo.{FieldNo}
use Rattle.ioc_ledger.specs.Requests.{Requests, more}
use Rattle.ioc_notify.specs.declared.waiting_lists.Waiting.{Waiting}
use Rattle.ioc_notify.specs.Waits.{without}
use Rattle.ioc_notify.specs.Living.{is_live}
use Rattle.ioc_dbcommon.specs.declared.common.Common.{Common}
use Rattle.ioc_dbcommon.specs.declared.link_field.LinkField.{LinkField}
use Rattle.ioc_dbcommon.specs.Steps.{change_numbered, with_notification}
use Rattle.ioc_record.specs.RecordRules.{RecordRules}
use Rattle.ioc_record.specs.Laws.{IsLawful}
use Rattle.ioc_store.specs.declared.outbox.OutboxItem.{OutboxItem}
use Rattle.ioc_events.specs.declared.event.Event.{Event}
use Rattle.ioc_events.specs.declared.event.Event.TheVariants.{Cancel}
use Rattle.ioc_events.specs.declared.reply.Reply.{Reply}
use Rattle.ioc_store.specs.World.{World, Has, at, common_at, put, changed, sent, lost, cancelled, freed, is_notification}
use Rattle.ioc_store.specs.Given.{Answers}
use Rattle.ioc_store.specs.Scanning.{moved, rewired}
use Rattle.ioc_events.specs.Starting.{NoneReady, IsGivenUp}
use Rattle.ioc_events.specs.StepRules.{Does, Step, by_itself, then_others, StartsAll, no_more, next_starts, no_such_record, processes_record, refuses_value, stores_alone, stores_while_active, stores_and_processes, not_awaited, completes_record, refuses_notified_value, no_place, waits_its_turn, starts_now, not_live, cancels}
use Rattle.ioc_store.specs.Worlds.{at-put_same, at-put_other}
use Rattle.ioc_store.specs.ScanLaws.{moved-either, rewired-either}
use Rattle.ioc_events.proofs.StartRules.{one_item}
use Rattle.ioc_events.proofs.StartsLocal.{idle_alone, ready-is}
use Rattle.ioc_store.specs.Freeing.{cancelled-free_at}
use Rattle.ioc_events.proofs.Stepping.{step-cancel}
use Rattle.ioc_events.proofs.StepLaws.{does-is}
use Rattle.ioc_events.specs.Step.{Stepped, lets_start}

true_false : true ≡ false → ⊥
true_false is = cc

none_some : {n : ℕ} → Nothing_ ≡ Some n → ⊥
none_some is = cc

not_itself : (n : ℕ) → nat_eq n n ≡ false → ⊥
not_itself n is = absurd (let e : nat_eq n n ≡ true = grind (arith, common_steps) in true_false (sym e ∙ is))

module _ {R : Type 0} (k : RecordRules R) (lawful : IsLawful k) where
  -- Each record is as idle as it was, and is part of a put with notification if it was.
  abbrev AsIdle : World R → World R → Type 0
  AsIdle w v = (n : ℕ) → idle_alone k lawful (at k v n) ≡ idle_alone k lawful (at k w n)

  as_idle-put : (w : World R) (n : ℕ) (r : R) → idle_alone k lawful r ≡ idle_alone k lawful (at k w n) → AsIdle w (put w n r)
  as_idle-put w n r same m =
      elim (eqb m n) as (λ b. eqb m n ≡ b → idle_alone k lawful (at k (put w n r) m) ≡ idle_alone k lawful (at k w m)) [
        | true ↦ λ is. let e : m ≡ n = grind (arith, common_steps) in rw (e, at-put_same k w n r) same
        | false ↦ λ is. let apart : m ≢ n = grind (arith, common_steps) in rw (at-put_other k w n m r apart) refl
      ] refl

  as_idle-sent : (w v : World R) (item : OutboxItem) → AsIdle w v → AsIdle w (sent item v)
  unfolding at sent
  as_idle-sent w v item same =
      elim (nat_lt (length v.outbox) 256) as (λ b. AsIdle w (cond b (record v { outbox = v.outbox ++ item ∷ [] }) (record v { dropped = more v.dropped }))) [
        | true ↦ λ n. same n
        | false ↦ λ n. same n
      ]

  as_idle-lost : (w v : World R) → AsIdle w v → AsIdle w (lost v)
  unfolding at lost
  as_idle-lost w v same = λ n. same n

  as_idle-numbered : (w v : World R) (n : ℕ) → AsIdle w v → AsIdle w (changed k v n change_numbered)
  unfolding changed
  as_idle-numbered w v n same m =
      as_idle-put v n _ (ap (λ (c : Common). not c.active && not (is_some c.notification)) (lawful.common_set (at k v n) (change_numbered (common_at k v n)))) m ∙ same m

  as_idle-moved : (w v : World R) (n : ℕ) → AsIdle w v → AsIdle w (moved k v n)
  as_idle-moved w v n same = moved-either k (AsIdle w) v n (λ item. as_idle-sent w _ item (as_idle-numbered w v n same)) (as_idle-lost w v same)

  pub as_idle-linked : (w : World R) (s : ℕ) (f : FieldNo) (l : LinkField) (before : List ℕ) → AsIdle w (rewired k before (put w s (k.with_link (at k w s) f l)) s)
  as_idle-linked w s f l before =
      let linked : AsIdle w (put w s (k.with_link (at k w s) f l)) = as_idle-put w s _ (ap (λ (c : Common). not c.active && not (is_some c.notification)) (lawful.link_set_common (at k w s) f l)) in
      rewired-either k (AsIdle w) before (put w s (k.with_link (at k w s) f l)) s linked (as_idle-moved w _ s linked)

  pub none-same : (w v : World R) → AsIdle w v → v.waiting ≡ w.waiting → NoneReady k w → NoneReady k v
  none-same w v same waits none = record {
    none = λ x h. ready-is k lawful v x ∙ same x.target ∙ sym (ready-is k lawful w x) ∙ none.none x (subst (λ (l : List Waiting). Contains l x) waits h);
  }

  does-none : (answers : Answers) {w w' : World R} {event : Event} {reply : Reply} {requests : Requests} → Does k answers w event w' reply requests → lets_start reply ≡ false → NoneReady k w → NoneReady k w'
  does-none answers (no_such_record _) lets none = none
  does-none answers (processes_record _ _ _) lets none = cc
  does-none answers (refuses_value _ _) lets none = none
  does-none answers (stores_alone _ _ _ _) lets none = cc
  does-none answers (stores_while_active _ _ _ _ _) lets none = cc
  does-none answers (stores_and_processes _ _ _ _ _ _ _) lets none = cc
  does-none answers (not_awaited _ _) lets none = none
  does-none answers (completes_record _ _ _) lets none = cc
  does-none answers (refuses_notified_value _ _) lets none = none
  does-none answers (no_place _ _ _) lets none = none
  does-none answers (waits_its_turn _ _ _ _) lets none = cc
  does-none answers (starts_now _ _ _ _ _) lets none = cc
  does-none answers (not_live _) lets none = none
  does-none answers (cancels _) lets none = cc

  all-none : (answers : Answers) {w w' : World R} {requests : Requests} → StartsAll k answers w w' requests → NoneReady k w'
  all-none answers (no_more none) = none
  all-none answers (next_starts _ _ others) = all-none answers others

  pub step-none : (answers : Answers) {w w' : World R} {event : Event} {reply : Reply} {requests : Requests} → Step k answers w event w' reply requests → NoneReady k w → NoneReady k w'
  step-none answers (by_itself does lets) none = does-none answers does lets none
  step-none answers (then_others _ _ others) none = all-none answers others

  -- Lemmas about a cancel.

  set_free : (number : ℕ) (r : R) → (k.common (freed k number r)).notification ≢ Some number
  set_free number r =
      elim (is_notification number (k.common r).notification) as (λ b. is_notification number (k.common r).notification ≡ b
      → (k.common (cond b (k.with_common r (with_notification Nothing_ (k.common r))) r)).notification ≢ Some number) [
        | true ↦ λ _ is. absurd (none_some (sym (ap (λ (c : Common). c.notification) (lawful.common_set r (with_notification Nothing_ (k.common r)))) ∙ is))
        | false ↦ λ isnt is. absurd (not_itself number (sym (ap (is_notification number) is) ∙ isnt))
      ] refl

  -- Those that wait without one of them have other numbers.
  others-wait : (number : ℕ) (xs : List Waiting) (x : Waiting) → Contains (without number xs) x → x.number ≢ number
  others-wait number [] x h = absurd (omega (arith, h.1))
  others-wait number (y ∷ xs) x h =
      elim (nat_eq y.number number) as (λ b. nat_eq y.number number ≡ b → Contains (cond (not b) (y ∷ without number xs) (without number xs)) x → x.number ≢ number) [
        | true ↦ λ _ c. others-wait number xs x c
        | false ↦ λ apart c. elim (Contains-append_cases (y ∷ []) (without number xs) x c) [
          | inl here ↦ λ is. let e : y ≡ x = one_item y x here in let same : y.number ≡ number = ap (λ (v : Waiting). v.number) e ∙ is in not_itself number (ap (λ (m : ℕ). nat_eq m number) (sym same) ∙ apart)
          | inr there ↦ others-wait number xs x there
        ]
      ] refl h

  cancelled-free : (number : ℕ) (w : World R) (n : ℕ) → Has (cancelled k number w) n → (common_at k (cancelled k number w) n).notification ≢ Some number
  cancelled-free number w n has = cancelled-free_at k number w (λ r. (k.common r).notification ≢ Some number) (set_free number) n has

  cancelled-waiting : (number : ℕ) (w : World R) → (cancelled k number w).waiting ≡ without number w.waiting
  unfolding cancelled
  cancelled-waiting number w = refl

  cancelled-ended : (number : ℕ) (w : World R) → (cancelled k number w).ended ≡ w.ended
  unfolding cancelled
  cancelled-ended number w = refl

  cancelled-gives_up : (number : ℕ) (w : World R) → IsGivenUp k number w (cancelled k number w)
  cancelled-gives_up number w = record {
    records = cancelled-free number w;
    waiting = λ x h. others-wait number w.waiting x (subst (λ (l : List Waiting). Contains l x) (cancelled-waiting number w) h);
    ended = cancelled-ended number w;
  }

  pub cancel-gives_up : (answers : Answers) (w after : World R) (number : ℕ) (reply : Reply) (requests : Requests) → Does k answers w (Cancel number) after reply requests → is_live number w.live ≡ true
      → IsGivenUp k number w after
  cancel-gives_up answers w after number reply requests does live =
      subst (IsGivenUp k number w) (ap (λ (x : Stepped R). x.world) (sym (step-cancel k answers w number true live) ∙ does-is k lawful answers does)) (cancelled-gives_up number w)
