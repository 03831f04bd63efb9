-- Events keep a quiet database quiet.
use Rattle.std.proofs.Common.{◌≡◌, ◌≢◌, ℕ, true, false, eqb, Ok, IsSome, IsTrue, Option, None as Nothing_, Bool, refl, ap, subst, ◌∙◌, inl, inr, arith, cond, Some, length, [], ◌∷◌, ◌++◌, sym}
use Rattle.std.specs.Prelude.{◌↔◌, Contains, nat_lt, ◌&&◌}
use Rattle.std.proofs.lemmas.Grind.{common_steps}
use Rattle.ioc_values.specs.declared.input.Input.{Input}
use Rattle.ioc_values.specs.declared.value.Finished.{Finished}
use Rattle.ioc_dbcommon.specs.declared.common.Common.{Common}
use Rattle.ioc_dbcommon.specs.Steps.{with_put_mark, with_reprocess_mark, with_notification, change_numbered}
use Rattle.ioc_fields.specs.declared.field_no.FieldNo.{FieldNo}
use Rattle.ioc_ledger.specs.Requests.{Requests, more}
use Rattle.ioc_dbcommon.specs.declared.link_field.LinkField.{LinkField}
use Rattle.ioc_dbcommon.specs.Links.{use_of, named_by}
use Rattle.ioc_record.specs.RecordRules.{RecordRules, targets}
use Rattle.ioc_record.specs.Values.{put_field}
use Rattle.ioc_record.specs.Laws.{IsLawful}
use Rattle.ioc_events.specs.declared.reply.Reply.{Reply}
use Rattle.ioc_store.specs.World.{World, Has, IsClosed, SameLinks, Keeps, at, common_at, put, changed, begun, begun_at, lost, sent, let_go, admitted, queued, unqueued, cancelled}
use Rattle.ioc_store.specs.Notifying.{notified}
use Rattle.ioc_events.specs.Starting.{is_ready, taken_and_stored}
use Rattle.ioc_store.specs.NotifyLaws.{notified-either}
use Rattle.ioc_store.specs.Freeing.{has-cancelled, len-cancelled, at_cancelled-either}
use Rattle.ioc_notify.specs.declared.waiting_lists.Waiting.{Waiting}
use Rattle.ioc_values.specs.declared.value.Value.{Value}
use Rattle.ioc_process.specs.Rules.{Requested, Resumes, IsQuiet, IsSettled}
use Rattle.ioc_process.specs.Processing.{Done}
use Rattle.ioc_events.specs.declared.event.Event.{Event}
use Rattle.ioc_events.specs.Step.{all_there}
use Rattle.ioc_events.specs.StepRules.{Does, Step, by_itself, then_others, Starts, to_be_processed, at_once_told, StartsAll, no_more, next_starts, no_such_record, processes_record, refuses_value, stores_alone, stores_while_active, stores_and_processes, not_awaited, completes_record, refuses_notified_value, no_place, waits_its_turn, starts_now, not_live, cancels}
use Rattle.ioc_events.proofs.LinkChanges.{linked-names, there_of}
use Rattle.ioc_store.specs.Worlds.{at-put_same, at-put_other, has-put, has-put_back}
use Rattle.ioc_process.specs.Keeping.{same_links, keeps_all, keeps_on, closed_on, keeps-put, keeps-changed, request-keeps, takes_completion-keeps, rescanned-keeps, notified-keeps}
use Rattle.ioc_store.specs.StepFrames.{OwnLinks, links-set, links-stored}
use Rattle.ioc_process.specs.RulesLaws.{resumes-others, resumes-own}
use Rattle.ioc_events.proofs.Stepping.{keeps-put_field, put_active, put_pending}
use Rattle.ioc_process.specs.RulesAlone.{request-is, takes_completion-is}
use Rattle.ioc_process.specs.Quieting.{request-quiet, left-quiet, settled_by}
use Rattle.ioc_store.specs.Given.{Answers}
use Rattle.ioc_store.specs.Scanning.{moved, rescanned}
use Rattle.ioc_store.specs.ScanLaws.{moved-either, rescanned-either}
use Rattle.ioc_store.specs.declared.outbox.OutboxItem.{OutboxItem}

neither : {active : Bool} {pending : Option ℕ} → active ≡ false → pending ≡ Nothing_ → IsTrue active ↔ IsSome pending
neither active pending = (λ is. cc, λ is. cc)

both_left : (a b : Bool) → a && b ≡ true → a ≡ true
both_left true b is = refl
both_left false b is = is

module _ {R : Type 0} (k : RecordRules R) (lawful : IsLawful k) where
  quiet-put : (w : World R) (s : ℕ) (r : R) → Has w s → (k.common r).active ≡ (common_at k w s).active → (k.common r).pending ≡ (common_at k w s).pending
      → IsQuiet k w → IsQuiet k (put w s r)
  quiet-put w s r there active pending quiet = record {
    quiet = λ n has. elim (eqb n s) as (λ b. eqb n s ≡ b → IsTrue (common_at k (put w s r) n).active ↔ IsSome (common_at k (put w s r) n).pending) [
      | true ↦ λ is. let e : n ≡ s = grind (arith, common_steps) in rw (common_at, e, at-put_same k w s r, active, pending) (quiet.quiet s there)
      | false ↦ λ is. let apart : n ≢ s = grind (arith, common_steps) in rw (common_at, at-put_other k w s n r apart) (quiet.quiet n (has-put_back k w s n r there has))
    ] refl;
  }

  put-settled : (w : World R) (s : ℕ) (field : FieldNo) (given : Input) (r : R) → Has w s → put_field k (at k w s) field given ≡ Ok r → IsSettled k w → IsSettled k (put w s r)
  put-settled w s field given r there is settled = record {
    closed = closed_on k lawful (keeps-put_field k lawful w s field given r there is) settled.closed;
    quiet = quiet-put w s r there (put_active k lawful _ r field given is) (put_pending k lawful _ r field given is) settled.quiet;
  }

  -- Changing a mark keeps a world settled.
  mark-settled : (w : World R) (s : ℕ) (f : Common → Common) → ((c : Common) → OwnLinks c (f c)) → ((c : Common) → (f c).active ≡ c.active) → ((c : Common) → (f c).pending ≡ c.pending)
      → Has w s → IsSettled k w → IsSettled k (changed k w s f)
  unfolding changed
  mark-settled w s f links active pending there settled = record {
    closed = closed_on k lawful (keeps-put k w s there _ (links-set k lawful (at k w s) _ (links _))) settled.closed;
    quiet = quiet-put w s _ there (ap (λ (c : Common). c.active) (lawful.common_set _ _) ∙ active _) (ap (λ (c : Common). c.pending) (lawful.common_set _ _) ∙ pending _) settled.quiet;
  }

  request-settled : (answers : Answers) {w w' : World R} {s : ℕ} {requests : Requests} → Has w s → Requested k answers w s w' requests → IsSettled k w → IsSettled k w'
  request-settled answers {w} {w'} {s} there r settled =
      let is = ap (λ (d : Done R). d.world) (request-is k lawful answers r) in
      subst (IsSettled k) is (record {
        closed = closed_on k lawful (request-keeps k lawful w settled.closed answers s there) settled.closed;
        quiet = request-quiet k lawful answers w s there settled.closed settled.quiet;
      })

  -- Moving a record to another scan list keeps a world settled.
  lost-settled : (w : World R) → IsSettled k w → IsSettled k (lost w)
  unfolding at lost
  lost-settled w settled = record {
    closed = record { closed = λ n target h. settled.closed.closed n target h };
    quiet = record { quiet = λ n has. settled.quiet.quiet n has };
  }

  sent-settled : (item : OutboxItem) (w : World R) → IsSettled k w → IsSettled k (sent item w)
  unfolding at sent
  sent-settled item w settled =
      elim (nat_lt (length w.outbox) 256) as (λ b. IsSettled k (cond b (record w { outbox = w.outbox ++ item ∷ [] }) (record w { dropped = more w.dropped }))) [
        | true ↦ record { closed = record { closed = λ n target h. settled.closed.closed n target h }; quiet = record { quiet = λ n has. settled.quiet.quiet n has } }
        | false ↦ record { closed = record { closed = λ n target h. settled.closed.closed n target h }; quiet = record { quiet = λ n has. settled.quiet.quiet n has } }
      ]

  pub moved-settled : (w : World R) (n : ℕ) → Has w n → IsSettled k w → IsSettled k (moved k w n)
  moved-settled w n there settled =
      moved-either k (IsSettled k) w n (λ item. sent-settled item _ (mark-settled w n change_numbered (λ c. (refl, refl)) (λ c. refl) (λ c. refl) there settled)) (lost-settled w settled)

  rescanned-settled : (w : World R) (n : ℕ) (field : FieldNo) → Has w n → IsSettled k w → IsSettled k (rescanned k w n field)
  rescanned-settled w n field there settled = rescanned-either k (IsSettled k) w n field settled (moved-settled w n there settled)

  -- A record that was marked exists.
  marked-has : (w : World R) (s : ℕ) → Has w s → Has (changed k w s (with_put_mark true)) s
  unfolding changed
  marked-has w s there = has-put k w s s _ there

  -- A record that was put to exists, and the world is settled.
  stored-has : (w w' : World R) (s : ℕ) (field : FieldNo) (r : R) → Has w s → w' ≡ rescanned k (put w s r) s field → Has w' s
  stored-has w w' s field r there stored = rw stored ((rescanned-keeps k lawful (put w s r) s field (has-put k w s s r there)).has s (has-put k w s s r there))

  stored-settled : (w w' : World R) (s : ℕ) (field : FieldNo) (given : Input) (r : R) → Has w s → put_field k (at k w s) field given ≡ Ok r → w' ≡ rescanned k (put w s r) s field → IsSettled k w → IsSettled k w'
  stored-settled w w' s field given r there is stored settled =
      subst (IsSettled k) (sym stored) (rescanned-settled (put w s r) s field (has-put k w s s r there) (put-settled w s field given r there is settled))

  pub stored-keeps : (w w' : World R) (s : ℕ) (field : FieldNo) (given : Input) (r : R) → Has w s → put_field k (at k w s) field given ≡ Ok r → w' ≡ rescanned k (put w s r) s field → Keeps k w w'
  stored-keeps w w' s field given r there is stored =
      subst (Keeps k w) (sym stored) (keeps_on k (keeps-put_field k lawful w s field given r there is) (rescanned-keeps k lawful (put w s r) s field (has-put k w s s r there)))

  -- A record whose device answered later no longer waits, and every other is as it was, or waits.
  completion-settled : (answers : Answers) {w w' : World R} {s : ℕ} {x : Finished} {requests : Requests} → Has w s → Resumes k answers w s x w' requests → IsSettled k w → IsSettled k w'
  completion-settled answers {w} {w'} {s} {x} there r settled =
      let keeps : Keeps k w w' = subst (Keeps k w) (ap (λ (d : Done R). d.world) (takes_completion-is k lawful answers r)) (takes_completion-keeps k lawful w settled.closed answers s there x) in
      let own = resumes-own k lawful answers r in
      record {
        closed = closed_on k lawful keeps settled.closed;
        quiet = record {
          quiet = λ n has. elim (eqb n s) as (λ b. eqb n s ≡ b → IsTrue (common_at k w' n).active ↔ IsSome (common_at k w' n).pending) [
            | true ↦ λ is. let e : n ≡ s = grind (arith, common_steps) in rw (common_at, e) (neither own.0 own.1)
            | false ↦ λ is. let apart : n ≢ s = grind (arith, common_steps) in left-quiet (resumes-others k lawful answers r n apart) (settled.quiet.quiet n (keeps.only n has))
          ] refl;
        };
      }

  pub link-closed : (w : World R) (s : ℕ) (f : FieldNo) (l : LinkField) → Has w s → all_there w (named_by (use_of l)) ≡ true → IsClosed k w → IsClosed k (put w s (k.with_link (at k w s) f l))
  link-closed w s f l there led closed =
      let r = k.with_link (at k w s) f l in
      record {
        closed = λ n target h. has-put k w s target r (elim (eqb n s) as (λ b. eqb n s ≡ b → Has w target) [
          | true ↦ λ is.
              let e : n ≡ s = grind (arith, common_steps) in
              let here : Contains (targets k r) target = subst (λ (x : R). Contains (targets k x) target) (ap (at k (put w s r)) e ∙ at-put_same k w s r) h in
              elim (linked-names k lawful (at k w s) f l target here) [
                | inl before ↦ closed.closed s target before
                | inr new ↦ there_of w (named_by (use_of l)) target led new
              ]
          | false ↦ λ is. let apart : n ≢ s = grind (arith, common_steps) in closed.closed n target (subst (λ (x : R). Contains (targets k x) target) (at-put_other k w s n r apart) h)
        ] refl);
      }

  pub link-settled : (w : World R) (s : ℕ) (f : FieldNo) (l : LinkField) → Has w s → all_there w (named_by (use_of l)) ≡ true → IsSettled k w → IsSettled k (put w s (k.with_link (at k w s) f l))
  link-settled w s f l there led settled = record {
    closed = link-closed w s f l there led settled.closed;
    quiet = quiet-put w s _ there (lawful.link_set_active _ f l) (lawful.link_set_pending _ f l) settled.quiet;
  }

  -- Lemmas about puts with notification.

  pub ready-has : (w : World R) (x : Waiting) → is_ready k w x ≡ true → Has w x.target
  unfolding is_ready
  ready-has w x is = both_left _ _ is

  let_go-settled : (number : ℕ) (w : World R) → IsSettled k w → IsSettled k (let_go number w)
  unfolding let_go
  let_go-settled number w settled = settled_by k w _ refl settled

  unqueued-settled : (number : ℕ) (w : World R) → IsSettled k w → IsSettled k (unqueued number w)
  unfolding unqueued
  unqueued-settled number w settled = settled_by k w _ refl settled

  admitted-settled : (number : ℕ) (w : World R) → IsSettled k w → IsSettled k (admitted number w)
  unfolding admitted
  admitted-settled number w settled = settled_by k w _ refl settled

  queued-settled : (x : Waiting) (w : World R) → IsSettled k w → IsSettled k (queued x w)
  unfolding queued
  queued-settled x w settled = settled_by k w _ refl settled

  admitted-has : (number n : ℕ) (w : World R) → Has w n → Has (admitted number w) n
  unfolding admitted
  admitted-has number n w there = there

  unqueued-has : (number n : ℕ) (w : World R) → Has w n → Has (unqueued number w) n
  unfolding unqueued
  unqueued-has number n w there = there

  notified-settled : (w : World R) (s : ℕ) → Has w s → IsSettled k w → IsSettled k (notified k w s)
  notified-settled w s there settled =
      notified-either k (IsSettled k) w s settled (λ n. let_go-settled n _ (mark-settled w s (with_notification Nothing_) (λ c. (refl, refl)) (λ c. refl) (λ c. refl) there settled))

  value-keeps : (w : World R) (s : ℕ) (field : FieldNo) (v : Value) → Has w s → Keeps k w (put w s (k.stored (at k w s) field v))
  value-keeps w s field v there = keeps-put k w s there _ (links-stored k lawful _ field v)

  value-settled : (w : World R) (s : ℕ) (field : FieldNo) (v : Value) → Has w s → IsSettled k w → IsSettled k (put w s (k.stored (at k w s) field v))
  value-settled w s field v there settled = record {
    closed = closed_on k lawful (value-keeps w s field v there) settled.closed;
    quiet = quiet-put w s _ there (lawful.stored_active _ field v) (lawful.stored_pending _ field v) settled.quiet;
  }

  pub taken-keeps : (w : World R) (x : Waiting) → Has w x.target → Keeps k w (taken_and_stored k w x)
  unfolding taken_and_stored
  taken-keeps w x there =
      let one = keeps-changed k lawful w x.target there (with_notification (Some x.number)) (λ c. (refl, refl)) in
      let two = value-keeps _ x.target x.field x.value (one.has x.target there) in
      keeps_on k (keeps_on k one two) (rescanned-keeps k lawful _ x.target x.field (two.has x.target (one.has x.target there)))

  taken-settled : (w : World R) (x : Waiting) → Has w x.target → IsSettled k w → IsSettled k (taken_and_stored k w x)
  unfolding taken_and_stored
  taken-settled w x there settled =
      let one = keeps-changed k lawful w x.target there (with_notification (Some x.number)) (λ c. (refl, refl)) in
      let two = value-keeps _ x.target x.field x.value (one.has x.target there) in
      rescanned-settled _ x.target x.field (two.has x.target (one.has x.target there))
      (value-settled _ x.target x.field x.value (one.has x.target there)
      (mark-settled w x.target (with_notification (Some x.number)) (λ c. (refl, refl)) (λ c. refl) (λ c. refl) there settled))

  starts-settled : (answers : Answers) {w : World R} {x : Waiting} {w' : World R} {requests : Requests} → Starts k answers w x w' requests → Has w x.target → IsSettled k w → IsSettled k w'
  starts-settled answers (to_be_processed {w} {stored} {w'} {x} is _ r) there settled =
      let here : Has stored x.target = subst (λ (v : World R). Has v x.target) (sym is) ((taken-keeps w x there).has x.target there) in
      let after : IsSettled k stored = subst (IsSettled k) (sym is) (taken-settled w x there settled) in
      request-settled answers (marked-has stored x.target here) r (mark-settled stored x.target (with_put_mark true) (λ c. (refl, refl)) (λ c. refl) (λ c. refl) here after)
  starts-settled answers (at_once_told {w} {stored} {x} is _) there settled =
      notified-settled stored x.target (subst (λ (v : World R). Has v x.target) (sym is) ((taken-keeps w x there).has x.target there))
      (subst (IsSettled k) (sym is) (taken-settled w x there settled))

  starts_all-settled : (answers : Answers) {w w' : World R} {requests : Requests} → StartsAll k answers w w' requests → IsSettled k w → IsSettled k w'
  starts_all-settled answers (no_more _) settled = settled
  starts_all-settled answers (next_starts {w} {w'} {w''} {x} next one others) settled =
      starts_all-settled answers others (starts-settled answers one (unqueued-has x.number x.target w (ready-has w x next.ready)) (unqueued-settled x.number w settled))

  pub cancelled-keeps : (number : ℕ) (w : World R) → Keeps k w (cancelled k number w)
  cancelled-keeps number w = record {
    has = λ n h. has-cancelled k number w n ∙ h;
    only = λ n h. sym (has-cancelled k number w n) ∙ h;
    count = len-cancelled k number w;
    links = λ n. at_cancelled-either k number (λ r r'. SameLinks k r r') (λ r. same_links k r) (λ r. links-set k lawful r _ (refl, refl)) w n;
  }

  cancelled-settled : (number : ℕ) (w : World R) → IsSettled k w → IsSettled k (cancelled k number w)
  cancelled-settled number w settled = record {
    closed = closed_on k lawful (cancelled-keeps number w) settled.closed;
    quiet = record {
      quiet = λ n has. at_cancelled-either k number (λ r r'. (IsTrue (k.common r).active ↔ IsSome (k.common r).pending) → (IsTrue (k.common r').active ↔ IsSome (k.common r').pending)) (λ r h. h)
          (λ r h. rw (lawful.common_set r (with_notification Nothing_ (k.common r))) h) w n (settled.quiet.quiet n (sym (has-cancelled k number w n) ∙ has));
    };
  }

  pub does-settled : (answers : Answers) {w w' : World R} {event : Event} {reply : Reply} {requests : Requests} → Does k answers w event w' reply requests → IsSettled k w → IsSettled k w'
  does-settled answers (no_such_record _) settled = settled
  does-settled answers (processes_record there r _) settled = request-settled answers there r settled
  does-settled answers (refuses_value _ _) settled = settled
  does-settled answers (stores_alone {w} {w'} {s} {field} {given} {r} there is stored _) settled = stored-settled w w' s field given r there is stored settled
  does-settled answers (stores_while_active {w} {w'} {s} {field} {given} {r} there is stored _ _) settled =
      mark-settled w' s (with_reprocess_mark true) (λ c. (refl, refl)) (λ c. refl) (λ c. refl) (stored-has w w' s field r there stored) (stored-settled w w' s field given r there is stored settled)
  does-settled answers (stores_and_processes {w} {w'} {w''} {s} {field} {given} {r} there is stored _ _ q _) settled =
      let here = stored-has w w' s field r there stored in
      request-settled answers (marked-has w' s here) q
      (mark-settled w' s (with_put_mark true) (λ c. (refl, refl)) (λ c. refl) (λ c. refl) here (stored-settled w w' s field given r there is stored settled))
  does-settled answers (not_awaited _ _) settled = settled
  does-settled answers (completes_record there _ r) settled = completion-settled answers there r settled
  does-settled answers (refuses_notified_value _ _) settled = settled
  does-settled answers (no_place _ _ _) settled = settled
  does-settled answers (waits_its_turn {w} {s} {number} {field} {given} {v} _ _ _ _) settled = queued-settled _ _ (admitted-settled number w settled)
  does-settled answers (starts_now {w} {w'} {s} {number} there _ _ _ one) settled = starts-settled answers one (admitted-has number s w there) (admitted-settled number w settled)
  does-settled answers (not_live _) settled = settled
  does-settled answers (cancels {w} {number} _) settled = cancelled-settled number w settled

  pub step-settled : (answers : Answers) {w w' : World R} {event : Event} {reply : Reply} {requests : Requests} → Step k answers w event w' reply requests → IsSettled k w → IsSettled k w'
  step-settled answers (by_itself does _) settled = does-settled answers does settled
  step-settled answers (then_others does _ others) settled = starts_all-settled answers others (does-settled answers does settled)

  -- An event adds or removes no record and changes no link.
  request-kept : (answers : Answers) {w w' : World R} {s : ℕ} {requests : Requests} → Has w s → Requested k answers w s w' requests → IsClosed k w → Keeps k w w'
  request-kept answers {w} {w'} {s} there r closed = subst (Keeps k w) (ap (λ (d : Done R). d.world) (request-is k lawful answers r)) (request-keeps k lawful w closed answers s there)

  starts-keeps : (answers : Answers) {w : World R} {x : Waiting} {w' : World R} {requests : Requests} → Starts k answers w x w' requests → Has w x.target → IsClosed k w → Keeps k w w'
  starts-keeps answers (to_be_processed {w} {stored} {w'} {x} is _ r) there closed =
      let one : Keeps k w stored = subst (Keeps k w) (sym is) (taken-keeps w x there) in
      let two = keeps_on k one (keeps-changed k lawful stored x.target (one.has x.target there) (with_put_mark true) (λ c. (refl, refl))) in
      keeps_on k two (request-kept answers (two.has x.target there) r (closed_on k lawful two closed))
  starts-keeps answers (at_once_told {w} {stored} {x} is _) there closed =
      let one : Keeps k w stored = subst (Keeps k w) (sym is) (taken-keeps w x there) in
      keeps_on k one (notified-keeps k lawful stored x.target (one.has x.target there))

  pub unqueued-keeps : (number : ℕ) (w : World R) → Keeps k w (unqueued number w)
  unfolding at unqueued
  unqueued-keeps number w = record { has = λ _ h. h; only = λ _ h. h; count = refl; links = λ n. record { record_type = refl; fields = refl; links = refl } }

  pub admitted-keeps : (number : ℕ) (w : World R) → Keeps k w (admitted number w)
  unfolding at admitted
  admitted-keeps number w = record { has = λ _ h. h; only = λ _ h. h; count = refl; links = λ n. record { record_type = refl; fields = refl; links = refl } }

  pub queued-keeps : (x : Waiting) (w : World R) → Keeps k w (queued x w)
  unfolding at queued
  queued-keeps x w = record { has = λ _ h. h; only = λ _ h. h; count = refl; links = λ n. record { record_type = refl; fields = refl; links = refl } }

  starts_all-keeps : (answers : Answers) {w w' : World R} {requests : Requests} → StartsAll k answers w w' requests → IsClosed k w → Keeps k w w'
  starts_all-keeps answers (no_more {w} _) closed = keeps_all k w
  starts_all-keeps answers (next_starts {w} {w'} {w''} {x} next one others) closed =
      let first = unqueued-keeps x.number w in
      let two = keeps_on k first (starts-keeps answers one (first.has x.target (ready-has w x next.ready)) (closed_on k lawful first closed)) in
      keeps_on k two (starts_all-keeps answers others (closed_on k lawful two closed))

  pub does-keeps : (answers : Answers) {w w' : World R} {event : Event} {reply : Reply} {requests : Requests} → Does k answers w event w' reply requests → IsClosed k w → Keeps k w w'
  does-keeps answers (no_such_record {w} _) closed = keeps_all k w
  does-keeps answers (processes_record there r _) closed = request-kept answers there r closed
  does-keeps answers (refuses_value {w} _ _) closed = keeps_all k w
  does-keeps answers (stores_alone {w} {w'} {s} {field} {given} {r} there is stored _) closed = stored-keeps w w' s field given r there is stored
  does-keeps answers (stores_while_active {w} {w'} {s} {field} {given} {r} there is stored _ _) closed =
      let first = stored-keeps w w' s field given r there is stored in
      keeps_on k first (keeps-changed k lawful w' s (first.has s there) (with_reprocess_mark true) (λ c. (refl, refl)))
  does-keeps answers (stores_and_processes {w} {w'} {w''} {s} {field} {given} {r} there is stored _ _ q _) closed =
      let put_first = stored-keeps w w' s field given r there is stored in
      let first = keeps_on k put_first (keeps-changed k lawful w' s (put_first.has s there) (with_put_mark true) (λ c. (refl, refl))) in
      keeps_on k first (request-kept answers (first.has s there) q (closed_on k lawful first closed))
  does-keeps answers (not_awaited {w} _ _) closed = keeps_all k w
  does-keeps answers (completes_record {w} {w'} {s} {number} {x} there _ r) closed =
      subst (Keeps k w) (ap (λ (d : Done R). d.world) (takes_completion-is k lawful answers r)) (takes_completion-keeps k lawful w closed answers s there x)
  does-keeps answers (refuses_notified_value {w} _ _) closed = keeps_all k w
  does-keeps answers (no_place {w} _ _ _) closed = keeps_all k w
  does-keeps answers (waits_its_turn {w} {s} {number} {field} {given} {v} _ _ _ _) closed = keeps_on k (admitted-keeps number w) (queued-keeps _ (admitted number w))
  does-keeps answers (starts_now {w} {w'} {s} {number} there _ _ _ one) closed =
      let first = admitted-keeps number w in keeps_on k first (starts-keeps answers one (first.has s there) (closed_on k lawful first closed))
  does-keeps answers (not_live {w} _) closed = keeps_all k w
  does-keeps answers (cancels {w} {number} _) closed = cancelled-keeps number w

  pub step-keeps : (answers : Answers) {w w' : World R} {event : Event} {reply : Reply} {requests : Requests} → Step k answers w event w' reply requests → IsClosed k w → Keeps k w w'
  step-keeps answers (by_itself does _) closed = does-keeps answers does closed
  step-keeps answers (then_others does _ others) closed =
      let first = does-keeps answers does closed in keeps_on k first (starts_all-keeps answers others (closed_on k lawful first closed))

  pub begun-settled : (moment : ℕ) (w : World R) → IsSettled k w → IsSettled k (begun_at moment w)
  unfolding at begun begun_at
  begun-settled moment w settled = record {
    closed = record { closed = λ n target h. settled.closed.closed n target h };
    quiet = record { quiet = λ n has. settled.quiet.quiet n has };
  }
