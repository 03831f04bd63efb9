-- No call changes the type of a record.
use Rattle.std.proofs.Common.{◌≡◌, ◌≢◌, ℕ, true, false, eqb, Ok, Option, Some, None as Nothing_, refl, ap, sym, subst, ◌∙◌, arith, cond, length, [], ◌∷◌, ◌++◌, unwrap_or}
use Rattle.std.specs.Prelude.{nat_lt}
use Rattle.std.proofs.lemmas.Grind.{common_steps}
use Rattle.ioc_values.specs.declared.input.Input.{Input}
use Rattle.ioc_values.specs.declared.value.Finished.{Finished}
use Rattle.ioc_values.specs.declared.error.IocError.{IocError}
use Rattle.std.specs.Prelude.{Result, Err}
use Rattle.ioc_fields.specs.declared.field_no.FieldNo.{FieldNo}
use Rattle.ioc_dbcommon.specs.declared.common.Common.{Common}
use Rattle.ioc_dbcommon.specs.Steps.{with_put_mark, with_reprocess_mark, with_notification, change_numbered}
use Rattle.ioc_ledger.specs.Requests.{Requests, more}
use Rattle.ioc_notify.specs.declared.waiting_lists.Waiting.{Waiting}
use Rattle.ioc_record.specs.RecordRules.{RecordRules}
use Rattle.ioc_record.specs.Laws.{IsLawful}
use Rattle.ioc_record.specs.Values.{put_field, put_untested, put_tested, put_once_tested, converted_for}
use Rattle.ioc_store.specs.World.{World, at, put, changed, begun, begun_at, called, sent, lost, taken_on, let_go, admitted, queued, unqueued, cancelled}
use Rattle.ioc_store.specs.declared.call.Call.{Call as DeviceCall}
use Rattle.ioc_store.specs.declared.outbox.OutboxItem.{OutboxItem}
use Rattle.ioc_store.specs.Given.{Answers, listed}
use Rattle.ioc_store.specs.Worlds.{at-put_same, at-put_other}
use Rattle.ioc_store.specs.StepFrames.{stored_with}
use Rattle.ioc_store.specs.Scanning.{device_of, moved, rescanned}
use Rattle.ioc_store.specs.ScanLaws.{moved-either, rescanned-either, rewired-either}
use Rattle.ioc_store.specs.Notifying.{passed_on, notified}
use Rattle.ioc_store.specs.NotifyLaws.{passed-either, notified-either}
use Rattle.ioc_store.specs.Freeing.{at_cancelled-either}
use Rattle.ioc_process.specs.Alongside.{Guards, request-goes, takes_completion-goes}
use Rattle.ioc_process.specs.Processing.{Done, request, resumed_with}
use Rattle.ioc_process.specs.Rules.{Requested, Resumes}
use Rattle.ioc_process.specs.RulesAlone.{request-is, takes_completion-is}
use Rattle.ioc_events.specs.declared.event.Event.{Event}
use Rattle.ioc_events.specs.declared.reply.Reply.{Reply}
use Rattle.ioc_events.specs.Starting.{taken_and_stored}
use Rattle.ioc_events.specs.declared.event.Call.{Call}
use Rattle.ioc_events.specs.Calls.{called as call_of}
use Rattle.ioc_events.specs.StepRules.{Does, Step, by_itself, then_others, Starts, to_be_processed, at_once_told, StartsAll, no_more, next_starts, no_such_record, processes_record, refuses_value, stores_alone, stores_while_active, stores_and_processes, not_awaited, completes_record, refuses_notified_value, no_place, waits_its_turn, starts_now, not_live, cancels, Calls, does_event, shows_field, tells_if_live, keeps_its_link, takes_link, posts_event, interrupts}
use Rattle.ioc_journal.specs.declared.entry.Note.{Note}
use Rattle.ioc_journal.specs.Legal.{entry_of, done}
use Rattle.ioc_engine.specs.Types.{type_at, HaveSameTypes, CallsKeepTypes, ListsKeepTypes, HeldKeepTypes}

module _ {R : Type 0} (k : RecordRules R) (lawful : IsLawful k) where
  same-all : (w : World R) → HaveSameTypes k w w
  same-all w = record { types = λ n. refl }

  same-on : {w v u : World R} → HaveSameTypes k w v → HaveSameTypes k v u → HaveSameTypes k w u
  same-on one two = record { types = λ n. two.types n ∙ one.types n }

  -- Putting a record of the same type keeps the types.
  same-put : (w0 w : World R) (s : ℕ) (r : R) → k.record_type r ≡ type_at k w0 s → HaveSameTypes k w0 w → HaveSameTypes k w0 (put w s r)
  same-put w0 w s r own same = record {
    types = λ n. elim (eqb n s) as (λ b. eqb n s ≡ b → type_at k (put w s r) n ≡ type_at k w0 n) [
      | true ↦ λ is. let e : n ≡ s = grind (arith, common_steps) in rw (type_at, e, at-put_same k w s r) own
      | false ↦ λ is. let apart : n ≢ s = grind (arith, common_steps) in rw (type_at, at-put_other k w s n r apart) (same.types n)
    ] refl;
  }

  same-one : (w : World R) (s : ℕ) (r : R) → k.record_type r ≡ type_at k w s → HaveSameTypes k w (put w s r)
  same-one w s r own = same-put w w s r own (same-all w)

  same-changed : (w : World R) (s : ℕ) (f : Common → Common) → HaveSameTypes k w (changed k w s f)
  unfolding changed
  same-changed w s f = same-one w s _ (lawful.type_set (at k w s) _)

  same-called : (call : DeviceCall) (w : World R) → HaveSameTypes k w (called call w)
  unfolding at called
  same-called call w = record { types = λ n. refl }

  same-sent : (item : OutboxItem) (w : World R) → HaveSameTypes k w (sent item w)
  unfolding at sent
  same-sent item w = elim (nat_lt (length w.outbox) 256) as (λ b. HaveSameTypes k w (cond b (record w { outbox = w.outbox ++ item ∷ [] }) (record w { dropped = more w.dropped }))) [
    | true ↦ record { types = λ n. refl }
    | false ↦ record { types = λ n. refl }
  ]

  same-lost : (w : World R) → HaveSameTypes k w (lost w)
  unfolding at lost
  same-lost w = record { types = λ n. refl }

  same-taken_on : (number : ℕ) (w : World R) → HaveSameTypes k w (taken_on number w)
  unfolding at taken_on
  same-taken_on number w = record { types = λ n. refl }

  same-let_go : (number : ℕ) (w : World R) → HaveSameTypes k w (let_go number w)
  unfolding at let_go
  same-let_go number w = record { types = λ n. refl }

  same-unqueued : (number : ℕ) (w : World R) → HaveSameTypes k w (unqueued number w)
  unfolding at unqueued
  same-unqueued number w = record { types = λ n. refl }

  same-admitted : (number : ℕ) (w : World R) → HaveSameTypes k w (admitted number w)
  unfolding at admitted
  same-admitted number w = record { types = λ n. refl }

  same-queued : (x : Waiting) (w : World R) → HaveSameTypes k w (queued x w)
  unfolding at queued
  same-queued x w = record { types = λ n. refl }

  same-begun : (moment : ℕ) (w : World R) → HaveSameTypes k w (begun_at moment w)
  unfolding at begun begun_at
  same-begun moment w = record { types = λ n. refl }

  same-passed : (w : World R) (s t : ℕ) → HaveSameTypes k w (passed_on k w s t)
  same-passed w s t = passed-either k (HaveSameTypes k w) w s t (same-all w) (λ n. same-on (same-changed w t (with_notification (Some n))) (same-taken_on n _))

  same-notified : (w : World R) (s : ℕ) → HaveSameTypes k w (notified k w s)
  same-notified w s = notified-either k (HaveSameTypes k w) w s (same-all w) (λ n. same-on (same-changed w s (with_notification Nothing_)) (same-let_go n _))

  same-moved : (w : World R) (n : ℕ) → HaveSameTypes k w (moved k w n)
  same-moved w n = moved-either k (HaveSameTypes k w) w n (λ item. same-on (same-changed w n change_numbered) (same-sent item _)) (same-lost w)

  same-rescanned : (w : World R) (n : ℕ) (field : FieldNo) → HaveSameTypes k w (rescanned k w n field)
  same-rescanned w n field = rescanned-either k (HaveSameTypes k w) w n field (same-all w) (same-moved w n)

  same-cancelled : (number : ℕ) (w : World R) → HaveSameTypes k w (cancelled k number w)
  same-cancelled number w = record { types = λ n. at_cancelled-either k number (λ r r'. k.record_type r' ≡ k.record_type r) (λ r. refl) (λ r. lawful.type_set r (with_notification Nothing_ (k.common r))) w n }

  -- The types of a world, as the start of requests.
  module _ (w0 : World R) where
    abbrev KeptFrom : World R → World R → Type 0
    KeptFrom w v = (w ≡ v) × HaveSameTypes k w0 w

    abbrev HasType : ℕ → R → Type 0
    HasType n r = k.record_type r ≡ type_at k w0 n

    kept : Guards k (λ n. Unit {0}) HasType KeptFrom
    kept = record {
      same = λ inv n _. ap (λ (w : World R). at k w n) inv.0;
      good = λ inv n _. inv.1.types n;
      calls = λ inv. ap (λ (w : World R). w.calls) inv.0;
      moment = λ inv. ap (λ (w : World R). w.moment) inv.0;
      link = λ good target links. tt;
      common = λ {n} {r} good c _. lawful.type_set r c ∙ good;
      taken = λ {n} {r} good got. lawful.taken_type r got ∙ good;
      posted = λ {n} {r} good changes. lawful.posted_type r changes ∙ good;
      finished = λ {n} {r} good x. lawful.finished_type r x ∙ good;
      stored = λ {n} {r} good f v. lawful.stored_type r f v ∙ good;
      put = λ inv n _ r good _. (ap (λ (w : World R). put w n r) inv.0, same-put w0 _ n r good inv.1);
      call = λ inv one. (ap (called one) inv.0, same-on inv.1 (same-called one _));
      send = λ inv item. (ap (sent item) inv.0, same-on inv.1 (same-sent item _));
      lose = λ inv. (ap lost inv.0, same-on inv.1 (same-lost _));
      pass = λ inv s _ t _. (ap (λ (w : World R). passed_on k w s t) inv.0, same-on inv.1 (same-passed _ s t));
      tell = λ inv s _. (ap (λ (w : World R). notified k w s) inv.0, same-on inv.1 (same-notified _ s));
    }

    start : KeptFrom w0 w0
    start = (refl, same-all w0)

    same-request : (answers : Answers) (s : ℕ) → HaveSameTypes k w0 (request k answers w0 s).world
    same-request answers s = (request-goes k lawful _ _ _ kept answers start s tt).inv.1

    same-takes_completion : (answers : Answers) (s : ℕ) (x : Finished) → HaveSameTypes k w0 (resumed_with k answers w0 s x).world
    same-takes_completion answers s x = (takes_completion-goes k lawful _ _ _ kept answers start s tt x).inv.1

  -- The types after a request and after a completion, by the rules.
  same-requested : (answers : Answers) {w w' : World R} {s : ℕ} {requests : Requests} → Requested k answers w s w' requests → HaveSameTypes k w w'
  same-requested answers {w} {w'} {s} r = subst (HaveSameTypes k w) (ap (λ (d : Done R). d.world) (request-is k lawful answers r)) (same-request w answers s)

  same-resumed : (answers : Answers) {w w' : World R} {s : ℕ} {x : Finished} {requests : Requests} → Resumes k answers w s x w' requests → HaveSameTypes k w w'
  same-resumed answers {w} {w'} {s} {x} r = subst (HaveSameTypes k w) (ap (λ (d : Done R). d.world) (takes_completion-is k lawful answers r)) (same-takes_completion w answers s x)

  -- A put stores some value, which keeps the type.
  type-put_tested : (r r' : R) (field : FieldNo) (given : Input) (test : Result Unit IocError) → put_once_tested k r field given test ≡ Ok r' → k.record_type r' ≡ k.record_type r
  unfolding put_untested
  type-put_tested r r' field given (Ok _) is =
      let s = stored_with k r r' field (converted_for k r field given) is in
      subst (λ (x : R). k.record_type x ≡ k.record_type r) s.1 (lawful.stored_type r field s.0)
  type-put_tested r r' field given (Err e) is = absurd cc

  type-put_field : (r r' : R) (field : FieldNo) (given : Input) → put_field k r field given ≡ Ok r' → k.record_type r' ≡ k.record_type r
  unfolding put_field
  type-put_field r r' field given is = type-put_tested r r' field given (put_tested k r field) is

  same-stored : (w w' : World R) (s : ℕ) (field : FieldNo) (given : Input) (r : R) → put_field k (at k w s) field given ≡ Ok r → w' ≡ rescanned k (put w s r) s field → HaveSameTypes k w w'
  same-stored w w' s field given r is stored =
      subst (HaveSameTypes k w) (sym stored) (same-on (same-one w s r (type-put_field (at k w s) r field given is)) (same-rescanned (put w s r) s field))

  same-taken : (w : World R) (x : Waiting) → HaveSameTypes k w (taken_and_stored k w x)
  unfolding taken_and_stored
  same-taken w x =
      let one = same-changed w x.target (with_notification (Some x.number)) in
      let two = same-on one (same-one _ x.target _ (lawful.stored_type _ x.field x.value)) in
      same-on two (same-rescanned _ x.target x.field)

  same-starts : (answers : Answers) {w : World R} {x : Waiting} {w' : World R} {requests : Requests} → Starts k answers w x w' requests → HaveSameTypes k w w'
  same-starts answers (to_be_processed {w} {stored} {w'} {x} is _ r) =
      let one : HaveSameTypes k w stored = subst (HaveSameTypes k w) (sym is) (same-taken w x) in
      same-on (same-on one (same-changed stored x.target (with_put_mark true))) (same-requested answers r)
  same-starts answers (at_once_told {w} {stored} {x} is _) =
      let one : HaveSameTypes k w stored = subst (HaveSameTypes k w) (sym is) (same-taken w x) in
      same-on one (same-notified stored x.target)

  same-starts_all : (answers : Answers) {w w' : World R} {requests : Requests} → StartsAll k answers w w' requests → HaveSameTypes k w w'
  same-starts_all answers (no_more {w} _) = same-all w
  same-starts_all answers (next_starts {w} {w'} {w''} {x} next one others) =
      same-on (same-on (same-unqueued x.number w) (same-starts answers one)) (same-starts_all answers others)

  same-does : (answers : Answers) {w w' : World R} {event : Event} {reply : Reply} {requests : Requests} → Does k answers w event w' reply requests → HaveSameTypes k w w'
  same-does answers (no_such_record {w} _) = same-all w
  same-does answers (processes_record _ r _) = same-requested answers r
  same-does answers (refuses_value {w} _ _) = same-all w
  same-does answers (stores_alone {w} {w'} {s} {field} {given} {r} _ is stored _) = same-stored w w' s field given r is stored
  same-does answers (stores_while_active {w} {w'} {s} {field} {given} {r} _ is stored _ _) =
      same-on (same-stored w w' s field given r is stored) (same-changed w' s (with_reprocess_mark true))
  same-does answers (stores_and_processes {w} {w'} {w''} {s} {field} {given} {r} _ is stored _ _ q _) =
      same-on (same-on (same-stored w w' s field given r is stored) (same-changed w' s (with_put_mark true))) (same-requested answers q)
  same-does answers (not_awaited {w} _ _) = same-all w
  same-does answers (completes_record _ _ r) = same-resumed answers r
  same-does answers (refuses_notified_value {w} _ _) = same-all w
  same-does answers (no_place {w} _ _ _) = same-all w
  same-does answers (waits_its_turn {w} {s} {number} {field} {given} {v} _ _ _ _) = same-on (same-admitted number w) (same-queued _ (admitted number w))
  same-does answers (starts_now {w} {w'} {s} {number} _ _ _ _ one) = same-on (same-admitted number w) (same-starts answers one)
  same-does answers (not_live {w} _) = same-all w
  same-does answers (cancels {w} {number} _) = same-cancelled number w

  same-step : (answers : Answers) {w w' : World R} {event : Event} {reply : Reply} {requests : Requests} → Step k answers w event w' reply requests → HaveSameTypes k w w'
  same-step answers (by_itself does _) = same-does answers does
  same-step answers (then_others does _ others) = same-on (same-does answers does) (same-starts_all answers others)

  same-call : (answers : Answers) {w w' : World R} {made : Call} {requests : Requests} → Calls k answers w made w' requests → HaveSameTypes k w w'
  same-call answers (does_event step) = same-step answers step
  same-call answers (shows_field {w} _) = same-all w
  same-call answers (tells_if_live {w} _) = same-all w
  same-call answers (keeps_its_link {w} _) = same-all w
  same-call answers (takes_link {w} {s} {field} {link} _) =
      let v = put w s (k.with_link (at k w s) field link) in
      let first = same-one w s (k.with_link (at k w s) field link) (lawful.link_set_type (at k w s) field link) in
      rewired-either k (HaveSameTypes k w) (device_of k (at k w s)) v s first (same-on first (same-moved v s))
  same-call answers (posts_event {w}) = same-all w
  same-call answers (interrupts {w}) = same-all w

  -- The rules allow the result of each call.
  abbrev pub AreAllowed : Type 0
  AreAllowed = (answers : Answers) (w : World R) (made : Call) → Calls k answers w (call_of k answers w made).call (call_of k answers w made).world (call_of k answers w made).requests

  pub calls-keep : AreAllowed → CallsKeepTypes k
  calls-keep allowed answers w made = same-call answers (allowed answers w made)

  same-done : AreAllowed → (m : World R) (n : Note) → HaveSameTypes k m (done k m n).world
  unfolding done
  same-done allowed m n = same-on (same-begun (entry_of n).moment m) (calls-keep allowed (listed (entry_of n).answers) (begun_at (entry_of n).moment m) (entry_of n).call)

  pub lists-keep : AreAllowed → ListsKeepTypes k
  lists-keep allowed base [] = same-all base
  lists-keep allowed base (n ∷ log) = same-on (same-done allowed base n) (lists-keep allowed (done k base n).world log)

  pub held-keep : AreAllowed → HeldKeepTypes k
  unfolding at
  held-keep allowed base v log holds n has = ap (λ (o : Option R). k.record_type (unwrap_or o k.missing)) (sym (holds.records n has)) ∙ (lists-keep allowed base log).types n
