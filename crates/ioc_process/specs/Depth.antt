-- Requests nest no deeper than the number of idle records, so `request` is the only function that
-- satisfies its own recursion.
use Rattle.std.proofs.Common.{◌≡◌, ◌≢◌, ℕ, zero, suc, ◌+◌, ◌<◌, ◌≤◌, Bool, true, false, cond, eqb, List, [], ◌∷◌, length, Option, Some, None as Nothing_, refl, sym, ap, ◌∙◌, arith}
use Rattle.ioc_dbcommon.specs.declared.common.Common.{Common}
use Rattle.ioc_dbcommon.specs.declared.link_field.LinkUse.{LinkUse}
use Rattle.ioc_dbcommon.specs.declared.link_field.LinkUse.TheVariants.{Unused, OwnDevice, Absent, Standing}
use Rattle.ioc_dbcommon.specs.declared.link_field.StandingLink.{StandingLink}
use Rattle.ioc_dbcommon.specs.declared.body.Got.{Got}
use Rattle.ioc_dbcommon.specs.declared.body.Got.TheVariants.{Nothing as Got-nothing, Value as Got-value, Fault as Got-fault}
use Rattle.ioc_dbcommon.specs.declared.body.Want.{Want}
use Rattle.ioc_dbcommon.specs.declared.body.Want.TheVariants.{NoInput, ReadLink, ReadDevice, ReadInputs}
use Rattle.ioc_dbcommon.specs.declared.body.Output.{Output}
use Rattle.ioc_dbcommon.specs.declared.body.Output.TheVariants.{NoOutput, WriteLink, WriteDevice, FollowLinks, PostEvent}
use Rattle.ioc_fields.specs.declared.field_no.FieldNo.TheVariants.{Own}
use Rattle.ioc_fields.specs.declared.field_no.OwnField.{OwnField}
use Rattle.ioc_fields.specs.declared.field_no.OwnField.TheVariants.{Letter, Seln}
use Rattle.ioc_fields.specs.declared.field_no.FieldSlot.{FieldSlot}
use Rattle.ioc_values.specs.declared.input.Input.{Input}
use Rattle.ioc_values.specs.declared.input.Input.TheVariants.{Value as InputValue}
use Rattle.ioc_record.specs.Values.{put_untested, converted_for}
use Rattle.ioc_device.specs.declared.Answer.{Answer}
use Rattle.ioc_device.specs.declared.Answer.TheVariants.{Done as Done-answer, Fault as Fault-answer, Later}
use Rattle.ioc_values.specs.declared.value.Value.{Value}
use Rattle.ioc_values.specs.declared.error.IocError.{IocError}
use Rattle.ioc_dbcommon.specs.Links.{use_of}
use Rattle.std.proofs.lemmas.Grind.{common_steps}
use Rattle.ioc_dbcommon.specs.declared.body.InputKind.{InputKind}
use Rattle.ioc_dbcommon.specs.declared.body.InputKind.TheVariants as input-kind
use Rattle.ioc_dbcommon.specs.Steps.{inherited, blocked, unblocked, with_active, waiting, is_passive, with_put_mark, disabled, disable_kind, change_numbered, with_notification}
use Rattle.ioc_store.specs.Marks.{is_put_down, put_down, put_mark_passed, at_rest, with_disable_input, is_disabled}
use Rattle.ioc_store.specs.declared.call.Call.{Call}
use Rattle.ioc_device.specs.declared.Ask.TheVariants.{Read as Read-ask, Write as Write-ask}
use Rattle.ioc_ledger.specs.declared.outcome.Outcome.TheVariants.{Disabled, Reprocess}
use Rattle.ioc_record.specs.RecordRules.{RecordRules}
use Rattle.ioc_record.specs.Laws.{IsLawful}
use Rattle.ioc_store.specs.declared.outbox.OutboxItem.{OutboxItem}
use Rattle.ioc_store.specs.declared.outbox.OutboxItem.TheVariants.{Once, Post}
use Rattle.ioc_store.specs.World.{World, Has, at, common_at, put, called, sent, changed, idle, Stays, lost, taken_on, let_go}
use Rattle.ioc_store.specs.Inputs.{kept}
use Rattle.ioc_store.specs.Links.{link_at, input_at, chosen_links, requests_first, requests_after, handed_on}
use Rattle.ioc_ledger.specs.Requests.{None, Request, more}
use Rattle.ioc_process.specs.Processing.{Done, Ran, Read, Came, Reading, Written, PutOut, as_request, ran_after, processed, asked, next_call, as_input, judged, begun_idle, ran, caused, followed, inherits, value_came, stored_at, wrote, after_writing, write_link, followed_each, finished, finished_if, after_output, acknowledged, write_device, put_out, prepared, read_record, faulted, read_link, completed, completed_if, device_gave, received, read_device, can_ask, input, body, turned_away, requested, nested, request, read_at, read_each, read_chosen, read_inputs}
use Rattle.ioc_store.specs.Rests.{rested, disable_came}
use Rattle.std.specs.Prelude.{nat_lt, ◌++◌, Result, Ok, Err}
use Rattle.ioc_fields.specs.declared.field_no.FieldNo.{FieldNo}
use Rattle.ioc_store.specs.StepFrames.{blocked-frame, stored_with}
use Rattle.ioc_store.specs.Showing.{shown_record, showing, shown-common, showing-common}
use Rattle.ioc_store.specs.Worlds.{room, common_at-changed, idle-changed, idle-kept, idle-put, at-put_same, at-put_other, has-put}
use Rattle.ioc_store.specs.Given.{Answers}
use Rattle.ioc_store.specs.Scanning.{moved, rescanned}
use Rattle.ioc_store.specs.ScanLaws.{moved-either, rescanned-either}
use Rattle.ioc_store.specs.Notifying.{passed_on, notified}
use Rattle.ioc_store.specs.NotifyLaws.{passed-either, notified-either}

-- Passing PUTF keeps a record as active as it was.
pub passed-active : (by_put : Bool) (c : Common) → (put_mark_passed by_put c).active ≡ c.active
unfolding put_mark_passed
passed-active by_put c = elim c.active as (λ b. (cond b c (with_put_mark by_put c)).active ≡ c.active) [
  | true ↦ refl
  | false ↦ refl
]

pub disabled-active : (c : Common) → (disabled c).active ≡ c.active
unfolding disabled
disabled-active c = refl

abbrev one_if : Bool → ℕ
one_if b = cond b 1 0

abbrev one_if_not : Bool → ℕ
one_if_not b = cond b 0 1

module _ {R : Type 0} (k : RecordRules R) where
  -- Two ways to request have the same result if few enough records are idle, and leave no more
  -- idle.
  pub record Asks (bound : ℕ) (ask other : World R → ℕ → Done R) : Type 0 where
    pub same : (w : World R) (s : ℕ) → idle k w < bound → ask w s ≡ other w s
    pub fewer : (w : World R) (s : ℕ) → idle k w < bound → idle k (ask w s).world ≤ idle k w

  -- Few enough records are idle, counting record `s` as active.
  abbrev pub FewIdle : ℕ → World R → ℕ → Type 0
  FewIdle bound w s = idle k w < bound + one_if_not (common_at k w s).active

  -- No more records are idle after an input, and its record is as active as it was, unless its
  -- device answers later.
  pub record Reads (w : World R) (s : ℕ) (reading : Reading R) : Type 0 where
    pub fewer : idle k reading.world ≤ idle k w
    pub active : (got : Got) → reading.came ≡ Some got → (common_at k reading.world s).active ≡ (common_at k w s).active

  -- No more records are idle after an output, and its record is as active as it was, unless its
  -- device answers later.
  pub record Outs (w : World R) (s : ℕ) (out : PutOut R) : Type 0 where
    pub fewer : idle k out.world ≤ idle k w
    pub active : out.goes_on ≡ true → (common_at k out.world s).active ≡ (common_at k w s).active

  pub stays_here : (w : World R) (s : ℕ) → Stays k w s w
  stays_here w s = record { fewer = omega arith; active = refl }

  pub stays_on : {w mid after : World R} {s : ℕ} → Stays k w s mid → Stays k mid s after → Stays k w s after
  stays_on one two = let a = one.fewer in let b = two.fewer in record { fewer = omega arith; active = two.active ∙ one.active }

  pub room_on : (bound : ℕ) (w mid : World R) (s : ℕ) → FewIdle bound w s → Stays k w s mid → FewIdle bound mid s
  room_on bound w mid s room one = omega (arith, room, one.fewer, ap one_if_not one.active)

module _ {R : Type 0} (k : RecordRules R) (lawful : IsLawful k) where
  pub stays-changed : (w : World R) (s : ℕ) (f : Common → Common) → (f (common_at k w s)).active ≡ (common_at k w s).active → Stays k w s (changed k w s f)
  stays-changed w s f same = record {
    fewer = omega (arith, idle-kept k lawful w s f same);
    active = ap (λ (c : Common). c.active) (common_at-changed k lawful w s f) ∙ same;
  }

  room-active : (bound : ℕ) (w : World R) (s : ℕ) → FewIdle k bound w s → idle k (changed k w s (with_active true)) < bound
  room-active bound w s room = omega (arith, room, idle-changed k lawful w s (with_active true))

  pub inherits-stays : (w : World R) (s : ℕ) (t : StandingLink) → Stays k w s (inherits k w s t)
  unfolding inherits
  inherits-stays w s t =
      elim (eqb s t.number) as (λ b. Stays k w s (cond b w (changed k w s (inherited t.mode (common_at k w t.number).condition.alarms.status (common_at k w t.number).condition.alarms.severity)))) [
        | true ↦ stays_here k w s
        | false ↦ stays-changed w s _ refl
      ]

  pub faulted-stays : (w : World R) (s : ℕ) → Stays k w s (faulted k w s)
  unfolding faulted
  faulted-stays w s = stays-changed w s _ refl

  pub value_came-stays : (w : World R) (s : ℕ) (t : StandingLink) (value : Result Value IocError) → Stays k w s (value_came k w s t value).world
  unfolding value_came
  value_came-stays w s t (Ok v) = inherits-stays w s t
  value_came-stays w s t (Err e) = faulted-stays w s

  -- Putting a record that is as active as it was keeps the number of idle records.
  pub stays-put : (w : World R) (s n : ℕ) (r : R) → (k.common r).active ≡ (common_at k w n).active → Stays k w s (put w n r)
  stays-put w s n r same = record {
    fewer = omega (arith, idle-put k lawful w n r, ap one_if_not same);
    active = elim (eqb s n) as (λ b. eqb s n ≡ b → (common_at k (put w n r) s).active ≡ (common_at k w s).active) [
      | true ↦ λ is. let e : s ≡ n = grind (arith, common_steps) in ap (λ (x : R). (k.common x).active) (ap (at k (put w n r)) e ∙ at-put_same k w n r) ∙ same ∙ ap (λ (m : ℕ). (common_at k w m).active) (sym e)
      | false ↦ λ is. let apart : s ≢ n = grind (arith, common_steps) in ap (λ (x : R). (k.common x).active) (at-put_other k w n s r apart)
    ] refl;
  }

  stays-other : (w : World R) (s n : ℕ) (f : Common → Common) → (f (common_at k w n)).active ≡ (common_at k w n).active → Stays k w s (changed k w n f)
  unfolding changed
  stays-other w s n f same = stays-put w s n _ (ap (λ (c : Common). c.active) (lawful.common_set _ _) ∙ same)

  pub handed-stays : (w : World R) (s n : ℕ) (t : StandingLink) → Stays k w n (handed_on k w s t)
  unfolding handed_on
  handed-stays w s n t = stays-other w n t.number _ refl

  pub sent-stays : (item : OutboxItem) (w : World R) (s : ℕ) → Stays k w s (sent item w)
  unfolding idle at sent
  sent-stays item w s =
      elim (nat_lt (length w.outbox) 256) as (λ b. Stays k w s (cond b (record w { outbox = w.outbox ++ item ∷ [] }) (record w { dropped = more w.dropped }))) [
        | true ↦ record { fewer = omega arith; active = refl }
        | false ↦ record { fewer = omega arith; active = refl }
      ]

  pub lost-stays : (w : World R) (s : ℕ) → Stays k w s (lost w)
  unfolding idle at lost
  lost-stays w s = record { fewer = omega arith; active = refl }

  pub moved-stays : (w : World R) (s n : ℕ) → Stays k w s (moved k w n)
  moved-stays w s n = moved-either k (Stays k w s) w n (λ item. stays_on k (stays-other w s n change_numbered refl) (sent-stays item _ s)) (lost-stays w s)

  pub rescanned-stays : (w : World R) (s n : ℕ) (field : FieldNo) → Stays k w s (rescanned k w n field)
  rescanned-stays w s n field = rescanned-either k (Stays k w s) w n field (stays_here k w s) (moved-stays w s n)

  sent-has : (item : OutboxItem) (w : World R) (m : ℕ) → Has w m → Has (sent item w) m
  unfolding sent
  sent-has item w m has =
      elim (nat_lt (length w.outbox) 256) as (λ b. Has (cond b (record w { outbox = w.outbox ++ item ∷ [] }) (record w { dropped = more w.dropped })) m) [
        | true ↦ has
        | false ↦ has
      ]

  lost-has : (w : World R) (m : ℕ) → Has w m → Has (lost w) m
  unfolding lost
  lost-has w m has = has

  numbered-has : (w : World R) (n m : ℕ) → Has w m → Has (changed k w n change_numbered) m
  unfolding changed
  numbered-has w n m has = has-put k w n m _ has

  pub moved-has : (w : World R) (n m : ℕ) → Has w m → Has (moved k w n) m
  moved-has w n m has = moved-either k (λ v. Has v m) w n (λ item. sent-has item _ m (numbered-has w n m has)) (lost-has w m has)

  pub rescanned-has : (w : World R) (n : ℕ) (field : FieldNo) (m : ℕ) → Has w m → Has (rescanned k w n field) m
  rescanned-has w n field m has = rescanned-either k (λ v. Has v m) w n field has (moved-has w n m has)

  -- Storing a value, successfully or not, removes no record.
  pub written_has : (w : World R) (t : StandingLink) (result : Result R IocError) (n : ℕ) → Has w n → Has (stored_at k w t result).world n
  unfolding stored_at
  written_has w t (Ok r) n has = rescanned-has (put w t.number r) t.number t.field n (has-put k w t.number n r has)
  written_has w t (Err e) n has = has

  stored-stays : (w : World R) (s : ℕ) (t : StandingLink) (result : Result R IocError) → ((r : R) → result ≡ Ok r → (k.common r).active ≡ (common_at k w t.number).active)
      → Stays k w s (stored_at k w t result).world
  unfolding stored_at
  stored-stays w s t (Ok r) same = stays_on k (stays-put w s t.number r (same r refl)) (rescanned-stays (put w t.number r) s t.number t.field)
  stored-stays w s t (Err e) same = stays_here k w s

  pub untested-active : (r : R) (f : FieldNo) (given : Input) (r' : R) → put_untested k r f given ≡ Ok r' → (k.common r').active ≡ (k.common r).active
  unfolding put_untested
  untested-active r f given r' is =
      let with = stored_with k r r' f (converted_for k r f given) is in
      ap (λ (x : R). (k.common x).active) (sym with.1) ∙ lawful.stored_active r f with.0

  pub wrote-stays : (w : World R) (s : ℕ) (t : StandingLink) (v : Value) → Stays k w s (wrote k w s t v).world
  unfolding wrote
  wrote-stays w s t v = stays_on k (stored-stays w s t _ (untested-active (at k w t.number) t.field (InputValue v))) (handed-stays _ s s t)

  pub taken-stays : (w : World R) (s : ℕ) (got : Got) → Stays k w s (put w s (k.taken (at k w s) got))
  taken-stays w s got = stays-put w s s _ (lawful.taken_active _ got)

  pub kept-stays : (w : World R) (s : ℕ) (f : OwnField) (got : Got) → Stays k w s (kept k w s f got)
  unfolding kept
  kept-stays w s f (Got-value v) = stays-put w s s _ (lawful.stored_active (at k w s) (Own f) v)
  kept-stays w s f Got-nothing = stays_here k w s
  kept-stays w s f Got-fault = stays_here k w s

  pub room-shown : (w : World R) (s : ℕ) → idle k (showing k w s) + one_if_not (common_at k w s).active ≡ idle k w
  room-shown w s = omega (arith, idle-put k lawful w s (shown_record k w.moment (at k w s)), ap (λ (c : Common). one_if_not c.active) (shown-common k lawful w.moment (at k w s)))

  pub shown-active : (w : World R) (s : ℕ) → (common_at k (showing k w s) s).active ≡ true
  shown-active w s = ap (λ (c : Common). c.active) (showing-common k lawful w s)

  -- Sending an item keeps the number of idle records.
  pub sent-idle : (item : OutboxItem) (w : World R) → idle k (sent item w) ≡ idle k w
  unfolding idle sent
  sent-idle item w =
      elim (nat_lt (length w.outbox) 256) as (λ b. idle k (cond b (record w { outbox = w.outbox ++ item ∷ [] }) (record w { dropped = more w.dropped })) ≡ idle k w) [
        | true ↦ refl
        | false ↦ refl
      ]

  -- Joining a put with notification keeps the number of idle records.
  taken_on-idle : (number : ℕ) (w : World R) → idle k (taken_on number w) ≡ idle k w
  unfolding idle taken_on
  taken_on-idle number w = refl

  let_go-idle : (number : ℕ) (w : World R) → idle k (let_go number w) ≡ idle k w
  unfolding idle let_go
  let_go-idle number w = refl

  pub passed_on-idle : (w : World R) (s t : ℕ) → idle k (passed_on k w s t) ≡ idle k w
  passed_on-idle w s t = passed-either k (λ v. idle k v ≡ idle k w) w s t refl (λ n. taken_on-idle n _ ∙ idle-kept k lawful w t (with_notification (Some n)) refl)

  pub notified-idle : (w : World R) (s : ℕ) → idle k (notified k w s) ≡ idle k w
  notified-idle w s = notified-either k (λ v. idle k v ≡ idle k w) w s refl (λ n. let_go-idle n _ ∙ idle-kept k lawful w s (with_notification Nothing_) refl)

  taken_on-common : (number : ℕ) (w : World R) (m : ℕ) → common_at k (taken_on number w) m ≡ common_at k w m
  unfolding at taken_on
  taken_on-common number w m = refl

  let_go-common : (number : ℕ) (w : World R) (m : ℕ) → common_at k (let_go number w) m ≡ common_at k w m
  unfolding at let_go
  let_go-common number w m = refl

  pub notified-active : (w : World R) (s : ℕ) → (common_at k (notified k w s) s).active ≡ (common_at k w s).active
  notified-active w s = notified-either k (λ v. (common_at k v s).active ≡ (common_at k w s).active) w s refl
      (λ n. ap (λ (c : Common). c.active) (let_go-common n _ s ∙ common_at-changed k lawful w s (with_notification Nothing_)))

  pub notified-stays : (w : World R) (s : ℕ) → Stays k w s (notified k w s)
  notified-stays w s = record { fewer = omega (arith, notified-idle w s); active = notified-active w s }

  -- Ending the processing of a record makes one more record idle, unless it was idle.
  notified-rest : (w : World R) (s : ℕ) → idle k (changed k (notified k w s) s at_rest) + one_if_not (common_at k w s).active ≡ idle k w + 1
  notified-rest w s = omega (arith, idle-changed k lawful (notified k w s) s at_rest, notified-idle w s, ap one_if_not (notified-active w s))

  pub rested-idle : (w : World R) (s : ℕ) → idle k (rested k w s) + one_if_not (common_at k w s).active ≡ idle k w + 1
  unfolding rested
  rested-idle w s =
      elim (common_at k w s).reprocess as (λ b. idle k (cond b (sent (Once s) (changed k (notified k w s) s at_rest)) (changed k (notified k w s) s at_rest)) + one_if_not (common_at k w s).active ≡ idle k w + 1) [
        | true ↦ rw (sent-idle (Once s) (changed k (notified k w s) s at_rest)) (notified-rest w s)
        | false ↦ notified-rest w s
      ]

  pub disable_came-stays : (w : World R) (s : ℕ) (got : Got) → Stays k w s (disable_came k w s got)
  unfolding disable_came with_disable_input
  disable_came-stays w s (Got-value v) = stays-changed w s _ refl
  disable_came-stays w s Got-nothing = stays_here k w s
  disable_came-stays w s Got-fault = stays_here k w s

  module _ (bound : ℕ) (ask other : World R → ℕ → Done R) (asks : Asks k bound ask other) where
    asked-fewer : (w : World R) (s t : ℕ) → idle k w < bound → idle k (asked k ask w s t).world ≤ idle k w
    unfolding asked
    asked-fewer w s t room =
        let by_put = (common_at k w s).by_put in
        let marked = passed_on k (changed k w t (put_mark_passed by_put)) s t in
        let level = passed_on-idle (changed k w t (put_mark_passed by_put)) s t ∙ idle-kept k lawful w t (put_mark_passed by_put) (passed-active by_put _) in
        elim (is_put_down by_put (common_at k w t)) as (λ b. idle k (cond {A = Done R} b (record { world = changed k w t put_down; requests = Request Reprocess None None }) (ask marked t)).world ≤ idle k w) [
          | true ↦ omega (arith, idle-kept k lawful w t put_down (blocked-frame _).active)
          | false ↦ omega (arith, level, asks.fewer marked t (omega (arith, level, room)))
        ]

    asked-same : (w : World R) (s t : ℕ) → idle k w < bound → asked k ask w s t ≡ asked k other w s t
    unfolding asked
    asked-same w s t room =
        let by_put = (common_at k w s).by_put in
        let level = passed_on-idle (changed k w t (put_mark_passed by_put)) s t ∙ idle-kept k lawful w t (put_mark_passed by_put) (passed-active by_put _) in
        rw (asks.same (passed_on k (changed k w t (put_mark_passed by_put)) s t) t (omega (arith, level, room))) refl

    pub caused-stays : (w : World R) (s t : ℕ) → FewIdle k bound w s → Stays k w s (caused k ask w s t).world
    unfolding caused
    caused-stays w s t room =
        let before = (common_at k w s).active in
        let first = changed k w s (with_active true) in
        let done = asked k ask first s t in
        record {
          fewer = omega (arith, idle-changed k lawful w s (with_active true), asked-fewer first s t (room-active bound w s room), idle-changed k lawful done.world s (with_active before));
          active = ap (λ (c : Common). c.active) (common_at-changed k lawful done.world s (with_active before));
        }

    caused-same : (w : World R) (s t : ℕ) → FewIdle k bound w s → caused k ask w s t ≡ caused k other w s t
    unfolding caused
    caused-same w s t room = rw (asked-same _ s t (room-active bound w s room)) refl

    pub followed-stays : (w : World R) (s : ℕ) (link : LinkUse) → FewIdle k bound w s → Stays k w s (followed k ask w s link).world
    unfolding followed
    followed-stays w s (Standing t) room =
        elim (is_passive (common_at k w t.number)) as (λ b. Stays k w s (cond {A = Done R} b (caused k ask w s t.number) (record { world = w; requests = None })).world) [
          | true ↦ caused-stays w s t.number room
          | false ↦ stays_here k w s
        ]
    followed-stays w s Unused room = stays_here k w s
    followed-stays w s OwnDevice room = stays_here k w s
    followed-stays w s Absent room = stays_here k w s

    followed-same : (w : World R) (s : ℕ) (link : LinkUse) → FewIdle k bound w s → followed k ask w s link ≡ followed k other w s link
    unfolding followed
    followed-same w s (Standing t) room = rw (caused-same w s t.number room) refl
    followed-same w s Unused room = refl
    followed-same w s OwnDevice room = refl
    followed-same w s Absent room = refl

    prepared-stays : (w : World R) (s : ℕ) (t : StandingLink) → FewIdle k bound w s → Stays k w s (prepared k ask w s t).world
    unfolding prepared
    prepared-stays w s t room =
        elim (requests_first k w t) as (λ b. Stays k w s (cond {A = Done R} b (caused k ask w s t.number) (record { world = w; requests = None })).world) [
          | true ↦ caused-stays w s t.number room
          | false ↦ stays_here k w s
        ]

    prepared-same : (w : World R) (s : ℕ) (t : StandingLink) → FewIdle k bound w s → prepared k ask w s t ≡ prepared k other w s t
    unfolding prepared
    prepared-same w s t room = rw (caused-same w s t.number room) refl

    pub read_record-stays : (kind : R → InputKind) (w : World R) (s : ℕ) (t : StandingLink) → FewIdle k bound w s → Stays k w s (read_record k ask kind w s t).world
    unfolding read_record read_at
    read_record-stays kind w s t room = stays_on k (prepared-stays w s t room) (value_came-stays _ s t _)

    read_record-same : (kind : R → InputKind) (w : World R) (s : ℕ) (t : StandingLink) → FewIdle k bound w s → read_record k ask kind w s t ≡ read_record k other kind w s t
    unfolding read_record read_at
    read_record-same kind w s t room = rw (prepared-same w s t room) refl

    pub read_link-stays : (kind : R → InputKind) (w : World R) (s : ℕ) (link : LinkUse) → FewIdle k bound w s → Stays k w s (read_link k ask kind w s link).world
    unfolding read_link
    read_link-stays kind w s (Standing t) room = read_record-stays kind w s t room
    read_link-stays kind w s Unused room = stays_here k w s
    read_link-stays kind w s OwnDevice room = faulted-stays w s
    read_link-stays kind w s Absent room = faulted-stays w s

    read_link-same : (kind : R → InputKind) (w : World R) (s : ℕ) (link : LinkUse) → FewIdle k bound w s → read_link k ask kind w s link ≡ read_link k other kind w s link
    unfolding read_link
    read_link-same kind w s (Standing t) room = read_record-same kind w s t room
    read_link-same kind w s Unused room = refl
    read_link-same kind w s OwnDevice room = refl
    read_link-same kind w s Absent room = refl

    calls-stays : (w : World R) (s : ℕ) (t : StandingLink) (b : Bool) → FewIdle k bound w s → Stays k w s (cond {A = Done R} b (caused k ask w s t.number) (record { world = w; requests = None })).world
    calls-stays w s t true room = caused-stays w s t.number room
    calls-stays w s t false room = stays_here k w s

    after_writing-stays : (done : Written R) (s : ℕ) (t : StandingLink) → FewIdle k bound done.world s → Stays k done.world s (after_writing k ask done s t).world
    unfolding after_writing
    after_writing-stays done s t room =
        elim done.stored as (λ b. Stays k done.world s (cond {A = Done R} b
        (cond {A = Done R} (requests_after k done.world t) (caused k ask done.world s t.number) (record { world = done.world; requests = None }))
        (record { world = faulted k done.world s; requests = None })).world) [
          | true ↦ calls-stays done.world s t (requests_after k done.world t) room
          | false ↦ faulted-stays done.world s
        ]

    after_writing-same : (done : Written R) (s : ℕ) (t : StandingLink) → FewIdle k bound done.world s → after_writing k ask done s t ≡ after_writing k other done s t
    unfolding after_writing
    after_writing-same done s t room = rw (caused-same done.world s t.number room) refl

    pub write_link-stays : (w : World R) (s : ℕ) (link : LinkUse) (v : Value) → FewIdle k bound w s → Stays k w s (write_link k ask w s link v).world
    unfolding write_link
    write_link-stays w s (Standing t) v room = let first = wrote-stays w s t v in stays_on k first (after_writing-stays _ s t (room_on k bound w _ s room first))
    write_link-stays w s Unused v room = stays_here k w s
    write_link-stays w s OwnDevice v room = faulted-stays w s
    write_link-stays w s Absent v room = faulted-stays w s

    write_link-same : (w : World R) (s : ℕ) (link : LinkUse) (v : Value) → FewIdle k bound w s → write_link k ask w s link v ≡ write_link k other w s link v
    unfolding write_link
    write_link-same w s (Standing t) v room = after_writing-same _ s t (room_on k bound w _ s room (wrote-stays w s t v))
    write_link-same w s Unused v room = refl
    write_link-same w s OwnDevice v room = refl
    write_link-same w s Absent v room = refl

    pub followed_each-stays : (slots : List FieldSlot) (w : World R) (s : ℕ) → FewIdle k bound w s → Stays k w s (followed_each k ask w s slots).world
    unfolding followed_each
    followed_each-stays [] w s room = stays_here k w s
    followed_each-stays (slot ∷ slots) w s room =
        let first = followed-stays w s (link_at k w s slot) room in
        stays_on k first (followed_each-stays slots _ s (room_on k bound w _ s room first))

    followed_each-same : (slots : List FieldSlot) (w : World R) (s : ℕ) → FewIdle k bound w s → followed_each k ask w s slots ≡ followed_each k other w s slots
    unfolding followed_each
    followed_each-same [] w s room = refl
    followed_each-same (slot ∷ slots) w s room =
        let first = followed-stays w s (link_at k w s slot) room in
        rw (← followed-same w s (link_at k w s slot) room, followed_each-same slots _ s (room_on k bound w _ s room first)) refl

    -- Record `s` has read one of its inputs, and kept it.
    one_kept-stays : (w : World R) (s : ℕ) (slot : FieldSlot) (link : LinkUse) → FewIdle k bound w s
        → (let read = read_link k ask (λ _. input-kind.Double) w s link in Stays k w s (kept k read.world s (Letter slot) read.came))
    one_kept-stays w s slot link room = stays_on k (read_link-stays (λ _. input-kind.Double) w s link room) (kept-stays _ s (Letter slot) _)

    pub read_each-stays : (slots : List FieldSlot) (w : World R) (s : ℕ) (has_fault : Bool) → FewIdle k bound w s → Stays k w s (read_each k ask w s has_fault slots).world
    unfolding read_each
    read_each-stays [] w s has_fault room = stays_here k w s
    read_each-stays (slot ∷ slots) w s has_fault room =
        let first = one_kept-stays w s slot (input_at k w s slot) room in
        stays_on k first (read_each-stays slots _ s _ (room_on k bound w _ s room first))

    read_each-same : (slots : List FieldSlot) (w : World R) (s : ℕ) (has_fault : Bool) → FewIdle k bound w s → read_each k ask w s has_fault slots ≡ read_each k other w s has_fault slots
    unfolding read_each
    read_each-same [] w s has_fault room = refl
    read_each-same (slot ∷ slots) w s has_fault room =
        let first = one_kept-stays w s slot (input_at k w s slot) room in
        rw (← read_link-same (λ _. input-kind.Double) w s (input_at k w s slot) room, read_each-same slots _ s _ (room_on k bound w _ s room first)) refl

    pub read_chosen-stays : (chosen : Came R) (s : ℕ) → FewIdle k bound chosen.world s → Stays k chosen.world s (read_chosen k ask chosen s).world
    unfolding read_chosen
    read_chosen-stays chosen s room =
        let first = kept-stays chosen.world s Seln chosen.came in
        stays_on k first (read_each-stays _ _ s _ (room_on k bound chosen.world _ s room first))

    read_chosen-same : (chosen : Came R) (s : ℕ) → FewIdle k bound chosen.world s → read_chosen k ask chosen s ≡ read_chosen k other chosen s
    unfolding read_chosen
    read_chosen-same chosen s room = read_each-same _ _ s _ (room_on k bound chosen.world _ s room (kept-stays chosen.world s Seln chosen.came))

    pub read_inputs-stays : (w : World R) (s : ℕ) (link : LinkUse) → FewIdle k bound w s → Stays k w s (read_inputs k ask w s link).world
    unfolding read_inputs
    read_inputs-stays w s link room =
        let first = read_link-stays k.input_kind w s link room in
        stays_on k first (read_chosen-stays _ s (room_on k bound w _ s room first))

    read_inputs-same : (w : World R) (s : ℕ) (link : LinkUse) → FewIdle k bound w s → read_inputs k ask w s link ≡ read_inputs k other w s link
    unfolding read_inputs
    read_inputs-same w s link room =
        let first = read_link k ask k.input_kind w s link in
        let chosen : Came R = record { world = first.world; came = first.came } in
        rw (← read_link-same k.input_kind w s link room, read_chosen-same chosen s (room_on k bound w _ s room (read_link-stays k.input_kind w s link room))) refl

    module _ (w : World R) (s : ℕ) (inactive : (common_at k w s).active ≡ false) (small : idle k w ≤ bound) where
      ready_world : World R
      ready_world = showing k w s

      ready_idle : idle k ready_world + 1 ≡ idle k w
      unfolding ready_world
      ready_idle = omega (arith, room-shown w s, ap one_if_not inactive)

      ready_room : FewIdle k bound ready_world s
      unfolding ready_world
      ready_room = omega (arith, ready_idle, ap one_if_not (shown-active w s), small)

      pub finished-fewer : idle k (finished k ask w s).world ≤ idle k w
      unfolding finished ready_world
      finished-fewer =
          let link = (use_of (common_at k ready_world s).forward_link) in
          omega (arith, rested-idle (followed k ask ready_world s link).world s, (followed-stays ready_world s link ready_room).fewer, ready_idle)

      finished-same : finished k ask w s ≡ finished k other w s
      unfolding finished ready_world
      finished-same = rw (followed-same ready_world s _ ready_room) refl

    -- The rest of a body after its output leaves no more records idle.
    pub after_output-fewer : (w : World R) (s : ℕ) (out : PutOut R) → (common_at k w s).active ≡ false → idle k w ≤ bound → Outs k w s out → idle k (after_output k ask s out).world ≤ idle k w
    unfolding after_output
    after_output-fewer w s out inactive small o =
        elim out.goes_on as (λ b. out.goes_on ≡ b → idle k (finished_if k ask out.world s b).world ≤ idle k w) [
          | true ↦ λ is. omega (arith, finished-fewer out.world s (o.active is ∙ inactive) (omega (arith, o.fewer, small)), o.fewer)
          | false ↦ λ _. o.fewer
        ] refl

    after_output-same : (w : World R) (s : ℕ) (out : PutOut R) → (common_at k w s).active ≡ false → idle k w ≤ bound → Outs k w s out → after_output k ask s out ≡ after_output k other s out
    unfolding after_output
    after_output-same w s out inactive small o =
        let rest : finished_if k ask out.world s out.goes_on ≡ finished_if k other out.world s out.goes_on =
        elim out.goes_on as (λ b. out.goes_on ≡ b → finished_if k ask out.world s b ≡ finished_if k other out.world s b) [
          | true ↦ λ is. finished-same out.world s (o.active is ∙ inactive) (omega (arith, o.fewer, small))
          | false ↦ λ _. refl
        ] refl in
        rw rest refl

  reads : (w : World R) (s : ℕ) (reading : Reading R) → Stays k w s reading.world → Reads k w s reading
  reads w s reading stays = record { fewer = stays.fewer; active = λ _ _. stays.active }

  device_gave-reads : (w : World R) (s : ℕ) (value : Result Value IocError) → Reads k w s (device_gave k w s value)
  unfolding device_gave
  device_gave-reads w s (Ok v) = reads w s _ (stays_here k w s)
  device_gave-reads w s (Err e) = reads w s _ (stays-changed w s _ refl)

  received-reads : (w : World R) (s : ℕ) (answer : Answer) → Reads k w s (received k w s answer)
  unfolding received
  received-reads w s (Done-answer v) = device_gave-reads w s _
  received-reads w s Fault-answer = reads w s _ (stays-changed w s _ refl)
  received-reads w s Later = record { fewer = omega (arith, idle-changed k lawful w s waiting); active = λ got is. cc }

  called_reads : (call : Call) (w : World R) (s : ℕ) (reading : Reading R) → Reads k (called call w) s reading → Reads k w s reading
  unfolding idle at called
  called_reads call w s reading r = record { fewer = r.fewer; active = r.active }

  pub read_device-reads : (answers : Answers) (w : World R) (s : ℕ) → Reads k w s (read_device k answers w s)
  unfolding read_device
  read_device-reads answers w s =
      let call = next_call k answers w s Read-ask in
      elim (can_ask k w s) as (λ b. Reads k w s (cond b (received k (called call w) s call.answer) (received k w s Fault-answer))) [
        | true ↦ called_reads call w s _ (received-reads (called call w) s call.answer)
        | false ↦ received-reads w s Fault-answer
      ]

  outs : (w : World R) (s : ℕ) (out : PutOut R) → Stays k w s out.world → Outs k w s out
  outs w s out stays = record { fewer = stays.fewer; active = λ _. stays.active }

  acknowledged-outs : (w : World R) (s : ℕ) (answer : Answer) → Outs k w s (acknowledged k w s answer)
  unfolding acknowledged
  acknowledged-outs w s (Done-answer v) = outs w s _ (stays_here k w s)
  acknowledged-outs w s Fault-answer = outs w s _ (stays-changed w s _ refl)
  acknowledged-outs w s Later = record { fewer = omega (arith, idle-changed k lawful w s waiting); active = λ is. cc }

  called_outs : (call : Call) (w : World R) (s : ℕ) (out : PutOut R) → Outs k (called call w) s out → Outs k w s out
  unfolding idle at called
  called_outs call w s out o = record { fewer = o.fewer; active = o.active }

  pub write_device-outs : (answers : Answers) (w : World R) (s : ℕ) (v : Value) → Outs k w s (write_device k answers w s v)
  unfolding write_device
  write_device-outs answers w s v =
      let call = next_call k answers w s (Write-ask v) in
      elim (can_ask k w s) as (λ b. Outs k w s (cond b (acknowledged k (called call w) s call.answer) (acknowledged k w s Fault-answer))) [
        | true ↦ called_outs call w s _ (acknowledged-outs (called call w) s call.answer)
        | false ↦ acknowledged-outs w s Fault-answer
      ]

  module _ (answers : Answers) (bound : ℕ) (ask other : World R → ℕ → Done R) (asks : Asks k bound ask other) where
    pub input-reads : (w : World R) (s : ℕ) (want : Want) → FewIdle k bound w s → Reads k w s (input k answers ask w s want)
    unfolding input
    input-reads w s NoInput room = reads w s _ (stays_here k w s)
    input-reads w s (ReadLink link) room = reads w s _ (read_link-stays bound ask other asks k.input_kind w s link room)
    input-reads w s ReadDevice room = read_device-reads answers w s
    input-reads w s (ReadInputs link) room = reads w s _ (read_inputs-stays bound ask other asks w s link room)

    input-same : (w : World R) (s : ℕ) (want : Want) → FewIdle k bound w s → input k answers ask w s want ≡ input k answers other w s want
    unfolding input
    input-same w s NoInput room = refl
    input-same w s (ReadLink link) room = ap (λ (r : Read R). as_input r) (read_link-same bound ask other asks k.input_kind w s link room)
    input-same w s ReadDevice room = refl
    input-same w s (ReadInputs link) room = ap (λ (r : Read R). as_input r) (read_inputs-same bound ask other asks w s link room)

    pub put_out-outs : (w : World R) (s : ℕ) (output : Output) → FewIdle k bound w s → Outs k w s (put_out k answers ask w s output)
    unfolding put_out
    put_out-outs w s NoOutput room = outs w s _ (stays_here k w s)
    put_out-outs w s (WriteLink link v) room = outs w s _ (write_link-stays bound ask other asks w s link v room)
    put_out-outs w s (WriteDevice v) room = write_device-outs answers w s v
    put_out-outs w s (FollowLinks links) room = outs w s _ (followed_each-stays bound ask other asks (chosen_links links) w s room)
    put_out-outs w s (PostEvent name) room = outs w s _ (sent-stays (Post name) w s)

    put_out-same : (w : World R) (s : ℕ) (output : Output) → FewIdle k bound w s → put_out k answers ask w s output ≡ put_out k answers other w s output
    unfolding put_out
    put_out-same w s NoOutput room = refl
    put_out-same w s (WriteLink link v) room = ap (λ (d : Done R). record { world = d.world; requests = d.requests; goes_on = true }) (write_link-same bound ask other asks w s link v room)
    put_out-same w s (WriteDevice v) room = refl
    put_out-same w s (FollowLinks links) room = ap (λ (d : Done R). record { world = d.world; requests = d.requests; goes_on = true }) (followed_each-same bound ask other asks (chosen_links links) w s room)
    put_out-same w s (PostEvent name) room = refl

    module _ (w : World R) (s : ℕ) (got : Got) (inactive : (common_at k w s).active ≡ false) (small : idle k w ≤ bound) where
      taken_world : World R
      taken_world = put w s (k.taken (at k w s) got)

      taken_small : idle k taken_world ≤ bound
      unfolding taken_world
      taken_small = omega (arith, (taken-stays w s got).fewer, small)

      taken_inactive : (common_at k taken_world s).active ≡ false
      unfolding taken_world
      taken_inactive = (taken-stays w s got).active ∙ inactive

      taken_room : FewIdle k bound taken_world s
      taken_room = omega (arith, taken_small, ap one_if_not taken_inactive)

      pub completed-fewer : idle k (completed k answers ask w s got).world ≤ idle k w
      unfolding completed taken_world
      completed-fewer =
          omega (arith, (taken-stays w s got).fewer, after_output-fewer bound ask other asks taken_world s _ taken_inactive taken_small (put_out-outs taken_world s (k.output (at k w s) got) taken_room))

      completed-same : completed k answers ask w s got ≡ completed k answers other w s got
      unfolding completed taken_world
      completed-same =
          after_output-same bound ask other asks taken_world s _ taken_inactive taken_small (put_out-outs taken_world s (k.output (at k w s) got) taken_room)
          ∙ ap (after_output k other s) (put_out-same taken_world s (k.output (at k w s) got) taken_room)

    module _ (w : World R) (s : ℕ) (inactive : (common_at k w s).active ≡ false) (room : idle k w ≤ bound) where
      completed_if-fewer : (came : Option Got) → idle k (completed_if k answers ask w s came).world ≤ idle k w
      completed_if-fewer Nothing_ = omega arith
      completed_if-fewer (Some got) = completed-fewer w s got inactive room

      completed_if-same : (came : Option Got) → completed_if k answers ask w s came ≡ completed_if k answers other w s came
      completed_if-same Nothing_ = refl
      completed_if-same (Some got) = completed-same w s got inactive room

    -- The rest of a body after its input leaves no more records idle.
    after_reading : (w : World R) (s : ℕ) (reading : Reading R) → (common_at k w s).active ≡ false → idle k w ≤ bound → Reads k w s reading →
        (idle k (completed_if k answers ask reading.world s reading.came).world ≤ idle k w)
        × (completed_if k answers ask reading.world s reading.came ≡ completed_if k answers other reading.world s reading.came)
    after_reading w s reading inactive room r =
        elim reading.came as (λ came. reading.came ≡ came → (idle k (completed_if k answers ask reading.world s came).world ≤ idle k w) × (completed_if k answers ask reading.world s came ≡ completed_if k answers other reading.world s came)) [
          | Nothing_ ↦ λ _. (r.fewer, refl)
          | Some got ↦ λ is.
              let still = r.active got is ∙ inactive in
              let small : idle k reading.world ≤ bound = omega (arith, r.fewer, room) in
              (omega (arith, completed-fewer reading.world s got still small, r.fewer), completed-same reading.world s got still small)
        ] refl

    pub body-fewer : (w : World R) (s : ℕ) → (common_at k w s).active ≡ false → idle k w ≤ bound → idle k (body k answers ask w s).world ≤ idle k w
    unfolding body
    body-fewer w s inactive room =
        (after_reading w s _ inactive room (input-reads w s (k.begin (at k w s)) (omega (arith, room, ap one_if_not inactive)))).0

    body-same : (w : World R) (s : ℕ) → (common_at k w s).active ≡ false → idle k w ≤ bound → body k answers ask w s ≡ body k answers other w s
    unfolding body
    body-same w s inactive room =
        let free : FewIdle k bound w s = omega (arith, room, ap one_if_not inactive) in
        let rest = (after_reading w s _ inactive room (input-reads w s (k.begin (at k w s)) free)).1 in
        rw (← input-same w s (k.begin (at k w s)) free, rest) refl

    pub judged-fewer : (w : World R) (s : ℕ) → (common_at k w s).active ≡ false → idle k w ≤ bound → idle k (judged k answers ask w s).world ≤ idle k w
    unfolding judged
    judged-fewer w s inactive room =
        elim (is_disabled (common_at k w s)) as (λ b. idle k (cond {A = Ran R} b (record { world = changed k (notified k w s) s disabled; requests = None; outcome = Disabled }) (processed (body k answers ask w s))).world ≤ idle k w) [
          | true ↦ omega (arith, notified-idle w s, (stays-changed (notified k w s) s disabled (disabled-active _)).fewer)
          | false ↦ body-fewer w s inactive room
        ]

    judged-same : (w : World R) (s : ℕ) → (common_at k w s).active ≡ false → idle k w ≤ bound → judged k answers ask w s ≡ judged k answers other w s
    unfolding judged
    judged-same w s inactive room = rw (body-same w s inactive room) refl

    -- A request of an idle record: storing the value of SDIS keeps it idle.
    module _ (w : World R) (s : ℕ) (inactive : (common_at k w s).active ≡ false) (small : idle k w ≤ bound) where
      begun_world : World R
      begun_world = changed k w s unblocked

      begun_stays : Stays k w s begun_world
      unfolding begun_world
      begun_stays = stays-changed w s unblocked refl

      begun_room : FewIdle k bound begun_world s
      begun_room = omega (arith, begun_stays.fewer, small, ap one_if_not (begun_stays.active ∙ inactive))

      begun_read : LinkUse → Read R
      begun_read link = read_link k ask (λ _. disable_kind) begun_world s link

      begun_read-stays : (link : LinkUse) → Stays k w s (disable_came k (begun_read link).world s (begun_read link).came)
      unfolding begun_read
      begun_read-stays link = stays_on k begun_stays (stays_on k (read_link-stays bound ask other asks (λ _. disable_kind) begun_world s link begun_room) (disable_came-stays _ s _))

      begun-fewer : idle k (begun_idle k answers ask w s).world ≤ idle k w
      unfolding begun_idle ran_after begun_world begun_read
      begun-fewer =
          let stays = begun_read-stays (use_of (common_at k begun_world s).disable_link) in
          omega (arith, judged-fewer _ s (stays.active ∙ inactive) (omega (arith, stays.fewer, small)), stays.fewer)

      begun-same : begun_idle k answers ask w s ≡ begun_idle k answers other w s
      unfolding begun_idle begun_world begun_read
      begun-same =
          let link = use_of (common_at k begun_world s).disable_link in
          let stays = begun_read-stays link in
          let same = judged-same _ s (stays.active ∙ inactive) (omega (arith, stays.fewer, small)) in
          ap (ran_after (begun_read link).requests) same
          ∙ ap (λ (read : Read R). ran_after read.requests (judged k answers other (disable_came k read.world s read.came) s)) (read_link-same bound ask other asks (λ _. disable_kind) begun_world s link begun_room)

    pub requested-fewer : (w : World R) (s : ℕ) → idle k w ≤ bound → idle k (requested k answers ask w s).world ≤ idle k w
    unfolding requested
    requested-fewer w s room =
        elim (common_at k w s).active as (λ b. (common_at k w s).active ≡ b → idle k (cond {A = Ran R} b (turned_away k answers ask w s) (begun_idle k answers ask w s)).world ≤ idle k w) [
          | true ↦ λ _. (stays-changed w s blocked (blocked-frame _).active).fewer
          | false ↦ λ inactive. begun-fewer w s inactive room
        ] refl

    requested-same : (w : World R) (s : ℕ) → idle k w ≤ bound → requested k answers ask w s ≡ requested k answers other w s
    unfolding requested
    requested-same w s room =
        elim (common_at k w s).active as (λ b. (common_at k w s).active ≡ b → cond b (turned_away k answers ask w s) (begun_idle k answers ask w s) ≡ cond b (turned_away k answers other w s) (begun_idle k answers other w s)) [
          | true ↦ λ _. refl
          | false ↦ λ inactive. begun-same w s inactive room
        ] refl

  module _ (answers : Answers) where
    nested-asks : (n m bound : ℕ) → bound ≤ n → bound ≤ m → Asks k bound (nested k answers n) (nested k answers m)
    unfolding nested
    nested-asks zero m bound small _ = record { same = λ w s h. absurd (omega arith); fewer = λ w s h. absurd (omega arith) }
    nested-asks (suc n) zero bound _ small = record { same = λ w s h. absurd (omega arith); fewer = λ w s h. absurd (omega arith) }
    nested-asks (suc n) (suc m) bound fits fits' =
        record {
          same = λ w s h. ap (λ (r : Ran R). as_request r) (requested-same answers (idle k w) _ _ (nested-asks n m (idle k w) (omega arith) (omega arith)) w s (omega arith));
          fewer = λ w s h. requested-fewer answers (idle k w) _ _ (nested-asks n m (idle k w) (omega arith) (omega arith)) w s (omega arith);
        }

    pub request-nested : (n : ℕ) (w : World R) (s : ℕ) → idle k w < n → nested k answers n w s ≡ request k answers w s
    unfolding request
    request-nested n w s h = (nested-asks n (suc (idle k w)) (suc (idle k w)) (omega arith) (omega arith)).same w s (omega arith)

    pub request-fewer : (w : World R) (s : ℕ) → idle k (request k answers w s).world ≤ idle k w
    unfolding request
    request-fewer w s = (nested-asks (suc (idle k w)) (suc (idle k w)) (suc (idle k w)) (omega arith) (omega arith)).fewer w s (omega arith)

    -- `request` satisfies its own rule, with `request` for the inner requests.
    pub request-rule : (w : World R) (s : ℕ) → request k answers w s ≡ as_request (ran k answers w s)
    unfolding request nested ran
    request-rule w s =
        let within : Asks k (idle k w) (nested k answers (idle k w)) (request k answers) = record {
          same = λ v u h. request-nested (idle k w) v u h;
          fewer = λ v u h. (nested-asks (idle k w) (idle k w) (idle k w) (omega arith) (omega arith)).fewer v u h;
        } in
        ap (λ (r : Ran R). as_request r) (requested-same answers (idle k w) _ _ within w s (omega arith))

    -- `request` is a way to request for every bound.
    pub request-asks : (bound : ℕ) → Asks k bound (request k answers) (request k answers)
    request-asks bound = record { same = λ w s _. refl; fewer = λ w s _. request-fewer w s }

    module _ (w : World R) (s : ℕ) where
      free : FewIdle k (idle k w + 1) w s
      free = omega arith

      pub stays-caused : (t : ℕ) → Stays k w s (caused k (request k answers) w s t).world
      stays-caused t = caused-stays _ _ _ (request-asks (idle k w + 1)) w s t free

      pub stays-prepared : (t : StandingLink) → Stays k w s (prepared k (request k answers) w s t).world
      stays-prepared t = prepared-stays _ _ _ (request-asks (idle k w + 1)) w s t free

      pub stays-read_record : (kind : R → InputKind) (t : StandingLink) → Stays k w s (read_record k (request k answers) kind w s t).world
      stays-read_record kind t = read_record-stays _ _ _ (request-asks (idle k w + 1)) kind w s t free

      pub stays-read_link : (kind : R → InputKind) (link : LinkUse) → Stays k w s (read_link k (request k answers) kind w s link).world
      stays-read_link kind link = read_link-stays _ _ _ (request-asks (idle k w + 1)) kind w s link free

      pub stays-read_each : (has_fault : Bool) (slots : List FieldSlot) → Stays k w s (read_each k (request k answers) w s has_fault slots).world
      stays-read_each has_fault slots = read_each-stays _ _ _ (request-asks (idle k w + 1)) slots w s has_fault free

      pub reads-input : (want : Want) → Reads k w s (input k answers (request k answers) w s want)
      reads-input want = input-reads answers _ _ _ (request-asks (idle k w + 1)) w s want free

      pub stays-followed : (link : LinkUse) → Stays k w s (followed k (request k answers) w s link).world
      stays-followed link = followed-stays _ _ _ (request-asks (idle k w + 1)) w s link free

      pub outs-put_out : (output : Output) → Outs k w s (put_out k answers (request k answers) w s output)
      outs-put_out output = put_out-outs answers _ _ _ (request-asks (idle k w + 1)) w s output free
