-- A law of requests, by induction on the rules: in the end, an idle record is part of no put with
-- notification.
use Rattle.std.proofs.Common.{◌≡◌, ◌≢◌, ℕ, Bool, true, false, cond, eqb, nat_lt, ◌++◌, List, [], ◌∷◌, length, Option, Some, None as Nothing_, refl, sym, ap, subst, ◌∙◌}
use Rattle.std.proofs.lemmas.Bool.{eqb-true, eqb-false}
use Rattle.ioc_device.specs.declared.Answer.{Answer}
use Rattle.ioc_device.specs.declared.Ask.{Ask}
use Rattle.ioc_ledger.specs.Requests.{Requests, more}
use Rattle.ioc_fields.specs.declared.field_no.FieldNo.{FieldNo}
use Rattle.ioc_fields.specs.declared.field_no.FieldSlot.{FieldSlot}
use Rattle.ioc_fields.specs.declared.field_no.OwnField.{OwnField}
use Rattle.ioc_fields.specs.declared.field_no.OwnField.TheVariants.{Letter, Seln}
use Rattle.ioc_values.specs.declared.value.Value.{Value}
use Rattle.ioc_values.specs.declared.value.Finished.{Finished}
use Rattle.ioc_values.specs.declared.input.Input.TheVariants.{Value as InputValue}
use Rattle.ioc_record.specs.Values.{put_untested, converted_for}
use Rattle.ioc_dbcommon.specs.declared.common.Common.{Common}
use Rattle.ioc_dbcommon.specs.declared.link_field.LinkUse.{LinkUse}
use Rattle.ioc_dbcommon.specs.declared.link_field.StandingLink.{StandingLink}
use Rattle.ioc_dbcommon.specs.declared.body.Got.{Got}
use Rattle.ioc_dbcommon.specs.declared.body.Got.TheVariants.{Nothing as Got-nothing, Value as Got-value, Fault as Got-fault}
use Rattle.ioc_dbcommon.specs.declared.body.Want.{Want}
use Rattle.ioc_dbcommon.specs.declared.body.Output.{Output}
use Rattle.ioc_dbcommon.specs.declared.body.InputKind.{InputKind}
use Rattle.ioc_dbcommon.specs.Steps.{blocked, unblocked, with_active, waiting, with_put_mark, with_reprocess_mark, disabled, change_numbered, with_notification}
use Rattle.ioc_record.specs.RecordRules.{RecordRules}
use Rattle.ioc_record.specs.Laws.{IsLawful}
use Rattle.ioc_store.specs.Marks.{put_down, put_mark_passed, resumed, at_rest, with_disable_input}
use Rattle.ioc_store.specs.declared.call.Call.{Call}
use Rattle.ioc_store.specs.declared.outbox.OutboxItem.{OutboxItem}
use Rattle.ioc_store.specs.declared.outbox.OutboxItem.TheVariants.{Once, Post}
use Rattle.ioc_store.specs.World.{World, at, common_at, put, changed, called, sent, lost, taken_on, let_go}
use Rattle.ioc_store.specs.Worlds.{at-put_same, at-put_other, common_at-changed}
use Rattle.ioc_store.specs.StepFrames.{blocked-frame, stored_with}
use Rattle.ioc_store.specs.Inputs.{kept}
use Rattle.ioc_store.specs.Links.{handed_on}
use Rattle.ioc_store.specs.Given.{Answers}
use Rattle.ioc_store.specs.Scanning.{moved, rescanned}
use Rattle.ioc_store.specs.ScanLaws.{moved-either, rescanned-either}
use Rattle.ioc_store.specs.Notifying.{passed_on, notified_as, notified}
use Rattle.ioc_store.specs.NotifyLaws.{passed-either, notified-either}
use Rattle.ioc_process.specs.Rules.{IdleIsFree, Inherits, from_itself, from_another, Takes, that_converts, that_does_not, Receives, a_value, a_bad_value, a_fault, not_yet, Puts, that_fits, that_does_not_fit, Acknowledges, written, written_badly, not_written_yet, Gives, next, asked_too_often, no_more_numbers, Requested, while_active, while_idle, Causes, meanwhile_active, Reads, unused, absent, no_such_device, as_it_stands, after_request, Writes, to_nothing, to_absent, to_no_device, in_vain, alone, and_requests, Follows, to_record, to_scanned, nowhere, FollowsEach, no_more, one_more, PutsOut, nothing, to_link, to_device, to_links, as_event, Gets, no_input, of_link, of_device, of_inputs, ReadsEach, none_left, one_read, Finishes, forward, Proceeds, at_once, kept_waiting, Runs, Disables, by_value, not_given, not_read, Rests, for_good, once_more, while_disabled, Asks, for_later, straight_away, Resumes, takes_completion}

not-both : true ≡ false → ⊥
not-both is = cc

module _ {R : Type 0} (k : RecordRules R) (lawful : IsLawful k) (n : ℕ) where
  -- Record `n` is part of no put with notification, if it is idle.
  abbrev pub IsFree : World R → Type 0
  IsFree w = IdleIsFree (common_at k w n)

  -- `IsFree` holds of record `n`, if it isn't `s`.
  abbrev pub But : ℕ → World R → Type 0
  But s w = n ≢ s → IsFree w

  -- A case distinction on whether `n` is `s`.
  pub either_way : (s : ℕ) (P : Type 0) → (n ≡ s → P) → (n ≢ s → P) → P
  either_way s P here there = elim (eqb n s) as (λ b. eqb n s ≡ b → P) [
    | true ↦ λ e. here (eqb-true n s e)
    | false ↦ λ e. there (eqb-false n s e)
  ] refl

  pub put-other : (w : World R) (s : ℕ) (r : R) → n ≢ s → IsFree w → IsFree (put w s r)
  put-other w s r apart told = subst (λ (x : R). IdleIsFree (k.common x)) (sym (at-put_other k w s n r apart)) told

  put-own : (w : World R) (s : ℕ) (r : R) → n ≡ s → IdleIsFree (k.common r) → IsFree (put w s r)
  put-own w s r is free = subst (λ (x : R). IdleIsFree (k.common x)) (sym (ap (at k (put w s r)) is ∙ at-put_same k w s r)) free

  free-same : (c d : Common) → d.active ≡ c.active → d.notification ≡ c.notification → IdleIsFree c → IdleIsFree d
  free-same c d active notification free idle = notification ∙ free (sym active ∙ idle)

  -- Putting a record with its active mark and its put with notification unchanged keeps `IsFree`.
  pub told-put : (w : World R) (s : ℕ) (r : R) → (k.common r).active ≡ (common_at k w s).active → (k.common r).notification ≡ (common_at k w s).notification → IsFree w → IsFree (put w s r)
  told-put w s r active notification told =
      either_way s (IsFree (put w s r))
      (λ is. put-own w s r is (free-same (common_at k w s) (k.common r) active notification (subst (λ (q : ℕ). IdleIsFree (common_at k w q)) is told)))
      (λ apart. put-other w s r apart told)

  pub changed-other : (w : World R) (s : ℕ) (f : Common → Common) → n ≢ s → IsFree w → IsFree (changed k w s f)
  unfolding changed
  changed-other w s f apart told = put-other w s _ apart told

  changed-own : (w : World R) (s : ℕ) (f : Common → Common) → n ≡ s → IdleIsFree (f (common_at k w s)) → IsFree (changed k w s f)
  unfolding changed
  changed-own w s f is free = put-own w s _ is (subst IdleIsFree (sym (lawful.common_set (at k w s) (f (common_at k w s)))) free)

  pub told-changed : (w : World R) (s : ℕ) (f : Common → Common) → ((c : Common) → (f c).active ≡ c.active) → ((c : Common) → (f c).notification ≡ c.notification) → IsFree w → IsFree (changed k w s f)
  unfolding changed
  told-changed w s f active notification told =
      told-put w s _ (ap (λ (c : Common). c.active) (lawful.common_set (at k w s) (f (common_at k w s))) ∙ active _)
      (ap (λ (c : Common). c.notification) (lawful.common_set (at k w s) (f (common_at k w s))) ∙ notification _) told

  -- A record that becomes active may be part of one.
  pub active-told : (w : World R) (s : ℕ) (f : Common → Common) → ((c : Common) → (f c).active ≡ true) → But s w → IsFree (changed k w s f)
  active-told w s f active but = either_way s (IsFree (changed k w s f)) (λ is. changed-own w s f is (λ idle. absurd (not-both (sym (active _) ∙ idle)))) (λ apart. changed-other w s f apart (but apart))

  sent-told : (item : OutboxItem) (w : World R) → IsFree w → IsFree (sent item w)
  unfolding at sent
  sent-told item w told = elim (nat_lt (length w.outbox) 256) as (λ b. IsFree (cond b (record w { outbox = w.outbox ++ item ∷ [] }) (record w { dropped = more w.dropped }))) [
    | true ↦ told
    | false ↦ told
  ]

  lost-told : (w : World R) → IsFree w → IsFree (lost w)
  unfolding at lost
  lost-told w told = told

  called-told : (call : Call) (w : World R) → IsFree w → IsFree (called call w)
  unfolding at called
  called-told call w told = told

  taken_on-told : (m : ℕ) (w : World R) → IsFree w → IsFree (taken_on m w)
  unfolding at taken_on
  taken_on-told m w told = told

  let_go-told : (m : ℕ) (w : World R) → IsFree w → IsFree (let_go m w)
  unfolding at let_go
  let_go-told m w told = told

  let_go-at : (m : ℕ) (w : World R) → common_at k (let_go m w) n ≡ common_at k w n
  unfolding at let_go
  let_go-at m w = refl

  pub moved-told : (w : World R) (s : ℕ) → IsFree w → IsFree (moved k w s)
  moved-told w s told = moved-either k IsFree w s (λ item. sent-told item _ (told-changed w s change_numbered (λ c. refl) (λ c. refl) told)) (lost-told w told)

  pub rescanned-told : (w : World R) (s : ℕ) (field : FieldNo) → IsFree w → IsFree (rescanned k w s field)
  rescanned-told w s field told = rescanned-either k IsFree w s field told (moved-told w s told)

  handed-told : (w : World R) (s : ℕ) (t : StandingLink) → IsFree w → IsFree (handed_on k w s t)
  unfolding handed_on
  handed-told w s t told = told-changed w t.number _ (λ c. refl) (λ c. refl) told

  -- Passing a put with notification to another record keeps `IsFree`.
  passed-told : (w : World R) (s t : ℕ) → n ≢ t → IsFree w → IsFree (passed_on k w s t)
  passed-told w s t apart told = passed-either k IsFree w s t told (λ m. taken_on-told m _ (changed-other w t (with_notification (Some m)) apart told))

  notified-other : (w : World R) (s : ℕ) → n ≢ s → IsFree w → IsFree (notified k w s)
  notified-other w s apart told = notified-either k IsFree w s told (λ m. let_go-told m _ (changed-other w s (with_notification Nothing_) apart told))

  notified_as-own : (w : World R) (s : ℕ) → n ≡ s → (o : Option ℕ) → (common_at k w s).notification ≡ o → (common_at k (notified_as k w s o) s).notification ≡ Nothing_
  unfolding notified_as
  notified_as-own w s is Nothing_ e = e
  notified_as-own w s is (Some m) e =
      subst (λ (q : ℕ). (common_at k (let_go m (changed k w s (with_notification Nothing_))) q).notification ≡ Nothing_) is
      (ap (λ (c : Common). c.notification) (let_go-at m (changed k w s (with_notification Nothing_)) ∙ ap (common_at k (changed k w s (with_notification Nothing_))) is ∙ common_at-changed k lawful w s (with_notification Nothing_)))

  notified-own : (w : World R) (s : ℕ) → n ≡ s → (common_at k (notified k w s) s).notification ≡ Nothing_
  unfolding notified
  notified-own w s is = notified_as-own w s is _ refl

  -- `IsFree` holds after `s` leaves its put with notification and a mark of it is changed.
  pub told-notified : (w : World R) (s : ℕ) (f : Common → Common) → ((c : Common) → (f c).notification ≡ c.notification) → But s w → IsFree (changed k (notified k w s) s f)
  told-notified w s f same but =
      either_way s (IsFree (changed k (notified k w s) s f)) (λ is. changed-own _ s f is (λ _. same _ ∙ notified-own w s is)) (λ apart. changed-other _ s f apart (notified-other w s apart (but apart)))

  pub notified-told : (w : World R) (s : ℕ) → But s w → IsFree (notified k w s)
  notified-told w s but =
      either_way s (IsFree (notified k w s)) (λ is _. subst (λ (q : ℕ). (common_at k (notified k w s) q).notification ≡ Nothing_) (sym is) (notified-own w s is)) (λ apart. notified-other w s apart (but apart))

  -- Rules in which nothing is requested.

  puts-told : {w : World R} {t : StandingLink} {v : Value} {w' : World R} {stored : Bool} → Puts k w t v w' stored → IsFree w → IsFree w'
  unfolding put_untested
  puts-told (that_fits {w} {t} {v} {r} is) told =
      let with = stored_with k (at k w t.number) r t.field (converted_for k (at k w t.number) t.field (InputValue v)) is in
      rescanned-told (put w t.number r) t.number t.field
      (subst (λ (x : R). IsFree (put w t.number x)) with.1
      (told-put w t.number _ (lawful.stored_active (at k w t.number) t.field with.0) (ap (λ (c : Common). c.notification) (lawful.stored_common (at k w t.number) t.field with.0)) told))
  puts-told (that_does_not_fit _) told = told

  inherits-told : {w : World R} {s : ℕ} {t : StandingLink} {w' : World R} → Inherits k w s t w' → IsFree w → IsFree w'
  inherits-told (from_itself _) told = told
  inherits-told (from_another {w} {s} {t} _) told = told-changed w s _ (λ c. refl) (λ c. refl) told

  takes-told : {kind : R → InputKind} {w : World R} {s : ℕ} {t : StandingLink} {w' : World R} {got : Got} → Takes k kind w s t w' got → IsFree w → IsFree w'
  takes-told (that_converts _ i) told = inherits-told i told
  takes-told (that_does_not {kind} {w} {s} _) told = told-changed w s _ (λ c. refl) (λ c. refl) told

  disables-told : {w : World R} {s : ℕ} {got : Got} {w' : World R} → Disables k w s got w' → IsFree w → IsFree w'
  unfolding with_disable_input
  disables-told (by_value {w} {s}) told = told-changed w s _ (λ c. refl) (λ c. refl) told
  disables-told not_given told = told
  disables-told not_read told = told

  -- If nothing was read, `s` waits for its device.
  After : ℕ → World R → Option Got → Type 0
  After s w Nothing_ = IsFree w
  After s w (Some got) = But s w

  receives-told : {w : World R} {s : ℕ} {answer : Answer} {w' : World R} {came : Option Got} → Receives k w s answer w' came → But s w → After s w' came
  unfolding After
  receives-told (a_value _) but = but
  receives-told (a_bad_value {w} {s} _) but = λ apart. told-changed w s _ (λ c. refl) (λ c. refl) (but apart)
  receives-told (a_fault {w} {s}) but = λ apart. told-changed w s _ (λ c. refl) (λ c. refl) (but apart)
  receives-told (not_yet {w} {s}) but = active-told w s waiting (λ c. refl) but

  AfterOutput : ℕ → World R → Bool → Type 0
  AfterOutput s w false = IsFree w
  AfterOutput s w true = But s w

  acknowledges-told : {w : World R} {s : ℕ} {answer : Answer} {w' : World R} {goes_on : Bool} → Acknowledges k w s answer w' goes_on → But s w → AfterOutput s w' goes_on
  unfolding AfterOutput
  acknowledges-told written but = but
  acknowledges-told (written_badly {w} {s}) but = λ apart. told-changed w s _ (λ c. refl) (λ c. refl) (but apart)
  acknowledges-told (not_written_yet {w} {s}) but = active-told w s waiting (λ c. refl) but

  rests-told : {w : World R} {s : ℕ} {w' : World R} → Rests k w s w' → But s w → IsFree w'
  rests-told (for_good {w} {s} _) but = told-notified w s at_rest (λ c. refl) but
  rests-told (once_more {w} {s} _) but = sent-told (Once s) _ (told-notified w s at_rest (λ c. refl) but)

  blocked-told : (w : World R) (s : ℕ) → IsFree w → IsFree (changed k w s blocked)
  blocked-told w s told = told-changed w s blocked (λ c. (blocked-frame c).active) (λ c. (blocked-frame c).notification) told

  put_down-told : (w : World R) (s : ℕ) → IsFree w → IsFree (changed k w s put_down)
  put_down-told w s told = told-changed w s put_down (λ c. (blocked-frame (with_reprocess_mark true c)).active) (λ c. (blocked-frame (with_reprocess_mark true c)).notification) told

  mark-active : (by_put : Bool) (c : Common) → (put_mark_passed by_put c).active ≡ c.active
  unfolding put_mark_passed
  mark-active by_put c = elim c.active as (λ b. (cond b c (with_put_mark by_put c)).active ≡ c.active) [
    | true ↦ refl
    | false ↦ refl
  ]

  mark-notification : (by_put : Bool) (c : Common) → (put_mark_passed by_put c).notification ≡ c.notification
  unfolding put_mark_passed
  mark-notification by_put c = elim c.active as (λ b. (cond b c (with_put_mark by_put c)).notification ≡ c.notification) [
    | true ↦ refl
    | false ↦ refl
  ]

  disabled-notification : (c : Common) → (disabled c).notification ≡ c.notification
  unfolding disabled
  disabled-notification c = refl

  -- An active record may be part of one.
  held-active : (w : World R) (s : ℕ) → (common_at k w s).active ≡ true → But s w → IsFree w
  held-active w s active but = either_way s (IsFree w) (λ is idle. absurd (not-both (sym active ∙ ap (λ (q : ℕ). (common_at k w q).active) (sym is) ∙ idle))) but

  readied : (w ready : World R) (s : ℕ) → ready ≡ changed k w s unblocked → But s w → But s ready
  readied w ready s is but apart = subst IsFree (sym is) (told-changed w s unblocked (λ c. refl) (λ c. refl) (but apart))

  kept-told : (w : World R) (s : ℕ) (f : OwnField) (got : Got) → n ≢ s → IsFree w → IsFree (kept k w s f got)
  unfolding kept
  kept-told w s f (Got-value v) apart told = put-other w s _ apart told
  kept-told w s f Got-nothing apart told = told
  kept-told w s f Got-fault apart told = told

  module _ (answers : Answers) where
    gives-told : {w : World R} {s : ℕ} {ask : Ask} {w' : World R} {answer : Answer} → Gives k answers w s ask w' answer → IsFree w → IsFree w'
    gives-told (next {w} _ _ _) told = called-told _ w told
    gives-told (asked_too_often _) told = told
    gives-told (no_more_numbers _) told = told

    mutual
      unfolding After AfterOutput

      pub requested-told : {w : World R} {s : ℕ} {w' : World R} {requests : Requests} → Requested k answers w s w' requests → But s w → IsFree w'
      requested-told (while_active {w} {s} active) but = blocked-told w s (held-active w s active but)
      requested-told (while_disabled {w} {ready} {w'} {w''} {s} idle r reads disables _) but =
          told-notified w'' s disabled disabled-notification (λ apart. disables-told disables (reads-told reads (readied w ready s r but) apart))
      requested-told (while_idle {w} {ready} {w'} {w''} {after} {s} idle r reads disables _ runs) but =
          runs-told runs (λ apart. disables-told disables (reads-told reads (readied w ready s r but) apart))

      asks-told : {w : World R} {s t : ℕ} {w' : World R} {requests : Requests} → Asks k answers w s t w' requests → IsFree w → IsFree w'
      asks-told (for_later {w} {s} {t} _) told = put_down-told w t told
      asks-told (straight_away {w} {w'} {s} {t} _ r) told =
          requested-told r (λ apart. passed-told _ s t apart (told-changed w t _ (mark-active (common_at k w s).by_put) (mark-notification (common_at k w s).by_put) told))

      causes-told : {w : World R} {s t : ℕ} {w' : World R} {requests : Requests} → Causes k answers w s t w' requests → But s w → But s w'
      causes-told (meanwhile_active {w} {w'} {s} r) but apart = changed-other w' s _ apart (asks-told r (active-told w s (with_active true) (λ c. refl) but))

      reads-told : {kind : R → InputKind} {w : World R} {s : ℕ} {link : LinkUse} {w' : World R} {got : Got} {requests : Requests} → Reads k answers kind w s link w' got requests → But s w → But s w'
      reads-told unused but = but
      reads-told (absent {kind} {w} {s}) but = λ apart. told-changed w s _ (λ c. refl) (λ c. refl) (but apart)
      reads-told (no_such_device {kind} {w} {s}) but = λ apart. told-changed w s _ (λ c. refl) (λ c. refl) (but apart)
      reads-told (as_it_stands _ takes) but = λ apart. takes-told takes (but apart)
      reads-told (after_request _ c takes) but = λ apart. takes-told takes (causes-told c but apart)

      follows-told : {w : World R} {s : ℕ} {link : LinkUse} {w' : World R} {requests : Requests} → Follows k answers w s link w' requests → But s w → But s w'
      follows-told (to_record _ c) but = causes-told c but
      follows-told (to_scanned _) but = but
      follows-told (nowhere _) but = but

      read_each-told : {w : World R} {s : ℕ} {has_fault : Bool} {slots : List FieldSlot} {w' : World R} {came : Got} {requests : Requests} → ReadsEach k answers w s has_fault slots w' came requests → But s w → But s w'
      read_each-told none_left but = but
      read_each-told (one_read {w} {w'} {w''} {s} {has_fault} {slot} {slots} {got} r rest) but = read_each-told rest (λ apart. kept-told w' s (Letter slot) got apart (reads-told r but apart))

      gets-told : {w : World R} {s : ℕ} {want : Want} {w' : World R} {came : Option Got} {requests : Requests} → Gets k answers w s want w' came requests → But s w → After s w' came
      gets-told no_input but = but
      gets-told (of_link r) but = reads-told r but
      gets-told (of_device g r) but = receives-told r (λ apart. gives-told g (but apart))
      gets-told (of_inputs {w} {w'} {ready} {w''} {s} {link} {got} r is rest) but =
          read_each-told rest (λ apart. subst IsFree (sym is) (kept-told w' s Seln got apart (reads-told r but apart)))

      writes-told : {w : World R} {s : ℕ} {link : LinkUse} {v : Value} {w' : World R} {requests : Requests} → Writes k answers w s link v w' requests → But s w → But s w'
      writes-told to_nothing but = but
      writes-told (to_absent {w} {s}) but = λ apart. told-changed w s _ (λ c. refl) (λ c. refl) (but apart)
      writes-told (to_no_device {w} {s}) but = λ apart. told-changed w s _ (λ c. refl) (λ c. refl) (but apart)
      writes-told (in_vain {w} {w'} {s} {t} p) but = λ apart. told-changed (handed_on k w' s t) s _ (λ c. refl) (λ c. refl) (handed-told w' s t (puts-told p (but apart)))
      writes-told (alone {w} {w'} {s} {t} p _) but = λ apart. handed-told w' s t (puts-told p (but apart))
      writes-told (and_requests {w} {w'} {w''} {s} {t} p _ c) but = causes-told c (λ apart. handed-told w' s t (puts-told p (but apart)))

      each-told : {w : World R} {s : ℕ} {slots : List FieldSlot} {w' : World R} {requests : Requests} → FollowsEach k answers w s slots w' requests → But s w → But s w'
      each-told no_more but = but
      each-told (one_more f rest) but = each-told rest (follows-told f but)

      puts_out-told : {w : World R} {s : ℕ} {output : Output} {w' : World R} {goes_on : Bool} {requests : Requests} → PutsOut k answers w s output w' goes_on requests → But s w → AfterOutput s w' goes_on
      puts_out-told nothing but = but
      puts_out-told (to_link x) but = writes-told x but
      puts_out-told (to_device g a) but = acknowledges-told a (λ apart. gives-told g (but apart))
      puts_out-told (to_links f) but = each-told f but
      puts_out-told (as_event {w} {s} {name}) but = λ apart. sent-told (Post name) w (but apart)

      finishes-told : {w : World R} {s : ℕ} {w' : World R} {requests : Requests} → Finishes k answers w s w' requests → But s w → IsFree w'
      finishes-told (forward {w} {ready} {w'} {w''} {s} r f rests) but =
          rests-told rests (follows-told f (λ apart. subst IsFree (sym r) (put-other w s _ apart (but apart))))

      proceeds-told : {w : World R} {s : ℕ} {got : Got} {w' : World R} {requests : Requests} → Proceeds k answers w s got w' requests → But s w → IsFree w'
      proceeds-told (at_once {w} {taken} {w'} {w''} {s} {got} t p f) but = finishes-told f (puts_out-told p (λ apart. subst IsFree (sym t) (put-other w s _ apart (but apart))))
      proceeds-told (kept_waiting {w} {taken} {w'} {s} {got} t p) but = puts_out-told p (λ apart. subst IsFree (sym t) (put-other w s _ apart (but apart)))

      runs-told : {w : World R} {s : ℕ} {w' : World R} {requests : Requests} → Runs k answers w s w' requests → But s w → IsFree w'
      runs-told (Runs.to_end g f) but = proceeds-told f (gets-told g but)
      runs-told (Runs.waits g) but = gets-told g but

    -- `IsFree` holds after a record whose device answered later has resumed.
    pub resumes-told : {w : World R} {s : ℕ} {x : Finished} {w' : World R} {requests : Requests} → Resumes k answers w s x w' requests → But s w → IsFree w'
    unfolding AfterOutput
    resumes-told (takes_completion {w} {back} {w'} {w''} {s} {x} b p f) but =
        finishes-told f (puts_out-told p (λ apart. put-other back s _ apart (subst IsFree (sym b) (changed-other w s resumed apart (but apart)))))
