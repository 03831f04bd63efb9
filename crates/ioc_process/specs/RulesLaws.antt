-- A law of requests, by induction on the rules: what they leave of active marks and pending
-- numbers.
use Rattle.std.proofs.Common.{◌≡◌, ◌≢◌, ℕ, Bool, true, false, cond, eqb, nat_lt, ◌++◌, List, [], ◌∷◌, length, Option, Some, None as Nothing_, IsSome, refl, sym, ap, subst, ◌∙◌, arith}
use Rattle.std.proofs.lemmas.Grind.{common_steps}
use Rattle.ioc_device.specs.declared.Answer.{Answer}
use Rattle.ioc_ledger.specs.Requests.{Requests, more}
use Rattle.ioc_fields.specs.declared.field_no.FieldSlot.{FieldSlot}
use Rattle.ioc_fields.specs.declared.field_no.OwnField.{OwnField}
use Rattle.ioc_fields.specs.declared.field_no.OwnField.TheVariants.{Letter, Seln}
use Rattle.ioc_fields.specs.declared.field_no.FieldNo.TheVariants.{Own as Own-field}
use Rattle.ioc_values.specs.declared.value.Value.{Value}
use Rattle.ioc_values.specs.declared.input.Input.TheVariants.{Value as InputValue}
use Rattle.ioc_record.specs.Values.{put_untested, converted_for}
use Rattle.ioc_dbcommon.specs.declared.body.Output.{Output}
use Rattle.ioc_store.specs.Showing.{showing-common}
use Rattle.ioc_store.specs.declared.outbox.OutboxItem.{OutboxItem}
use Rattle.ioc_store.specs.declared.outbox.OutboxItem.TheVariants.{Once, Post}
use Rattle.ioc_store.specs.Inputs.{kept}
use Rattle.ioc_store.specs.Links.{handed_on}
use Rattle.ioc_dbcommon.specs.declared.common.Common.{Common}
use Rattle.ioc_dbcommon.specs.declared.link_field.LinkUse.{LinkUse}
use Rattle.ioc_dbcommon.specs.declared.link_field.StandingLink.{StandingLink}
use Rattle.ioc_dbcommon.specs.declared.body.Got.{Got}
use Rattle.ioc_dbcommon.specs.declared.body.Got.TheVariants.{Nothing as Got-nothing, Value as Got-value, Fault as Got-fault}
use Rattle.ioc_dbcommon.specs.declared.body.Want.{Want}
use Rattle.ioc_dbcommon.specs.Steps.{blocked, unblocked, with_active, waiting, with_put_mark, with_reprocess_mark, disabled, change_numbered, with_notification}
use Rattle.ioc_dbcommon.specs.declared.body.InputKind.{InputKind}
use Rattle.ioc_device.specs.declared.Ask.{Ask}
use Rattle.ioc_values.specs.declared.value.Finished.{Finished}
use Rattle.ioc_store.specs.Marks.{put_down, put_mark_passed, resumed, at_rest, with_disable_input}
use Rattle.ioc_record.specs.RecordRules.{RecordRules}
use Rattle.ioc_record.specs.Laws.{IsLawful}
use Rattle.ioc_store.specs.World.{World, at, common_at, put, changed, called, sent, lost, taken_on, let_go}
use Rattle.ioc_process.specs.Rules.{Left, as_it_was, now_waits, LeavesAll, Inherits, from_itself, from_another, Takes, that_converts, that_does_not, Receives, a_value, a_bad_value, a_fault, not_yet, Puts, that_fits, that_does_not_fit, Acknowledges, written, written_badly, not_written_yet, Gives, next, asked_too_often, no_more_numbers, Requested, while_active, while_idle, Causes, meanwhile_active, Reads, unused, absent, no_such_device, as_it_stands, after_request, Writes, to_nothing, to_absent, to_no_device, in_vain, alone, and_requests, Follows, to_record, to_scanned, nowhere, FollowsEach, no_more, one_more, PutsOut, nothing, to_link, to_device, to_links, as_event, Gets, no_input, of_link, of_device, of_inputs, ReadsEach, none_left, one_read, Finishes, forward, Proceeds, at_once, kept_waiting, Runs, Disables, by_value, not_given, not_read, Rests, for_good, once_more, while_disabled, Asks, for_later, straight_away, Resumes, takes_completion}
use Rattle.ioc_store.specs.StepFrames.{blocked-frame, stored_with}
use Rattle.ioc_store.specs.Worlds.{at-put_same, at-put_other, common_at-changed}
use Rattle.ioc_store.specs.Given.{Answers}
use Rattle.ioc_store.specs.Scanning.{moved, rescanned}
use Rattle.ioc_store.specs.ScanLaws.{moved-either, rescanned-either}
use Rattle.ioc_fields.specs.declared.field_no.FieldNo.{FieldNo}
use Rattle.ioc_store.specs.Notifying.{passed_on, notified}
use Rattle.ioc_store.specs.NotifyLaws.{passed-either, notified-either}

true-not-false : true ≡ false → ⊥
true-not-false is = cc

-- Holds if the active mark and the pending number are unchanged.
pub record Same (before after : Common) : Type 0 where
  pub active : after.active ≡ before.active
  pub pending : after.pending ≡ before.pending

same_on : {a b c : Common} → Same a b → Same b c → Same a c
same_on one two = record { active = two.active ∙ one.active; pending = two.pending ∙ one.pending }

same_here : (c : Common) → Same c c
same_here c = record { active = refl; pending = refl }

left_same : {a b : Common} → Same a b → Left a b
left_same same = as_it_was same.active same.pending

left_on : {a b c : Common} → Left a b → Left b c → Left a c
left_on (as_it_was active pending) (as_it_was active' pending') = as_it_was (active' ∙ active) (pending' ∙ pending)
left_on (as_it_was active pending) (now_waits idle waits some) = now_waits (sym active ∙ idle) waits some
left_on (now_waits idle waits some) (as_it_was active' pending') = now_waits idle (active' ∙ waits) (subst (λ (o : Option ℕ). IsSome o) (sym pending') some)
left_on (now_waits idle waits some) (now_waits idle' waits' some') = absurd (true-not-false (sym waits ∙ idle'))

-- An active record is left as it was.
left_active : {a b : Common} → Left a b → a.active ≡ true → Same a b
left_active (as_it_was active pending) is = record { active = active; pending = pending }
left_active (now_waits idle waits some) is = absurd (true-not-false (sym is ∙ idle))

module _ {R : Type 0} (k : RecordRules R) (lawful : IsLawful k) where
  LeavesBut : ℕ → World R → World R → Type 0
  LeavesBut s w w' = (n : ℕ) → n ≢ s → Left (common_at k w n) (common_at k w' n)

  Own : ℕ → World R → World R → Type 0
  Own s w w' = Same (common_at k w s) (common_at k w' s)

  -- All records are left so if `s` and every other record are.
  all_of : (w w' : World R) (s : ℕ) → ((n : ℕ) → n ≢ s → Left (common_at k w n) (common_at k w' n)) → Left (common_at k w s) (common_at k w' s) → LeavesAll k w w'
  all_of w w' s others own n =
      elim (eqb n s) as (λ b. eqb n s ≡ b → Left (common_at k w n) (common_at k w' n)) [
        | true ↦ λ e. let is : n ≡ s = grind (arith, common_steps) in subst (λ m. Left (common_at k w m) (common_at k w' m)) (sym is) own
        | false ↦ λ e. let apart : n ≢ s = grind (arith, common_steps) in others n apart
      ] refl

  put-but : (w : World R) (s : ℕ) (r : R) (n : ℕ) → n ≢ s → Same (common_at k w n) (common_at k (put w s r) n)
  put-but w s r n apart =
      let same = ap k.common (at-put_other k w s n r apart) in
      record { active = ap (λ (c : Common). c.active) same; pending = ap (λ (c : Common). c.pending) same }

  changed-but : (w : World R) (s : ℕ) (f : Common → Common) (n : ℕ) → n ≢ s → Same (common_at k w n) (common_at k (changed k w s f) n)
  unfolding changed
  changed-but w s f n apart = put-but w s _ n apart

  changed-own : (w : World R) (s : ℕ) (f : Common → Common) → Same (common_at k w s) (f (common_at k w s)) → Own s w (changed k w s f)
  unfolding Own
  changed-own w s f same =
      let is = common_at-changed k lawful w s f in
      record { active = ap (λ (c : Common). c.active) is ∙ same.active; pending = ap (λ (c : Common). c.pending) is ∙ same.pending }

  changed-all : (w : World R) (s : ℕ) (f : Common → Common) → Same (common_at k w s) (f (common_at k w s)) → LeavesAll k w (changed k w s f)
  unfolding Own
  changed-all w s f same = all_of w _ s (λ n apart. left_same (changed-but w s f n apart)) (left_same (changed-own w s f same))

  -- What is left of `s`, and of all other records.
  record Both (s : ℕ) (w w' : World R) : Type 0 where
    others : (n : ℕ) → n ≢ s → Left (common_at k w n) (common_at k w' n)
    own : Own s w w'

  both_here : (w : World R) (s : ℕ) → Both s w w
  unfolding Own
  both_here w s = record { others = λ n _. as_it_was refl refl; own = same_here _ }

  both_on : {w w' w'' : World R} {s : ℕ} → Both s w w' → Both s w' w'' → Both s w w''
  unfolding Own
  both_on one two = record { others = λ n apart. left_on (one.others n apart) (two.others n apart); own = same_on one.own two.own }

  both-changed : (w : World R) (s : ℕ) (f : Common → Common) → Same (common_at k w s) (f (common_at k w s)) → Both s w (changed k w s f)
  both-changed w s f same = record { others = λ n apart. left_same (changed-but w s f n apart); own = changed-own w s f same }

  -- Putting a record with its marks unchanged keeps the marks of all records.
  both-put : (w : World R) (s n : ℕ) (r : R) → Same (common_at k w n) (k.common r) → Both s w (put w n r)
  unfolding Own
  both-put w s n r same =
      let any : (m : ℕ) → Same (common_at k w m) (common_at k (put w n r) m) = λ m. elim (eqb m n) as (λ b. eqb m n ≡ b → Same (common_at k w m) (common_at k (put w n r) m)) [
        | true ↦ λ e.
            let is : m ≡ n = grind (arith, common_steps) in
            let here = ap (λ (x : R). k.common x) (ap (at k (put w n r)) is ∙ at-put_same k w n r) in
            let there = ap (λ (q : ℕ). common_at k w q) is in
            record {
              active = ap (λ (c : Common). c.active) here ∙ same.active ∙ ap (λ (c : Common). c.active) (sym there);
              pending = ap (λ (c : Common). c.pending) here ∙ same.pending ∙ ap (λ (c : Common). c.pending) (sym there);
            }
        | false ↦ λ e. let apart : m ≢ n = grind (arith, common_steps) in put-but w n r m apart
      ] refl in
      record { others = λ m _. left_same (any m); own = any s }

  handed-both : (w : World R) (s : ℕ) (t : StandingLink) → Both s w (handed_on k w s t)
  unfolding handed_on changed
  handed-both w s t =
      let set = lawful.common_set (at k w t.number) in
      both-put w s t.number _ (record { active = ap (λ (c : Common). c.active) (set _); pending = ap (λ (c : Common). c.pending) (set _) })

  sent-both : (item : OutboxItem) (w : World R) (s : ℕ) → Both s w (sent item w)
  unfolding at sent Own
  sent-both item w s = elim (nat_lt (length w.outbox) 256) as (λ b. Both s w (cond b (record w { outbox = w.outbox ++ item ∷ [] }) (record w { dropped = more w.dropped }))) [
    | true ↦ record { others = λ n _. as_it_was refl refl; own = record { active = refl; pending = refl } }
    | false ↦ record { others = λ n _. as_it_was refl refl; own = record { active = refl; pending = refl } }
  ]

  changed-is : (w : World R) (n : ℕ) → put w n (k.with_common (at k w n) (change_numbered (common_at k w n))) ≡ changed k w n change_numbered
  unfolding changed
  changed-is w n = refl

  lost-both : (w : World R) (s : ℕ) → Both s w (lost w)
  unfolding at lost Own
  lost-both w s = record { others = λ n _. as_it_was refl refl; own = same_here _ }

  -- Moving a record to another scan list keeps the marks.
  moved-both : (w : World R) (s n : ℕ) → Both s w (moved k w n)
  moved-both w s n =
      let numbered = subst (λ (v : World R). Both s w v) (changed-is w n) (both-put w s n _ (record { active = ap (λ (c : Common). c.active) (lawful.common_set _ _); pending = ap (λ (c : Common). c.pending) (lawful.common_set _ _) })) in
      moved-either k (Both s w) w n (λ item. both_on numbered (sent-both item _ s)) (lost-both w s)

  taken_on-both : (number : ℕ) (w : World R) (s : ℕ) → Both s w (taken_on number w)
  unfolding at taken_on Own
  taken_on-both number w s = record { others = λ n _. as_it_was refl refl; own = same_here _ }

  let_go-both : (number : ℕ) (w : World R) (s : ℕ) → Both s w (let_go number w)
  unfolding at let_go Own
  let_go-both number w s = record { others = λ n _. as_it_was refl refl; own = same_here _ }

  set_as : (w : World R) (n : ℕ) (number : Option ℕ) → put w n (k.with_common (at k w n) (with_notification number (common_at k w n))) ≡ changed k w n (with_notification number)
  unfolding changed
  set_as w n number = refl

  set_notification-both : (w : World R) (s n : ℕ) (number : Option ℕ) → Both s w (changed k w n (with_notification number))
  set_notification-both w s n number =
      subst (λ (v : World R). Both s w v) (set_as w n number) (both-put w s n _ (record { active = ap (λ (c : Common). c.active) (lawful.common_set _ _); pending = ap (λ (c : Common). c.pending) (lawful.common_set _ _) }))

  -- Passing a put with notification from record to record, and ending it, keep the marks.
  passed_on-both : (w : World R) (s source t : ℕ) → Both s w (passed_on k w source t)
  passed_on-both w s source t = passed-either k (Both s w) w source t (both_here w s) (λ n. both_on (set_notification-both w s t (Some n)) (taken_on-both n _ s))

  notified-both : (w : World R) (s n : ℕ) → Both s w (notified k w n)
  notified-both w s n = notified-either k (Both s w) w n (both_here w s) (λ m. both_on (set_notification-both w s n Nothing_) (let_go-both m _ s))

  rescanned-both : (w : World R) (s n : ℕ) (field : FieldNo) → Both s w (rescanned k w n field)
  rescanned-both w s n field = rescanned-either k (Both s w) w n field (both_here w s) (moved-both w s n)

  puts-both : {w : World R} {t : StandingLink} {v : Value} {w' : World R} {stored : Bool} (s : ℕ) → Puts k w t v w' stored → Both s w w'
  unfolding put_untested
  puts-both s (that_fits {w} {t} {v} {r} is) =
      let with = stored_with k (at k w t.number) r t.field (converted_for k (at k w t.number) t.field (InputValue v)) is in
      both_on (both-put w s t.number r (subst (λ (x : R). Same (common_at k w t.number) (k.common x)) with.1
      (record { active = lawful.stored_active (at k w t.number) t.field with.0; pending = lawful.stored_pending (at k w t.number) t.field with.0 })))
      (rescanned-both (put w t.number r) s t.number t.field)
  puts-both s (that_does_not_fit {w} _) = both_here w s

  inherits-both : {w : World R} {s : ℕ} {t : StandingLink} {w' : World R} → Inherits k w s t w' → Both s w w'
  inherits-both (from_itself {w} {s} _) = both_here w s
  inherits-both (from_another {w} {s} {t} _) = both-changed w s _ (record { active = refl; pending = refl })

  takes-both : {kind : R → InputKind} {w : World R} {s : ℕ} {t : StandingLink} {w' : World R} {got : Got} → Takes k kind w s t w' got → Both s w w'
  takes-both (that_converts _ i) = inherits-both i
  takes-both (that_does_not {kind} {w} {s} _) = both-changed w s _ (record { active = refl; pending = refl })

  disables-both : {w : World R} {s : ℕ} {got : Got} {w' : World R} → Disables k w s got w' → Both s w w'
  unfolding with_disable_input
  disables-both (by_value {w} {s}) = both-changed w s _ (record { active = refl; pending = refl })
  disables-both (not_given {w} {s}) = both_here w s
  disables-both (not_read {w} {s}) = both_here w s

  -- `s` is as it was if something was read, and waits otherwise.
  OwnIf : ℕ → World R → World R → Option Got → Type 0
  OwnIf s w w' Nothing_ = ((common_at k w' s).active ≡ true) × IsSome (common_at k w' s).pending
  OwnIf s w w' (Some got) = Own s w w'

  record BothIf (s : ℕ) (w w' : World R) (came : Option Got) : Type 0 where
    others : (n : ℕ) → n ≢ s → Left (common_at k w n) (common_at k w' n)
    own : OwnIf s w w' came

  both_if : {s : ℕ} {w w' : World R} {got : Got} → Both s w w' → BothIf s w w' (Some got)
  unfolding OwnIf
  both_if both = record { others = both.others; own = both.own }

  receives-both : {w : World R} {s : ℕ} {answer : Answer} {w' : World R} {came : Option Got} → Receives k w s answer w' came → BothIf s w w' came
  unfolding OwnIf
  receives-both (a_value {w} {s} _) = both_if (both_here w s)
  receives-both (a_bad_value {w} {s} _) = both_if (both-changed w s _ (record { active = refl; pending = refl }))
  receives-both (a_fault {w} {s}) = both_if (both-changed w s _ (record { active = refl; pending = refl }))
  receives-both (not_yet {w} {s}) =
      let is = common_at-changed k lawful w s waiting in
      record {
        others = λ n apart. left_same (changed-but w s waiting n apart);
        own = (ap (λ (c : Common). c.active) is, subst (λ (o : Option ℕ). IsSome o) (sym (ap (λ (c : Common). c.pending) is)) refl);
      }

  -- `s` is as it was if the body continues, and waits otherwise.
  OwnAs : ℕ → World R → World R → Bool → Type 0
  OwnAs s w w' false = ((common_at k w' s).active ≡ true) × IsSome (common_at k w' s).pending
  OwnAs s w w' true = Own s w w'

  record BothAs (s : ℕ) (w w' : World R) (goes_on : Bool) : Type 0 where
    others : (n : ℕ) → n ≢ s → Left (common_at k w n) (common_at k w' n)
    own : OwnAs s w w' goes_on

  both_as : {s : ℕ} {w w' : World R} → Both s w w' → BothAs s w w' true
  unfolding OwnAs
  both_as both = record { others = both.others; own = both.own }

  acknowledges-both : {w : World R} {s : ℕ} {answer : Answer} {w' : World R} {goes_on : Bool} → Acknowledges k w s answer w' goes_on → BothAs s w w' goes_on
  unfolding OwnAs
  acknowledges-both (written {w} {s}) = both_as (both_here w s)
  acknowledges-both (written_badly {w} {s}) = both_as (both-changed w s _ (record { active = refl; pending = refl }))
  acknowledges-both (not_written_yet {w} {s}) =
      let is = common_at-changed k lawful w s waiting in
      record {
        others = λ n apart. left_same (changed-but w s waiting n apart);
        own = (ap (λ (c : Common). c.active) is, subst (λ (o : Option ℕ). IsSome o) (sym (ap (λ (c : Common). c.pending) is)) refl);
      }

  -- The same holds after a step that leaves `s` as it was.
  as_on : {w w' w'' : World R} {s : ℕ} {goes_on : Bool} → Both s w w' → BothAs s w' w'' goes_on → BothAs s w w'' goes_on
  unfolding OwnAs Own
  as_on {goes_on = true} one two = record { others = λ n apart. left_on (one.others n apart) (two.others n apart); own = same_on one.own two.own }
  as_on {goes_on = false} one two = record { others = λ n apart. left_on (one.others n apart) (two.others n apart); own = two.own }

  taken-both : (w taken : World R) (s : ℕ) (got : Got) → taken ≡ put w s (k.taken (at k w s) got) → Both s w taken
  unfolding Own
  taken-both w taken s got t = subst (Both s w) (sym t) (both-put w s s _ (record { active = lawful.taken_active _ got; pending = lawful.taken_pending _ got }))

  kept-both : (w : World R) (s : ℕ) (f : OwnField) (got : Got) → Both s w (kept k w s f got)
  unfolding kept Own
  kept-both w s f (Got-value v) = both-put w s s _ (record { active = lawful.stored_active (at k w s) (Own-field f) v; pending = lawful.stored_pending (at k w s) (Own-field f) v })
  kept-both w s f Got-nothing = both_here w s
  kept-both w s f Got-fault = both_here w s

  module _ (answers : Answers) where
    gives-both : {w : World R} {s : ℕ} {ask : Ask} {w' : World R} {answer : Answer} → Gives k answers w s ask w' answer → Both s w w'
    unfolding at called Own
    gives-both (next _ _ _) = record { others = λ n _. as_it_was refl refl; own = record { active = refl; pending = refl } }
    gives-both (asked_too_often {w} {s} _) = both_here w s
    gives-both (no_more_numbers {w} {s} _) = both_here w s

    after_giving : {w w' w'' : World R} {s : ℕ} {came : Option Got} → Both s w w' → BothIf s w' w'' came → BothIf s w w'' came
    unfolding OwnIf Own
    after_giving {came = Nothing_} one two = record { others = λ n apart. left_on (one.others n apart) (two.others n apart); own = two.own }
    after_giving {came = Some got} one two = record { others = λ n apart. left_on (one.others n apart) (two.others n apart); own = same_on one.own two.own }

    -- `s` is idle in the end, with the pending number that it had.
    record Ended (s : ℕ) (w w' : World R) : Type 0 where
      others : (n : ℕ) → n ≢ s → Left (common_at k w n) (common_at k w' n)
      active : (common_at k w' s).active ≡ false
      pending : (common_at k w' s).pending ≡ (common_at k w s).pending

    once_more-ended : (w : World R) (s : ℕ) → Ended s w (sent (Once s) (changed k (notified k w s) s at_rest))
    unfolding Own
    once_more-ended w s =
        let told = notified-both w s s in
        let v = notified k w s in
        let is = common_at-changed k lawful v s at_rest in
        let sends = sent-both (Once s) (changed k v s at_rest) s in
        record {
          others = λ n apart. left_on (told.others n apart) (left_on (left_same (changed-but v s at_rest n apart)) (sends.others n apart));
          active = sends.own.active ∙ ap (λ (c : Common). c.active) is;
          pending = sends.own.pending ∙ ap (λ (c : Common). c.pending) is ∙ told.own.pending;
        }

    -- Ending its processing leaves `s` idle.
    rests-ended : {w : World R} {s : ℕ} {w' : World R} → Rests k w s w' → Ended s w w'
    unfolding Own
    rests-ended (for_good {w} {s} _) =
        let told = notified-both w s s in
        let v = notified k w s in
        let is = common_at-changed k lawful v s at_rest in
        record {
          others = λ n apart. left_on (told.others n apart) (left_same (changed-but v s at_rest n apart));
          active = ap (λ (c : Common). c.active) is;
          pending = ap (λ (c : Common). c.pending) is ∙ told.own.pending;
        }
    rests-ended (once_more {w} {s} _) = once_more-ended w s

    -- Marking for reprocessing keeps the active mark and the pending number.
    put_down-same : (c : Common) → Same c (put_down c)
    put_down-same c = let f = blocked-frame (with_reprocess_mark true c) in record { active = f.active; pending = f.pending }

    passed-same : (by_put : Bool) (c : Common) → Same c (put_mark_passed by_put c)
    unfolding put_mark_passed
    passed-same by_put c = elim c.active as (λ b. Same c (cond b c (with_put_mark by_put c))) [
      | true ↦ same_here c
      | false ↦ record { active = refl; pending = refl }
    ]

    disabled-same : (c : Common) → Same c (disabled c)
    unfolding disabled
    disabled-same c = record { active = refl; pending = refl }

    -- The part of a request before SDIS is read keeps the marks.
    readied-both : (w ready : World R) (s : ℕ) → ready ≡ changed k w s unblocked → Both s w ready
    readied-both w ready s is = subst (Both s w) (sym is) (both-changed w s unblocked (record { active = refl; pending = refl }))

    all_both : {w w' : World R} {s : ℕ} → Both s w w' → LeavesAll k w w'
    unfolding Own
    all_both {w} {w'} {s} both = all_of w w' s both.others (left_same both.own)

    all_on : (w w' w'' : World R) → LeavesAll k w w' → LeavesAll k w' w'' → LeavesAll k w w''
    all_on w w' w'' one two n = left_on (one n) (two n)

    mutual
      unfolding Own OwnIf OwnAs

      pub requested-leaves : {w : World R} {s : ℕ} {w' : World R} {requests : Requests} → Requested k answers w s w' requests → LeavesAll k w w'
      requested-leaves (while_active {w} {s} _) =
          let f = blocked-frame (common_at k w s) in
          changed-all w s blocked (record { active = f.active; pending = f.pending })
      requested-leaves (while_disabled {w} {ready} {w'} {w''} {s} idle r reads disables _) =
          let first = both_on (readied-both w ready s r) (both_on (reads-both reads) (disables-both disables)) in
          all_both (both_on first (both_on (notified-both w'' s s) (both-changed (notified k w'' s) s disabled (disabled-same _))))
      requested-leaves (while_idle {w} {ready} {w'} {w''} {after} {s} idle r reads disables _ runs) =
          let first = both_on (readied-both w ready s r) (both_on (reads-both reads) (disables-both disables)) in
          all_on _ _ _ (all_both first) (runs-leave runs (first.own.active ∙ idle))

      asks-leave : {w : World R} {s t : ℕ} {w' : World R} {requests : Requests} → Asks k answers w s t w' requests → LeavesAll k w w'
      asks-leave (for_later {w} {s} {t} _) = changed-all w t put_down (put_down-same _)
      asks-leave (straight_away {w} {w'} {s} {t} _ r) = all_on _ _ _ (changed-all w t _ (passed-same (common_at k w s).by_put _)) (all_on _ _ _ (all_both (passed_on-both _ t s t)) (requested-leaves r))

      causes-both : {w : World R} {s t : ℕ} {w' : World R} {requests : Requests} → Causes k answers w s t w' requests → Both s w w'
      causes-both (meanwhile_active {w} {w'} {s} r) =
          let inside = asks-leave r in
          let set = common_at-changed k lawful w s (with_active true) in
          let kept = left_active (inside s) (ap (λ (c : Common). c.active) set) in
          let back = common_at-changed k lawful w' s (with_active (common_at k w s).active) in
          record {
            others = λ n apart. left_on (left_same (changed-but w s (with_active true) n apart)) (left_on (inside n) (left_same (changed-but w' s _ n apart)));
            own = record {
              active = ap (λ (c : Common). c.active) back;
              pending = ap (λ (c : Common). c.pending) back ∙ kept.pending ∙ ap (λ (c : Common). c.pending) set;
            };
          }

      reads-both : {kind : R → InputKind} {w : World R} {s : ℕ} {link : LinkUse} {w' : World R} {got : Got} {requests : Requests} → Reads k answers kind w s link w' got requests → Both s w w'
      reads-both (unused {kind} {w} {s}) = both_here w s
      reads-both (absent {kind} {w} {s}) = both-changed w s _ (record { active = refl; pending = refl })
      reads-both (no_such_device {kind} {w} {s}) = both-changed w s _ (record { active = refl; pending = refl })
      reads-both (as_it_stands _ takes) = takes-both takes
      reads-both (after_request _ c takes) = both_on (causes-both c) (takes-both takes)

      follows-both : {w : World R} {s : ℕ} {link : LinkUse} {w' : World R} {requests : Requests} → Follows k answers w s link w' requests → Both s w w'
      follows-both (to_record _ c) = causes-both c
      follows-both (to_scanned {w} {s} _) = both_here w s
      follows-both (nowhere {w} {s} _) = both_here w s

      read_each-both : {w : World R} {s : ℕ} {has_fault : Bool} {slots : List FieldSlot} {w' : World R} {came : Got} {requests : Requests} → ReadsEach k answers w s has_fault slots w' came requests → Both s w w'
      read_each-both (none_left {w} {s}) = both_here w s
      read_each-both (one_read {w} {w'} {w''} {s} {has_fault} {slot} {slots} {got} r rest) = both_on (reads-both r) (both_on (kept-both w' s (Letter slot) got) (read_each-both rest))

      gets-both : {w : World R} {s : ℕ} {want : Want} {w' : World R} {came : Option Got} {requests : Requests} → Gets k answers w s want w' came requests → BothIf s w w' came
      gets-both (no_input {w} {s}) = both_if (both_here w s)
      gets-both (of_link r) = both_if (reads-both r)
      gets-both (of_device g r) = after_giving (gives-both g) (receives-both r)
      gets-both (of_inputs {w} {w'} {ready} {w''} {s} {link} {got} r is rest) =
          both_if (both_on (reads-both r) (both_on (subst (Both s w') (sym is) (kept-both w' s Seln got)) (read_each-both rest)))

      writes-both : {w : World R} {s : ℕ} {link : LinkUse} {v : Value} {w' : World R} {requests : Requests} → Writes k answers w s link v w' requests → Both s w w'
      writes-both (to_nothing {w} {s}) = both_here w s
      writes-both (to_absent {w} {s}) = both-changed w s _ (record { active = refl; pending = refl })
      writes-both (to_no_device {w} {s}) = both-changed w s _ (record { active = refl; pending = refl })
      writes-both (in_vain {w} {w'} {s} {t} p) = both_on (both_on (puts-both s p) (handed-both w' s t)) (both-changed (handed_on k w' s t) s _ (record { active = refl; pending = refl }))
      writes-both (alone {w} {w'} {s} {t} p _) = both_on (puts-both s p) (handed-both w' s t)
      writes-both (and_requests {w} {w'} {w''} {s} {t} p _ c) = both_on (both_on (puts-both s p) (handed-both w' s t)) (causes-both c)

      each-both : {w : World R} {s : ℕ} {slots : List FieldSlot} {w' : World R} {requests : Requests} → FollowsEach k answers w s slots w' requests → Both s w w'
      each-both (no_more {w} {s}) = both_here w s
      each-both (one_more f rest) = both_on (follows-both f) (each-both rest)

      puts_out-both : {w : World R} {s : ℕ} {output : Output} {w' : World R} {goes_on : Bool} {requests : Requests} → PutsOut k answers w s output w' goes_on requests → BothAs s w w' goes_on
      puts_out-both (nothing {w} {s}) = both_as (both_here w s)
      puts_out-both (to_link x) = both_as (writes-both x)
      puts_out-both (to_device g a) = as_on (gives-both g) (acknowledges-both a)
      puts_out-both (to_links f) = both_as (each-both f)
      puts_out-both (as_event {w} {s} {name}) = both_as (sent-both (Post name) w s)

      finishes-ended : {w : World R} {s : ℕ} {w' : World R} {requests : Requests} → Finishes k answers w s w' requests → Ended s w w'
      finishes-ended (forward {w} {ready} {w'} {w''} {s} {requests} r f rests) =
          let inside = follows-both f in
          let ready_pending : (common_at k ready s).pending ≡ (common_at k w s).pending =
          ap (λ (v : World R). (common_at k v s).pending) r ∙ ap (λ (c : Common). c.pending) (showing-common k lawful w s) in
          let last = rests-ended rests in
          record {
            others = λ n apart. left_on (left_same (subst (λ (v : World R). Same (common_at k w n) (common_at k v n)) (sym r) (put-but w s _ n apart)))
                (left_on (inside.others n apart) (last.others n apart));
            active = last.active;
            pending = last.pending ∙ inside.own.pending ∙ ready_pending;
          }

      -- A body of a record that was idle leaves it idle or waiting.
      proceeds-leave : {w : World R} {s : ℕ} {got : Got} {w' : World R} {requests : Requests} → Proceeds k answers w s got w' requests → (common_at k w s).active ≡ false → LeavesAll k w w'
      proceeds-leave (at_once {w} {taken} {w'} {w''} {s} {got} t p f) idle =
          let first = taken-both w taken s got t in
          let out = puts_out-both p in
          let rest = finishes-ended f in
          all_of w w'' s (λ n apart. left_on (first.others n apart) (left_on (out.others n apart) (rest.others n apart)))
          (as_it_was (rest.active ∙ sym idle) (rest.pending ∙ out.own.pending ∙ first.own.pending))
      proceeds-leave (kept_waiting {w} {taken} {w'} {s} {got} t p) idle =
          let first = taken-both w taken s got t in
          let out = puts_out-both p in
          all_of w w' s (λ n apart. left_on (first.others n apart) (out.others n apart)) (now_waits idle out.own.0 out.own.1)

      runs-leave : {w : World R} {s : ℕ} {w' : World R} {requests : Requests} → Runs k answers w s w' requests → (common_at k w s).active ≡ false → LeavesAll k w w'
      runs-leave (Runs.to_end {w} {w'} {w''} {s} g f) idle =
          let first = gets-both g in
          let rest = proceeds-leave f (first.own.active ∙ idle) in
          all_of w w'' s (λ n apart. left_on (first.others n apart) (rest n)) (left_on (left_same first.own) (rest s))
      runs-leave (Runs.waits {w} {w'} {s} g) idle =
          let first = gets-both g in
          all_of w w' s first.others (now_waits idle first.own.0 first.own.1)

    -- A record whose device answered later is idle in the end and no longer waits.
    pub resumes-others : {w : World R} {s : ℕ} {x : Finished} {w' : World R} {requests : Requests} → Resumes k answers w s x w' requests
        → (n : ℕ) → n ≢ s → Left (common_at k w n) (common_at k w' n)
    resumes-others (takes_completion {w} {back} {w'} {w''} {s} {x} b p f) n apart =
        let taken = put back s (k.finished (at k back s) x) in
        let out = puts_out-both p in
        let rest = finishes-ended f in
        left_on (left_same (subst (λ (v : World R). Same (common_at k w n) (common_at k v n)) (sym b) (changed-but w s resumed n apart)))
        (left_on (left_same (put-but back s (k.finished (at k back s) x) n apart)) (left_on (out.others n apart) (rest.others n apart)))

    pub resumes-own : {w : World R} {s : ℕ} {x : Finished} {w' : World R} {requests : Requests} → Resumes k answers w s x w' requests
        → ((common_at k w' s).active ≡ false) × ((common_at k w' s).pending ≡ Nothing_)
    unfolding OwnAs Own
    resumes-own (takes_completion {w} {back} {w'} {w''} {s} {x} b p f) =
        let out = puts_out-both p in
        let rest = finishes-ended f in
        let taken : (common_at k (put back s (k.finished (at k back s) x)) s).pending ≡ (common_at k back s).pending =
        ap (λ (r : R). (k.common r).pending) (at-put_same k back s _) ∙ ap (λ (c : Common). c.pending) (lawful.finished_common (at k back s) x) in
        let before : (common_at k back s).pending ≡ Nothing_ = ap (λ (v : World R). (common_at k v s).pending) b ∙ ap (λ (c : Common). c.pending) (common_at-changed k lawful w s resumed) in
        (rest.active, rest.pending ∙ out.own.pending ∙ taken ∙ before)
