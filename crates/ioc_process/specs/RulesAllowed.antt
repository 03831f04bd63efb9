-- The rules allow the result of `request`.
use Rattle.std.proofs.Common.{◌≡◌, ℕ, zero, suc, ◌+◌, ◌<◌, ◌≤◌, Bool, true, false, cond, eqb, nat_lt, List, [], ◌∷◌, Option, Some, None as Nothing_, refl, ap, subst, ◌∙◌, arith}
use Rattle.std.specs.Prelude.{◌≢◌, ◌||◌, length, Result, Ok, Err}
use Rattle.std.proofs.lemmas.Grind.{common_steps}
use Rattle.ioc_dbcommon.specs.declared.link_field.LinkUse.{LinkUse}
use Rattle.ioc_dbcommon.specs.declared.link_field.LinkUse.TheVariants.{Unused, OwnDevice, Absent, Standing}
use Rattle.ioc_dbcommon.specs.declared.link_field.StandingLink.{StandingLink}
use Rattle.ioc_dbcommon.specs.declared.body.Got.{Got}
use Rattle.ioc_dbcommon.specs.declared.body.Got.TheVariants.{Nothing as Got-nothing, Value as Got-value, Fault as Got-fault}
use Rattle.ioc_dbcommon.specs.declared.body.InputKind.{InputKind}
use Rattle.ioc_dbcommon.specs.declared.body.InputKind.TheVariants as input-kind
use Rattle.ioc_dbcommon.specs.Links.{use_of}
use Rattle.ioc_device.specs.declared.Ask.{Ask}
use Rattle.ioc_device.specs.declared.Ask.TheVariants.{Read as Read-ask, Write as Write-ask}
use Rattle.ioc_values.specs.declared.value.Finished.{Finished}
use Rattle.ioc_store.specs.Showing.{showing}
use Rattle.ioc_store.specs.declared.outbox.OutboxItem.TheVariants.{Once}
use Rattle.ioc_store.specs.Marks.{is_put_down, put_down, put_mark_passed, resumed, at_rest, is_disabled}
use Rattle.ioc_dbcommon.specs.declared.body.Want.{Want}
use Rattle.ioc_dbcommon.specs.declared.body.Want.TheVariants.{NoInput, ReadLink, ReadDevice, ReadInputs}
use Rattle.ioc_device.specs.declared.Answer.{Answer}
use Rattle.ioc_device.specs.declared.Answer.TheVariants.{Done as Done-answer, Fault as Fault-answer, Later}
use Rattle.ioc_values.specs.declared.value.Value.{Value}
use Rattle.ioc_values.specs.declared.error.IocError.{IocError}
use Rattle.ioc_record.specs.Values.{read_as, converted_to, put_untested}
use Rattle.ioc_values.specs.declared.input.Input.TheVariants.{Value as InputValue}
use Rattle.ioc_fields.specs.declared.field_no.FieldSlot.{FieldSlot}
use Rattle.ioc_fields.specs.declared.field_no.OwnField.TheVariants.{Letter, Seln}
use Rattle.ioc_dbcommon.specs.declared.body.Output.{Output}
use Rattle.ioc_dbcommon.specs.declared.body.Output.TheVariants.{NoOutput, WriteLink, WriteDevice, FollowLinks, PostEvent}
use Rattle.ioc_dbcommon.specs.Steps.{inherited, unblocked, with_active, is_passive, disabled, disable_kind}
use Rattle.ioc_record.specs.RecordRules.{RecordRules}
use Rattle.ioc_record.specs.Laws.{IsLawful}
use Rattle.ioc_store.specs.World.{World, at, common_at, put, changed, idle, called, sent}
use Rattle.ioc_store.specs.Inputs.{is_fault}
use Rattle.ioc_store.specs.Links.{link_at, input_at, chosen_links, requests_first, requests_after, handed_on}
use Rattle.ioc_ledger.specs.Requests.{None, Request, followed_by}
use Rattle.ioc_ledger.specs.declared.outcome.Outcome.TheVariants.{Disabled, Reprocess}
use Rattle.ioc_process.specs.Processing.{Done, Reading, PutOut, caused, followed, inherits, faulted, value_came, stored_at, wrote, after_writing, write_link, followed_each, finished, finished_if, after_output, acknowledged, write_device, put_out, prepared, read_record, read_link, completed, completed_if, device_gave, received, read_device, can_ask, input, body, turned_away, processed, requested, request, Ran, as_request, ran_after, asked, next_call, judged, begun_idle, ran, resumed_with, read_at, read_each, read_chosen, read_inputs}
use Rattle.ioc_store.specs.Rests.{rested, disable_came}
use Rattle.ioc_process.specs.Rules.{Inherits, from_itself, from_another, Takes, that_converts, that_does_not, Receives, a_value, a_bad_value, a_fault, not_yet, Puts, that_fits, that_does_not_fit, Acknowledges, written, written_badly, not_written_yet, Gives, next, asked_too_often, no_more_numbers, Requested, while_active, while_idle, Causes, meanwhile_active, unused, absent, no_such_device, as_it_stands, after_request, Writes, to_nothing, to_absent, to_no_device, in_vain, alone, and_requests, Follows, to_record, to_scanned, nowhere, FollowsEach, no_more, one_more, PutsOut, nothing, to_link, to_device, to_links, as_event, Gets, no_input, of_device, Finishes, forward, Proceeds, at_once, kept_waiting, Runs, Disables, by_value, not_given, not_read, Rests, for_good, once_more, while_disabled, Asks, for_later, straight_away, Reads, Resumes, takes_completion, of_link, of_inputs, ReadsEach, none_left, one_read}
use Rattle.ioc_store.specs.Worlds.{idle-changed, idle-kept, one_of_two}
use Rattle.ioc_process.specs.Depth.{passed-active, stays-changed, stays_on, stays-read_link, disable_came-stays, kept-stays, FewIdle, room_on, room-shown, shown-active, taken-stays, wrote-stays, stays-followed, outs-put_out, reads-input, request-rule, passed_on-idle}
use Rattle.ioc_process.specs.RulesAlone.{followed_by-none}
use Rattle.ioc_store.specs.Given.{Answers}
use Rattle.ioc_store.specs.Notifying.{passed_on, notified}

module _ {R : Type 0} (k : RecordRules R) where
  inherits-allowed : (w : World R) (s : ℕ) (t : StandingLink) → Inherits k w s t (inherits k w s t)
  unfolding inherits
  inherits-allowed w s t =
      elim (eqb s t.number) as (λ b. eqb s t.number ≡ b → Inherits k w s t (cond b w (changed k w s (inherited t.mode (common_at k w t.number).condition.alarms.status (common_at k w t.number).condition.alarms.severity)))) [
        | true ↦ λ is. from_itself (grind (arith, common_steps))
        | false ↦ λ is. from_another (grind (arith, common_steps))
      ] refl

  taken-allowed : (kind : R → InputKind) (w : World R) (s : ℕ) (t : StandingLink) (value : Result Value IocError) → read_as k (at k w t.number) t.field (kind (at k w s)) ≡ value
      → Takes k kind w s t (value_came k w s t value).world (value_came k w s t value).came
  unfolding value_came faulted
  taken-allowed kind w s t (Ok v) is = that_converts is (inherits-allowed w s t)
  taken-allowed kind w s t (Err e) is = that_does_not is

  takes-allowed : (kind : R → InputKind) (w : World R) (s : ℕ) (t : StandingLink)
      → let read = value_came k w s t (read_as k (at k w t.number) t.field (kind (at k w s))) in Takes k kind w s t read.world read.came
  takes-allowed kind w s t = taken-allowed kind w s t _ refl

  disables-allowed : (w : World R) (s : ℕ) (got : Got) → Disables k w s got (disable_came k w s got)
  unfolding disable_came
  disables-allowed w s (Got-value v) = by_value
  disables-allowed w s Got-nothing = not_given
  disables-allowed w s Got-fault = not_read

  rests-allowed : (w : World R) (s : ℕ) → Rests k w s (rested k w s)
  unfolding rested
  rests-allowed w s =
      elim (common_at k w s).reprocess as (λ b. (common_at k w s).reprocess ≡ b → Rests k w s (cond b (sent (Once s) (changed k (notified k w s) s at_rest)) (changed k (notified k w s) s at_rest))) [
        | true ↦ λ is. once_more is
        | false ↦ λ is. for_good is
      ] refl

  gave-allowed : (w : World R) (s : ℕ) (given : Value) (value : Result Value IocError) → converted_to (k.input_kind (at k w s)) given ≡ value
      → Receives k w s (Done-answer given) (device_gave k w s value).world (device_gave k w s value).came
  unfolding device_gave
  gave-allowed w s given (Ok v) is = a_value is
  gave-allowed w s given (Err e) is = a_bad_value is

  received-allowed : (w : World R) (s : ℕ) (answer : Answer) → Receives k w s answer (received k w s answer).world (received k w s answer).came
  unfolding received
  received-allowed w s (Done-answer v) = gave-allowed w s v _ refl
  received-allowed w s Fault-answer = a_fault
  received-allowed w s Later = not_yet

  stored-allowed : (w : World R) (t : StandingLink) (v : Value) (result : Result R IocError) → put_untested k (at k w t.number) t.field (InputValue v) ≡ result
      → Puts k w t v (stored_at k w t result).world (stored_at k w t result).stored
  unfolding stored_at
  stored-allowed w t v (Ok r) is = that_fits is
  stored-allowed w t v (Err e) is = that_does_not_fit is

  acknowledged-allowed : (w : World R) (s : ℕ) (answer : Answer) → Acknowledges k w s answer (acknowledged k w s answer).world (acknowledged k w s answer).goes_on
  unfolding acknowledged
  acknowledged-allowed w s (Done-answer v) = written
  acknowledged-allowed w s Fault-answer = written_badly
  acknowledged-allowed w s Later = not_written_yet

  acknowledged-none : (w : World R) (s : ℕ) (answer : Answer) → (acknowledged k w s answer).requests ≡ None
  unfolding acknowledged
  acknowledged-none w s (Done-answer v) = refl
  acknowledged-none w s Fault-answer = refl
  acknowledged-none w s Later = refl

  gave-none : (w : World R) (s : ℕ) (value : Result Value IocError) → (device_gave k w s value).requests ≡ None
  unfolding device_gave
  gave-none w s (Ok v) = refl
  gave-none w s (Err e) = refl

  received-none : (w : World R) (s : ℕ) (answer : Answer) → (received k w s answer).requests ≡ None
  unfolding received
  received-none w s (Done-answer v) = gave-none w s _
  received-none w s Fault-answer = refl
  received-none w s Later = refl

ran-is : {R : Type 0} (k : RecordRules R) (answers : Answers) (w : World R) (s : ℕ) → ran k answers w s ≡ requested k answers (request k answers) w s
unfolding ran
ran-is k answers w s = refl

module _ {R : Type 0} (k : RecordRules R) (lawful : IsLawful k) (answers : Answers) where
  abbrev ask : World R → ℕ → Done R
  ask = request k answers

  -- The device of `s` answers a read, with this result.
  abbrev Answers-so : World R → ℕ → Reading R → Type 0
  Answers-so w s reading = Gets k answers w s ReadDevice reading.world reading.came reading.requests

  answered-so : (w mid : World R) (s : ℕ) (answer : Answer) → Gives k answers w s Read-ask mid answer → Answers-so w s (received k mid s answer)
  answered-so w mid s answer g = rw received-none (of_device g (received-allowed k mid s answer))

  not_asked : (w : World R) (s : ℕ) (ask : Ask) → can_ask k w s ≡ false → Gives k answers w s ask w Fault-answer
  not_asked w s ask is =
      elim (nat_lt (length w.calls) 256) as (λ b. nat_lt (length w.calls) 256 ≡ b → Gives k answers w s ask w Fault-answer) [
        | true ↦ λ few. no_more_numbers (grind (arith, common_steps))
        | false ↦ λ many. asked_too_often (grind (arith, common_steps))
      ] refl

  device-allowed : (w : World R) (s : ℕ) → Answers-so w s (read_device k answers w s)
  unfolding read_device
  device-allowed w s =
      let call = next_call k answers w s Read-ask in
      elim (can_ask k w s) as (λ b. can_ask k w s ≡ b → Answers-so w s (cond b (received k (called call w) s call.answer) (received k w s Fault-answer))) [
        | true ↦ λ is. answered-so w (called call w) s _ (next (grind (arith, common_steps)) (grind (arith, common_steps)) refl)
        | false ↦ λ is. answered-so w w s _ (not_asked w s Read-ask is)
      ] refl

  -- The device of `s` answers a write, with this result.
  abbrev Written-so : World R → ℕ → Value → PutOut R → Type 0
  Written-so w s v out = PutsOut k answers w s (WriteDevice v) out.world out.goes_on out.requests

  written-so : (w mid : World R) (s : ℕ) (v : Value) (answer : Answer) → Gives k answers w s (Write-ask v) mid answer → Written-so w s v (acknowledged k mid s answer)
  written-so w mid s v answer g = rw acknowledged-none (to_device g (acknowledged-allowed k mid s answer))

  written-allowed : (w : World R) (s : ℕ) (v : Value) → Written-so w s v (write_device k answers w s v)
  unfolding write_device
  written-allowed w s v =
      let call = next_call k answers w s (Write-ask v) in
      elim (can_ask k w s) as (λ b. can_ask k w s ≡ b → Written-so w s v (cond b (acknowledged k (called call w) s call.answer) (acknowledged k w s Fault-answer))) [
        | true ↦ λ is. written-so w (called call w) s v _ (next (grind (arith, common_steps)) (grind (arith, common_steps)) refl)
        | false ↦ λ is. written-so w w s v _ (not_asked w s (Write-ask v) is)
      ] refl

  -- Record `s` and all idle records together are at most this many.
  abbrev Space : ℕ → World R → ℕ → Type 0
  Space bound w s = idle k w + cond (common_at k w s).active 1 0 ≤ bound

  space_room : (bound : ℕ) (w : World R) (s : ℕ) → Space bound w s → FewIdle k bound w s
  space_room bound w s space = omega (arith, space, one_of_two (common_at k w s).active)

  module _ (bound : ℕ) (asks : (w : World R) (s : ℕ) → idle k w < bound → Requested k answers w s (ask w s).world (ask w s).requests) where
    asked-allowed : (w : World R) (s t : ℕ) → idle k w < bound → Asks k answers w s t (asked k ask w s t).world (asked k ask w s t).requests
    unfolding asked
    asked-allowed w s t few =
        let by_put = (common_at k w s).by_put in
        let level = passed_on-idle k lawful (changed k w t (put_mark_passed by_put)) s t ∙ idle-kept k lawful w t (put_mark_passed by_put) (passed-active by_put _) in
        let now = ask (passed_on k (changed k w t (put_mark_passed by_put)) s t) t in
        elim (is_put_down by_put (common_at k w t)) as (λ b. is_put_down by_put (common_at k w t) ≡ b →
        let done = cond {A = Done R} b (record { world = changed k w t put_down; requests = Request Reprocess None None }) now in
        Asks k answers w s t done.world done.requests) [
          | true ↦ λ is. for_later is
          | false ↦ λ is. straight_away is (asks _ t (omega (arith, level, few)))
        ] refl

    caused-allowed : (w : World R) (s t : ℕ) → FewIdle k bound w s → Causes k answers w s t (caused k ask w s t).world (caused k ask w s t).requests
    unfolding caused
    caused-allowed w s t room = meanwhile_active (asked-allowed (changed k w s (with_active true)) s t (omega (arith, room, idle-changed k lawful w s (with_active true))))

    followed-allowed : (w : World R) (s : ℕ) (link : LinkUse) → FewIdle k bound w s → Follows k answers w s link (followed k ask w s link).world (followed k ask w s link).requests
    unfolding followed
    followed-allowed w s (Standing t) room =
        elim (is_passive (common_at k w t.number)) as (λ b. is_passive (common_at k w t.number) ≡ b →
        let done = cond {A = Done R} b (caused k ask w s t.number) (record { world = w; requests = None }) in
        Follows k answers w s (Standing t) done.world done.requests) [
          | true ↦ λ passive. to_record passive (caused-allowed w s t.number room)
          | false ↦ λ scanned. to_scanned scanned
        ] refl
    followed-allowed w s Unused room = nowhere (λ t is. cc)
    followed-allowed w s OwnDevice room = nowhere (λ t is. cc)
    followed-allowed w s Absent room = nowhere (λ t is. cc)

    read_record-allowed : (kind : R → InputKind) (w : World R) (s : ℕ) (t : StandingLink) → FewIdle k bound w s
        → Reads k answers kind w s (Standing t) (read_record k ask kind w s t).world (read_record k ask kind w s t).came (read_record k ask kind w s t).requests
    unfolding read_record read_at prepared
    read_record-allowed kind w s t room =
        elim (requests_first k w t) as (λ b. requests_first k w t ≡ b →
        let done = cond {A = Done R} b (caused k ask w s t.number) (record { world = w; requests = None }) in
        let read = value_came k done.world s t (read_as k (at k done.world t.number) t.field (kind (at k done.world s))) in
        Reads k answers kind w s (Standing t) read.world read.came done.requests) [
          | true ↦ λ pp. after_request pp (caused-allowed w s t.number room) (takes-allowed k kind _ s t)
          | false ↦ λ plain. as_it_stands plain (takes-allowed k kind w s t)
        ] refl

    read_link-allowed : (kind : R → InputKind) (w : World R) (s : ℕ) (link : LinkUse) → FewIdle k bound w s
        → Reads k answers kind w s link (read_link k ask kind w s link).world (read_link k ask kind w s link).came (read_link k ask kind w s link).requests
    unfolding read_link faulted
    read_link-allowed kind w s (Standing t) room = read_record-allowed kind w s t room
    read_link-allowed kind w s Unused room = unused
    read_link-allowed kind w s OwnDevice room = no_such_device
    read_link-allowed kind w s Absent room = absent

    read_each-allowed : (slots : List FieldSlot) (w : World R) (s : ℕ) (has_fault : Bool) → FewIdle k bound w s
        → let read = read_each k ask w s has_fault slots in ReadsEach k answers w s has_fault slots read.world read.came read.requests
    unfolding read_each
    read_each-allowed [] w s has_fault room = none_left
    read_each-allowed (slot ∷ slots) w s has_fault room =
        let link = input_at k w s slot in
        let read = read_link k ask (λ _. input-kind.Double) w s link in
        let stays = stays_on k (stays-read_link k lawful answers w s (λ _. input-kind.Double) link) (kept-stays k lawful read.world s (Letter slot) read.came) in
        one_read (read_link-allowed (λ _. input-kind.Double) w s link room) (read_each-allowed slots _ s (has_fault || is_fault read.came) (room_on k bound w _ s room stays))

    read_inputs-allowed : (w : World R) (s : ℕ) (link : LinkUse) → FewIdle k bound w s
        → let read = read_inputs k ask w s link in Gets k answers w s (ReadInputs link) read.world (Some read.came) read.requests
    unfolding read_inputs read_chosen
    read_inputs-allowed w s link room =
        let read = read_link k ask k.input_kind w s link in
        let stays = stays_on k (stays-read_link k lawful answers w s k.input_kind link) (kept-stays k lawful read.world s Seln read.came) in
        of_inputs (read_link-allowed k.input_kind w s link room) refl (read_each-allowed _ _ s (is_fault read.came) (room_on k bound w _ s room stays))

    input-allowed : (w : World R) (s : ℕ) (want : Want) → FewIdle k bound w s
        → Gets k answers w s want (input k answers ask w s want).world (input k answers ask w s want).came (input k answers ask w s want).requests
    unfolding input
    input-allowed w s NoInput room = no_input
    input-allowed w s (ReadLink link) room = of_link (read_link-allowed k.input_kind w s link room)
    input-allowed w s ReadDevice room = device-allowed w s
    input-allowed w s (ReadInputs link) room = read_inputs-allowed w s link room

    followed_each-allowed : (slots : List FieldSlot) (w : World R) (s : ℕ) → FewIdle k bound w s → FollowsEach k answers w s slots (followed_each k ask w s slots).world (followed_each k ask w s slots).requests
    unfolding followed_each
    followed_each-allowed [] w s room = no_more
    followed_each-allowed (slot ∷ slots) w s room =
        one_more (followed-allowed w s (link_at k w s slot) room)
        (followed_each-allowed slots _ s (room_on k bound w _ s room (stays-followed k lawful answers w s (link_at k w s slot))))

    after_writing-allowed : (w v : World R) (s : ℕ) (t : StandingLink) (x : Value) (stored : Bool) → Puts k w t x v stored → FewIdle k bound (handed_on k v s t) s
        → let done = after_writing k ask (record { world = handed_on k v s t; stored = stored }) s t in Writes k answers w s (Standing t) x done.world done.requests
    unfolding after_writing faulted
    after_writing-allowed w v s t x false p room = in_vain p
    after_writing-allowed w v s t x true p room =
        let mid = handed_on k v s t in
        elim (requests_after k mid t) as (λ b. requests_after k mid t ≡ b →
        let done = cond {A = Done R} b (caused k ask mid s t.number) (record { world = mid; requests = None }) in
        Writes k answers w s (Standing t) x done.world done.requests) [
          | true ↦ λ some. and_requests p some (caused-allowed mid s t.number room)
          | false ↦ λ none. alone p none
        ] refl

    write_link-allowed : (w : World R) (s : ℕ) (link : LinkUse) (x : Value) → FewIdle k bound w s → Writes k answers w s link x (write_link k ask w s link x).world (write_link k ask w s link x).requests
    unfolding write_link faulted wrote
    write_link-allowed w s (Standing t) x room =
        after_writing-allowed w _ s t x _ (stored-allowed k w t x (put_untested k (at k w t.number) t.field (InputValue x)) refl) (room_on k bound w _ s room (wrote-stays k lawful w s t x))
    write_link-allowed w s Unused x room = to_nothing
    write_link-allowed w s OwnDevice x room = to_no_device
    write_link-allowed w s Absent x room = to_absent

    put_out-allowed : (w : World R) (s : ℕ) (output : Output) → FewIdle k bound w s
        → PutsOut k answers w s output (put_out k answers ask w s output).world (put_out k answers ask w s output).goes_on (put_out k answers ask w s output).requests
    unfolding put_out
    put_out-allowed w s NoOutput room = nothing
    put_out-allowed w s (WriteLink link x) room = to_link (write_link-allowed w s link x room)
    put_out-allowed w s (WriteDevice x) room = written-allowed w s x
    put_out-allowed w s (FollowLinks links) room = to_links (followed_each-allowed (chosen_links links) w s room)
    put_out-allowed w s (PostEvent name) room = as_event

    finished-allowed : (w : World R) (s : ℕ) → Space bound w s → Finishes k answers w s (finished k ask w s).world (finished k ask w s).requests
    unfolding finished
    finished-allowed w s space =
        forward refl (followed-allowed (showing k w s) s _
        (omega (arith, space, room-shown k lawful w s, one_of_two (common_at k w s).active, ap {A = Bool} {B = ℕ} (λ b. cond b 0 1) (shown-active k lawful w s))))
        (rests-allowed k _ s)

    completed-allowed : (w : World R) (s : ℕ) (got : Got) → Space bound w s → Proceeds k answers w s got (completed k answers ask w s got).world (completed k answers ask w s got).requests
    unfolding completed after_output
    completed-allowed w s got space =
        let taken = put w s (k.taken (at k w s) got) in
        let output = k.output (at k w s) got in
        let out = put_out k answers ask taken s output in
        let first = taken-stays k lawful w s got in
        let small : Space bound taken s = omega (arith, space, first.fewer, ap {A = Bool} {B = ℕ} (λ b. cond b 1 0) first.active) in
        let puts = put_out-allowed taken s output (space_room bound taken s small) in
        let leaves = outs-put_out k lawful answers taken s output in
        let puts-as : (b : Bool) → out.goes_on ≡ b → PutsOut k answers taken s output out.world b out.requests =
        λ b is. subst (λ (c : Bool). PutsOut k answers taken s output out.world c out.requests) is puts in
        elim out.goes_on as (λ b. out.goes_on ≡ b → Proceeds k answers w s got (finished_if k ask out.world s b).world (followed_by out.requests (finished_if k ask out.world s b).requests)) [
          | true ↦ λ is. at_once refl (puts-as true is) (finished-allowed out.world s (omega (arith, small, leaves.fewer, ap {A = Bool} {B = ℕ} (λ b. cond b 1 0) (leaves.active is))))
          | false ↦ λ is. rw followed_by-none (kept_waiting refl (puts-as false is))
        ] refl

    body-allowed : (w : World R) (s : ℕ) → (common_at k w s).active ≡ false → idle k w ≤ bound → Runs k answers w s (body k answers ask w s).world (body k answers ask w s).requests
    unfolding body
    body-allowed w s inactive small =
        let want = k.begin (at k w s) in
        let reading = input k answers ask w s want in
        let gets = input-allowed w s want (omega (arith, small, ap {A = Bool} {B = ℕ} (λ b. cond b 0 1) inactive)) in
        let leaves = reads-input k lawful answers w s want in
        let gets-as : (came : Option Got) → reading.came ≡ came → Gets k answers w s want reading.world came reading.requests =
        λ came is. subst (λ (c : Option Got). Gets k answers w s want reading.world c reading.requests) is gets in
        elim reading.came as (λ came. reading.came ≡ came → Runs k answers w s (completed_if k answers ask reading.world s came).world (followed_by reading.requests (completed_if k answers ask reading.world s came).requests)) [
          | Nothing_ ↦ λ is. rw followed_by-none (Runs.waits (gets-as Nothing_ is))
          | Some got ↦ λ is.
              let still = leaves.active got is ∙ inactive in
              Runs.to_end (gets-as (Some got) is) (completed-allowed reading.world s got (omega (arith, leaves.fewer, small, ap {A = Bool} {B = ℕ} (λ b. cond b 1 0) still)))
        ] refl

    -- The rules allow the result of a request of an idle record.
    begun-allowed : (w : World R) (s : ℕ) → (common_at k w s).active ≡ false → idle k w ≤ bound → let done = as_request (begun_idle k answers ask w s) in Requested k answers w s done.world done.requests
    unfolding begun_idle judged ran_after
    begun-allowed w s inactive small =
        let ready = changed k w s unblocked in
        let first = stays-changed k lawful w s unblocked refl in
        let link = use_of (common_at k ready s).disable_link in
        let read = read_link k ask (λ _. disable_kind) ready s link in
        let reads = read_link-allowed (λ _. disable_kind) ready s link (omega (arith, small, first.fewer, ap {A = Bool} {B = ℕ} (λ b. cond b 0 1) (first.active ∙ inactive))) in
        let came = disable_came k read.world s read.came in
        let stays = stays_on k first (stays_on k (stays-read_link k lawful answers ready s (λ _. disable_kind) link) (disable_came-stays k lawful read.world s read.came)) in
        elim (is_disabled (common_at k came s)) as (λ b. is_disabled (common_at k came s) ≡ b →
        let done = cond {A = Ran R} b (record { world = changed k (notified k came s) s disabled; requests = None; outcome = Disabled }) (processed (body k answers ask came s)) in
        Requested k answers w s done.world (Request done.outcome (followed_by read.requests done.requests) None)) [
          | true ↦ λ is. rw followed_by-none (while_disabled inactive refl reads (disables-allowed k read.world s read.came) is)
          | false ↦ λ is. while_idle inactive refl reads (disables-allowed k read.world s read.came) is (body-allowed came s (stays.active ∙ inactive) (omega (arith, stays.fewer, small)))
        ] refl

    requested-allowed : (w : World R) (s : ℕ) → idle k w ≤ bound → let done = as_request (requested k answers ask w s) in Requested k answers w s done.world done.requests
    unfolding requested
    requested-allowed w s small =
        elim (common_at k w s).active as (λ b. (common_at k w s).active ≡ b →
        let done = as_request (cond {A = Ran R} b (turned_away k answers ask w s) (begun_idle k answers ask w s)) in Requested k answers w s done.world done.requests) [
          | true ↦ λ is. while_active is
          | false ↦ λ is. begun-allowed w s is small
        ] refl

  allowed-below : (n : ℕ) (w : World R) (s : ℕ) → idle k w < n → Requested k answers w s (ask w s).world (ask w s).requests
  allowed-below zero w s few = absurd (omega arith)
  allowed-below (suc n) w s few = rw (request-rule k lawful answers w s, ran-is k answers w s) (requested-allowed n (allowed-below n) w s (omega arith))

  pub request-allowed : (w : World R) (s : ℕ) → Requested k answers w s (ask w s).world (ask w s).requests
  request-allowed w s = allowed-below (suc (idle k w)) w s (omega arith)

  -- The rules allow the results of the parts of a request whose inner requests are requests.
  asks-allowed : (bound : ℕ) (w : World R) (s : ℕ) → idle k w < bound → Requested k answers w s (ask w s).world (ask w s).requests
  asks-allowed bound w s few = request-allowed w s

  pub cause-allowed : (w : World R) (s t : ℕ) → Causes k answers w s t (caused k ask w s t).world (caused k ask w s t).requests
  cause-allowed w s t = caused-allowed (idle k w + 2) (asks-allowed _) w s t (omega arith)

  pub follow-allowed : (w : World R) (s : ℕ) (link : LinkUse) → Follows k answers w s link (followed k ask w s link).world (followed k ask w s link).requests
  follow-allowed w s link = followed-allowed (idle k w + 2) (asks-allowed _) w s link (omega arith)

  pub reads-allowed : (kind : R → InputKind) (w : World R) (s : ℕ) (link : LinkUse)
      → Reads k answers kind w s link (read_link k ask kind w s link).world (read_link k ask kind w s link).came (read_link k ask kind w s link).requests
  reads-allowed kind w s link = read_link-allowed (idle k w + 2) (asks-allowed _) kind w s link (omega arith)

  pub gets-allowed : (w : World R) (s : ℕ) (want : Want)
      → Gets k answers w s want (input k answers ask w s want).world (input k answers ask w s want).came (input k answers ask w s want).requests
  gets-allowed w s want = input-allowed (idle k w + 2) (asks-allowed _) w s want (omega arith)

  pub puts_out-allowed : (w : World R) (s : ℕ) (output : Output)
      → PutsOut k answers w s output (put_out k answers ask w s output).world (put_out k answers ask w s output).goes_on (put_out k answers ask w s output).requests
  puts_out-allowed w s output = put_out-allowed (idle k w + 2) (asks-allowed _) w s output (omega arith)

  enough : (w : World R) (s : ℕ) → Space (idle k w + 2) w s
  enough w s = elim (common_at k w s).active as (λ b. idle k w + cond b 1 0 ≤ idle k w + 2) [
    | true ↦ omega arith
    | false ↦ omega arith
  ]

  -- The rules allow a request with its outcome.
  pub ran-allowed : (w : World R) (s : ℕ) → let r = ran k answers w s in Requested k answers w s r.world (Request r.outcome r.requests None)
  ran-allowed w s = subst (λ (d : Done R). Requested k answers w s d.world d.requests) (request-rule k lawful answers w s) (request-allowed w s)

  pub finish-allowed : (w : World R) (s : ℕ) → Finishes k answers w s (finished k ask w s).world (finished k ask w s).requests
  finish-allowed w s = finished-allowed (idle k w + 2) (asks-allowed _) w s (enough w s)

  pub proceed-allowed : (w : World R) (s : ℕ) (got : Got) → Proceeds k answers w s got (completed k answers ask w s got).world (completed k answers ask w s got).requests
  proceed-allowed w s got = completed-allowed (idle k w + 2) (asks-allowed _) w s got (enough w s)

  pub run-allowed : (w : World R) (s : ℕ) → (common_at k w s).active ≡ false → Runs k answers w s (body k answers ask w s).world (body k answers ask w s).requests
  run-allowed w s inactive = body-allowed (idle k w + 2) (asks-allowed _) w s inactive (omega arith)

  -- The body of a record whose device answered later continues now, since it doesn't ask the device
  -- again.
  goes-on : (w : World R) (s : ℕ) (output : Output) → ((v : Value) → output ≢ WriteDevice v) → (put_out k answers ask w s output).goes_on ≡ true
  unfolding put_out
  goes-on w s NoOutput none = refl
  goes-on w s (WriteLink link v) none = refl
  goes-on w s (WriteDevice v) none = absurd (none v refl)
  goes-on w s (FollowLinks links) none = refl
  goes-on w s (PostEvent name) none = refl

  pub takes_completion-allowed : (w : World R) (s : ℕ) (x : Finished) → Resumes k answers w s x (resumed_with k answers w s x).world (resumed_with k answers w s x).requests
  unfolding resumed_with after_output
  takes_completion-allowed w s x =
      let back = changed k w s resumed in
      let taken = put back s (k.finished (at k back s) x) in
      let output = k.last_output (at k back s) x in
      let out = put_out k answers ask taken s output in
      let on = goes-on taken s output (λ v. lawful.last_output_asks_none (at k back s) x v) in
      let puts : PutsOut k answers taken s output out.world true out.requests = subst (λ (b : Bool). PutsOut k answers taken s output out.world b out.requests) on (puts_out-allowed taken s output) in
      rw on (takes_completion refl puts (finish-allowed out.world s))
