-- The rules allow no other result than that of `request`.
use Rattle.std.proofs.Common.{◌≡◌, ◌≢◌, ℕ, Bool, true, false, eqb, List, ◌∷◌, Option, Some, None as Nothing_, refl, sym, ap, ◌∙◌, arith}
use Rattle.std.specs.Prelude.{◌||◌}
use Rattle.std.proofs.lemmas.Grind.{common_steps}
use Rattle.ioc_dbcommon.specs.declared.link_field.LinkUse.{LinkUse}
use Rattle.ioc_dbcommon.specs.declared.link_field.LinkUse.TheVariants.{Unused, OwnDevice, Absent, Standing}
use Rattle.ioc_dbcommon.specs.declared.link_field.StandingLink.{StandingLink}
use Rattle.ioc_dbcommon.specs.declared.body.Got.{Got}
use Rattle.ioc_dbcommon.specs.declared.body.Got.TheVariants.{Value as Got-value}
use Rattle.ioc_dbcommon.specs.declared.body.Want.{Want}
use Rattle.ioc_ledger.specs.declared.outcome.Outcome.TheVariants.{Disabled, Reprocess}
use Rattle.ioc_device.specs.declared.Answer.{Answer}
use Rattle.ioc_dbcommon.specs.Links.{use_of}
use Rattle.ioc_record.specs.Values.{read_as}
use Rattle.ioc_values.specs.declared.value.Value.{Value}
use Rattle.ioc_fields.specs.declared.field_no.FieldSlot.{FieldSlot}
use Rattle.ioc_fields.specs.declared.field_no.OwnField.TheVariants.{Letter, Seln}
use Rattle.ioc_dbcommon.specs.declared.body.Output.{Output}
use Rattle.ioc_dbcommon.specs.Steps.{unblocked, with_active, is_passive, disabled, disable_kind}
use Rattle.ioc_store.specs.Showing.{showing}
use Rattle.ioc_store.specs.Inputs.{is_fault, kept}
use Rattle.ioc_store.specs.Links.{link_at, input_at, chosen_links, requests_first, requests_after, handed_on}
use Rattle.ioc_record.specs.RecordRules.{RecordRules}
use Rattle.ioc_record.specs.Laws.{IsLawful}
use Rattle.ioc_dbcommon.specs.declared.body.InputKind.{InputKind}
use Rattle.ioc_dbcommon.specs.declared.body.InputKind.TheVariants as input-kind
use Rattle.ioc_device.specs.declared.Ask.TheVariants.{Read as Read-ask, Write as Write-ask}
use Rattle.ioc_values.specs.declared.value.Finished.{Finished}
use Rattle.ioc_store.specs.Marks.{is_put_down, put_down, put_mark_passed, is_disabled}
use Rattle.ioc_store.specs.World.{World, at, common_at, put, changed, called}
use Rattle.ioc_ledger.specs.Requests.{Requests, None, Request, followed_by}
use Rattle.ioc_process.specs.Processing.{Done, Came, Reading, Written, PutOut, caused, followed, inherits, faulted, value_came, stored_at, wrote, after_writing, write_link, followed_each, finished, after_output, acknowledged, write_device, put_out, prepared, read_record, read_link, completed, completed_if, device_gave, received, read_device, can_ask, input, body, turned_away, processed, requested, request, Ran, Read, as_request, ran_after, asked, judged, begun_idle, ran, as_input, resumed_with, read_at, read_each, read_chosen, read_inputs}
use Rattle.ioc_store.specs.Rests.{rested, disable_came}
use Rattle.ioc_process.specs.Rules.{Inherits, from_itself, from_another, Takes, that_converts, that_does_not, Receives, a_value, a_bad_value, a_fault, not_yet, Puts, that_fits, that_does_not_fit, Acknowledges, written, written_badly, not_written_yet, Gives, next, asked_too_often, no_more_numbers, Requested, while_active, while_idle, Causes, meanwhile_active, Reads, unused, absent, no_such_device, as_it_stands, after_request, Writes, to_nothing, to_absent, to_no_device, in_vain, alone, and_requests, Follows, to_record, to_scanned, nowhere, FollowsEach, no_more, one_more, PutsOut, nothing, to_link, to_device, to_links, as_event, Gets, no_input, of_device, of_inputs, ReadsEach, none_left, one_read, Finishes, forward, Proceeds, at_once, kept_waiting, Runs, Disables, by_value, not_given, not_read, Rests, for_good, once_more, while_disabled, Asks, for_later, straight_away, Resumes, takes_completion, of_link}
use Rattle.ioc_process.specs.Depth.{request-rule}
use Rattle.ioc_store.specs.Given.{Answers}
use Rattle.ioc_store.specs.Notifying.{passed_on, notified}

pub followed_by-none : (requests : Requests) → followed_by requests None ≡ requests
followed_by-none None = refl
followed_by-none (Request outcome caused later) = ap (Request outcome caused) (followed_by-none later)

true-not-false : true ≡ false → ⊥
true-not-false is = cc

module _ {R : Type 0} (k : RecordRules R) where
  inherits-is : {w : World R} {s : ℕ} {t : StandingLink} {w' : World R} → Inherits k w s t w' → inherits k w s t ≡ w'
  unfolding inherits
  inherits-is (from_itself {w} {s} {t} same) =
      let is : eqb s t.number ≡ true = grind (arith, common_steps) in
      rw is refl
  inherits-is (from_another {w} {s} {t} apart) =
      let is : eqb s t.number ≡ false = grind (arith, common_steps) in
      rw is refl

  takes-is : {kind : R → InputKind} {w : World R} {s : ℕ} {t : StandingLink} {w' : World R} {got : Got} → Takes k kind w s t w' got
      → value_came k w s t (read_as k (at k w t.number) t.field (kind (at k w s))) ≡ record { world = w'; came = got }
  unfolding value_came faulted
  takes-is (that_converts {kind} {w} {w'} {s} {t} {v} is i) = ap (value_came k w s t) is ∙ ap (λ (after : World R). record { world = after; came = Got-value v }) (inherits-is i)
  takes-is (that_does_not {kind} {w} {s} {t} is) = ap (value_came k w s t) is

  disables-is : {w : World R} {s : ℕ} {got : Got} {w' : World R} → Disables k w s got w' → disable_came k w s got ≡ w'
  unfolding disable_came
  disables-is by_value = refl
  disables-is not_given = refl
  disables-is not_read = refl

  rests-is : {w : World R} {s : ℕ} {w' : World R} → Rests k w s w' → rested k w s ≡ w'
  unfolding rested
  rests-is (for_good {w} {s} is) = rw is refl
  rests-is (once_more {w} {s} is) = rw is refl

  received-is : {w : World R} {s : ℕ} {answer : Answer} {w' : World R} {came : Option Got} → Receives k w s answer w' came
      → received k w s answer ≡ record { world = w'; requests = None; came = came }
  unfolding received device_gave
  received-is (a_value {w} {s} is) = ap (device_gave k w s) is
  received-is (a_bad_value {w} {s} is) = ap (device_gave k w s) is
  received-is a_fault = refl
  received-is not_yet = refl

  puts-is : (s : ℕ) {w : World R} {t : StandingLink} {v : Value} {w' : World R} {stored : Bool} → Puts k w t v w' stored → wrote k w s t v ≡ record { world = handed_on k w' s t; stored = stored }
  unfolding wrote stored_at
  puts-is s (that_fits {w} {t} {v} {r} is) = ap (λ tried. record { world = handed_on k (stored_at k w t tried).world s t; stored = (stored_at k w t tried).stored }) is
  puts-is s (that_does_not_fit {w} {t} {v} {e} is) = ap (λ tried. record { world = handed_on k (stored_at k w t tried).world s t; stored = (stored_at k w t tried).stored }) is

  acknowledged-is : {w : World R} {s : ℕ} {answer : Answer} {w' : World R} {goes_on : Bool} → Acknowledges k w s answer w' goes_on
      → acknowledged k w s answer ≡ record { world = w'; requests = None; goes_on = goes_on }
  unfolding acknowledged
  acknowledged-is written = refl
  acknowledged-is written_badly = refl
  acknowledged-is not_written_yet = refl

module _ {R : Type 0} (k : RecordRules R) (lawful : IsLawful k) (answers : Answers) where
  read_device-is : {w : World R} {s : ℕ} {w' : World R} {answer : Answer} → Gives k answers w s Read-ask w' answer → read_device k answers w s ≡ received k w' s answer
  unfolding read_device
  read_device-is (next {w} {s} few small gives) =
      let is : can_ask k w s ≡ true = grind (arith, common_steps) in
      rw is (ap (λ (a : Answer). received k (called (record { target = s; ask = Read-ask; answer = a }) w) s a) (sym gives))
  read_device-is (asked_too_often {w} {s} many) =
      let is : can_ask k w s ≡ false = grind (arith, common_steps) in
      rw is refl
  read_device-is (no_more_numbers {w} {s} many) =
      let is : can_ask k w s ≡ false = grind (arith, common_steps) in
      rw is refl

  write_device-is : {w : World R} {s : ℕ} {v : Value} {w' : World R} {answer : Answer} → Gives k answers w s (Write-ask v) w' answer → write_device k answers w s v ≡ acknowledged k w' s answer
  unfolding write_device
  write_device-is {v = v} (next {w} {s} few small gives) =
      let is : can_ask k w s ≡ true = grind (arith, common_steps) in
      rw is (ap (λ (a : Answer). acknowledged k (called (record { target = s; ask = Write-ask v; answer = a }) w) s a) (sym gives))
  write_device-is (asked_too_often {w} {s} many) =
      let is : can_ask k w s ≡ false = grind (arith, common_steps) in
      rw is refl
  write_device-is (no_more_numbers {w} {s} many) =
      let is : can_ask k w s ≡ false = grind (arith, common_steps) in
      rw is refl

  abbrev ask : World R → ℕ → Done R
  ask = request k answers

  request-active : (w : World R) (s : ℕ) → (common_at k w s).active ≡ true → request k answers w s ≡ as_request (turned_away k answers ask w s)
  unfolding ran requested
  request-active w s is = request-rule k lawful answers w s ∙ rw is refl

  request-idle : (w : World R) (s : ℕ) → (common_at k w s).active ≡ false → request k answers w s ≡ as_request (begun_idle k answers ask w s)
  unfolding ran requested
  request-idle w s is = request-rule k lawful answers w s ∙ rw is refl

  judged-off : (w : World R) (s : ℕ) → is_disabled (common_at k w s) ≡ true → judged k answers ask w s ≡ record { world = changed k (notified k w s) s disabled; requests = None; outcome = Disabled }
  unfolding judged
  judged-off w s is = rw is refl

  judged-on : (w : World R) (s : ℕ) → is_disabled (common_at k w s) ≡ false → judged k answers ask w s ≡ processed (body k answers ask w s)
  unfolding judged
  judged-on w s is = rw is refl

  begun-step : (w ready : World R) (s : ℕ) (read : Read R) (w'' : World R) (left : Ran R) → ready ≡ changed k w s unblocked
      → read_link k ask (λ _. disable_kind) ready s (use_of (common_at k ready s).disable_link) ≡ read → disable_came k read.world s read.came ≡ w''
      → judged k answers ask w'' s ≡ left → begun_idle k answers ask w s ≡ ran_after read.requests left
  unfolding begun_idle
  begun-step w ready s read w'' left r is disables rest =
      rw (← r) (ap (λ (x : Read R). ran_after x.requests (judged k answers ask (disable_came k x.world s x.came) s)) is
      ∙ ap (λ (v : World R). ran_after read.requests (judged k answers ask v s)) disables ∙ ap (ran_after read.requests) rest)

  asked-later : (w : World R) (s t : ℕ) → is_put_down (common_at k w s).by_put (common_at k w t) ≡ true → asked k ask w s t ≡ record { world = changed k w t put_down; requests = Request Reprocess None None }
  unfolding asked
  asked-later w s t is = rw is refl

  asked-now : (w : World R) (s t : ℕ) → is_put_down (common_at k w s).by_put (common_at k w t) ≡ false → asked k ask w s t ≡ request k answers (passed_on k (changed k w t (put_mark_passed (common_at k w s).by_put)) s t) t
  unfolding asked
  asked-now w s t is = rw is refl

  caused-step : (w : World R) (s t : ℕ) (done : Done R) → asked k ask (changed k w s (with_active true)) s t ≡ done
      → caused k ask w s t ≡ record { world = changed k done.world s (with_active (common_at k w s).active); requests = done.requests }
  unfolding caused
  caused-step w s t done is = rw is refl

  read-step : (kind : R → InputKind) (w : World R) (s : ℕ) (t : StandingLink) (done : Done R) (w' : World R) (got : Got) → prepared k ask w s t ≡ done
      → value_came k done.world s t (read_as k (at k done.world t.number) t.field (kind (at k done.world s))) ≡ record { world = w'; came = got }
      → read_link k ask kind w s (Standing t) ≡ record { world = w'; requests = done.requests; came = got }
  unfolding read_link read_record read_at
  read-step kind w s t done w' got is came =
      let read : Done R → Came R = λ d. value_came k d.world s t (read_as k (at k d.world t.number) t.field (kind (at k d.world s))) in
      ap (λ (d : Done R). record { world = (read d).world; requests = d.requests; came = (read d).came }) is
      ∙ ap (λ (c : Came R). record { world = c.world; requests = done.requests; came = c.came }) came

  prepared-plain : (w : World R) (s : ℕ) (t : StandingLink) → requests_first k w t ≡ false → prepared k ask w s t ≡ record { world = w; requests = None }
  unfolding prepared
  prepared-plain w s t is = rw is refl

  prepared-request : (w : World R) (s : ℕ) (t : StandingLink) → requests_first k w t ≡ true → prepared k ask w s t ≡ caused k ask w s t.number
  unfolding prepared
  prepared-request w s t is = rw is refl

  followed-nowhere : (w : World R) (s : ℕ) (link : LinkUse) → ((t : StandingLink) → link ≢ Standing t) → followed k ask w s link ≡ record { world = w; requests = None }
  unfolding followed
  followed-nowhere w s Unused none = refl
  followed-nowhere w s OwnDevice none = refl
  followed-nowhere w s Absent none = refl
  followed-nowhere w s (Standing t) none = absurd (none t refl)

  followed-passive : (w : World R) (s : ℕ) (t : StandingLink) → is_passive (common_at k w t.number) ≡ true → followed k ask w s (Standing t) ≡ caused k ask w s t.number
  unfolding followed
  followed-passive w s t is = rw is refl

  followed-scanned : (w : World R) (s : ℕ) (t : StandingLink) → is_passive (common_at k w t.number) ≡ false → followed k ask w s (Standing t) ≡ record { world = w; requests = None }
  unfolding followed
  followed-scanned w s t is = rw is refl

  each-step : (w : World R) (s : ℕ) (slot : FieldSlot) (slots : List FieldSlot) (first rest : Done R) → followed k ask w s (link_at k w s slot) ≡ first → followed_each k ask first.world s slots ≡ rest
      → followed_each k ask w s (slot ∷ slots) ≡ record { world = rest.world; requests = followed_by first.requests rest.requests }
  unfolding followed_each
  each-step w s slot slots first rest is more = rw (is, more) refl

  read-step-each : (w : World R) (s : ℕ) (has_fault : Bool) (slot : FieldSlot) (slots : List FieldSlot) (first rest : Read R)
      → read_link k ask (λ _. input-kind.Double) w s (input_at k w s slot) ≡ first
      → read_each k ask (kept k first.world s (Letter slot) first.came) s (has_fault || is_fault first.came) slots ≡ rest
      → read_each k ask w s has_fault (slot ∷ slots) ≡ record { world = rest.world; requests = followed_by first.requests rest.requests; came = rest.came }
  unfolding read_each
  read-step-each w s has_fault slot slots first rest is more = rw (is, more) refl

  inputs-step : (w ready : World R) (s : ℕ) (link : LinkUse) (first rest : Read R) → read_link k ask k.input_kind w s link ≡ first → ready ≡ kept k first.world s Seln first.came
      → read_each k ask ready s (is_fault first.came) (chosen_links (k.inputs (at k ready s) first.came)) ≡ rest
      → read_inputs k ask w s link ≡ record { world = rest.world; requests = followed_by first.requests rest.requests; came = rest.came }
  unfolding read_inputs read_chosen
  inputs-step w ready s link first rest is r more = rw (is, ← r, more) refl

  -- A write that isn't stored raises an alarm and requests nothing.
  vain-step : (w : World R) (s : ℕ) (t : StandingLink) → after_writing k ask (record { world = w; stored = false }) s t ≡ record { world = faulted k w s; requests = None }
  unfolding after_writing
  vain-step w s t = refl

  alone-step : (w : World R) (s : ℕ) (t : StandingLink) → requests_after k w t ≡ false → after_writing k ask (record { world = w; stored = true }) s t ≡ record { world = w; requests = None }
  unfolding after_writing
  alone-step w s t is = rw is refl

  requests-step : (w : World R) (s : ℕ) (t : StandingLink) → requests_after k w t ≡ true → after_writing k ask (record { world = w; stored = true }) s t ≡ caused k ask w s t.number
  unfolding after_writing
  requests-step w s t is = rw is refl

  write-step : (w : World R) (s : ℕ) (t : StandingLink) (v : Value) (done : Written R) (left : Done R) → wrote k w s t v ≡ done → after_writing k ask done s t ≡ left → write_link k ask w s (Standing t) v ≡ left
  unfolding write_link
  write-step w s t v done left is rest = ap (λ (d : Written R). after_writing k ask d s t) is ∙ rest

  finished-step : (w : World R) (s : ℕ) (ready : World R) (done : Done R) (w'' : World R) → ready ≡ showing k w s → followed k ask ready s (use_of (common_at k ready s).forward_link) ≡ done
      → rested k done.world s ≡ w'' → finished k ask w s ≡ record { world = w''; requests = done.requests }
  unfolding finished
  finished-step w s ready done w'' r is rests =
      rw (← r) (ap (λ (d : Done R). record { world = rested k d.world s; requests = d.requests }) is ∙ ap (λ (v : World R). record { world = v; requests = done.requests }) rests)

  at_once-step : (s : ℕ) (w : World R) (first : Requests) (rest : Done R) → finished k ask w s ≡ rest
      → after_output k ask s (record { world = w; requests = first; goes_on = true }) ≡ record { world = rest.world; requests = followed_by first rest.requests }
  unfolding after_output
  at_once-step s w first rest is = rw is refl

  later-step : (s : ℕ) (w : World R) (first : Requests) → after_output k ask s (record { world = w; requests = first; goes_on = false }) ≡ record { world = w; requests = first }
  unfolding after_output
  later-step s w first = rw followed_by-none refl

  completed-step : (w : World R) (s : ℕ) (got : Got) (taken : World R) (out : PutOut R) (left : Done R) → taken ≡ put w s (k.taken (at k w s) got)
      → put_out k answers ask taken s (k.output (at k w s) got) ≡ out → after_output k ask s out ≡ left → completed k answers ask w s got ≡ left
  unfolding completed
  completed-step w s got taken out left t is rest = rw (← t, is) rest

  body-step : (w : World R) (s : ℕ) (reading : Reading R) → input k answers ask w s (k.begin (at k w s)) ≡ reading
      → body k answers ask w s ≡ record { world = (completed_if k answers ask reading.world s reading.came).world; requests = followed_by reading.requests (completed_if k answers ask reading.world s reading.came).requests }
  unfolding body
  body-step w s reading is = ap (λ (r : Reading R). record { world = (completed_if k answers ask r.world s r.came).world; requests = followed_by r.requests (completed_if k answers ask r.world s r.came).requests }) is

  body-end : (w mid : World R) (s : ℕ) (got : Got) (first : Requests) (done : Done R) → input k answers ask w s (k.begin (at k w s)) ≡ record { world = mid; requests = first; came = Some got }
      → completed k answers ask mid s got ≡ done → body k answers ask w s ≡ record { world = done.world; requests = followed_by first done.requests }
  body-end w mid s got first done is rest = body-step w s _ is ∙ rw rest refl

  body-waits : (w mid : World R) (s : ℕ) (first : Requests) → input k answers ask w s (k.begin (at k w s)) ≡ record { world = mid; requests = first; came = Nothing_ }
      → body k answers ask w s ≡ record { world = mid; requests = first }
  body-waits w mid s first is = body-step w s _ is ∙ rw followed_by-none refl

  mutual
    unfolding read_link followed input faulted write_link put_out followed_each read_each ran_after

    pub request-is : {w : World R} {s : ℕ} {w' : World R} {requests : Requests} → Requested k answers w s w' requests → request k answers w s ≡ record { world = w'; requests = requests }
    request-is (while_active {w} {s} active) = request-active w s active
    request-is (while_disabled {w} {ready} {w'} {w''} {s} {got} {requests} idle r reads disables off) =
        request-idle w s idle
        ∙ ap (λ (x : Ran R). as_request x) (begun-step w ready s _ w'' _ r (read_link-is reads) (disables-is k disables) (judged-off w'' s off))
        ∙ ap (λ (x : Requests). record { world = changed k (notified k w'' s) s disabled; requests = Request Disabled x None }) (followed_by-none requests)
    request-is (while_idle {w} {ready} {w'} {w''} {after} {s} {got} {first} {rest} idle r reads disables on runs) =
        request-idle w s idle
        ∙ ap (λ (x : Ran R). as_request x) (begun-step w ready s _ w'' _ r (read_link-is reads) (disables-is k disables) (judged-on w'' s on ∙ ap (λ (d : Done R). processed d) (body-is runs)))

    pub asked-is : {w : World R} {s t : ℕ} {w' : World R} {requests : Requests} → Asks k answers w s t w' requests → asked k ask w s t ≡ record { world = w'; requests = requests }
    asked-is (for_later {w} {s} {t} is) = asked-later w s t is
    asked-is (straight_away {w} {w'} {s} {t} is r) = asked-now w s t is ∙ request-is r

    pub caused-is : {w : World R} {s t : ℕ} {w' : World R} {requests : Requests} → Causes k answers w s t w' requests → caused k ask w s t ≡ record { world = w'; requests = requests }
    caused-is (meanwhile_active {w} {w'} {s} {t} r) = caused-step w s t _ (asked-is r)

    pub read_link-is : {kind : R → InputKind} {w : World R} {s : ℕ} {link : LinkUse} {w' : World R} {got : Got} {requests : Requests} → Reads k answers kind w s link w' got requests
        → read_link k ask kind w s link ≡ record { world = w'; requests = requests; came = got }
    read_link-is unused = refl
    read_link-is absent = refl
    read_link-is no_such_device = refl
    read_link-is (as_it_stands {kind} {w} {w'} {s} {t} {got} plain takes) = read-step kind w s t (record { world = w; requests = None }) w' got (prepared-plain w s t plain) (takes-is k takes)
    read_link-is (after_request {kind} {w} {w'} {w''} {s} {t} {got} {requests} pp c takes) =
        read-step kind w s t (record { world = w'; requests = requests }) w'' got (prepared-request w s t pp ∙ caused-is c) (takes-is k takes)

    pub read_each-is : {w : World R} {s : ℕ} {has_fault : Bool} {slots : List FieldSlot} {w' : World R} {came : Got} {requests : Requests} → ReadsEach k answers w s has_fault slots w' came requests
        → read_each k ask w s has_fault slots ≡ record { world = w'; requests = requests; came = came }
    read_each-is none_left = refl
    read_each-is (one_read {w} {w'} {w''} {s} {has_fault} {slot} {slots} {got} {came} {first} {rest} r more) =
        read-step-each w s has_fault slot slots (record { world = w'; requests = first; came = got }) (record { world = w''; requests = rest; came = came }) (read_link-is r) (read_each-is more)

    pub followed-is : {w : World R} {s : ℕ} {link : LinkUse} {w' : World R} {requests : Requests} → Follows k answers w s link w' requests → followed k ask w s link ≡ record { world = w'; requests = requests }
    followed-is (to_record {w} {w'} {s} {t} passive c) = followed-passive w s t passive ∙ caused-is c
    followed-is (to_scanned {w} {s} {t} scanned) = followed-scanned w s t scanned
    followed-is (nowhere {w} {s} {link} none) = followed-nowhere w s link none

    pub write_link-is : {w : World R} {s : ℕ} {link : LinkUse} {v : Value} {w' : World R} {requests : Requests} → Writes k answers w s link v w' requests → write_link k ask w s link v ≡ record { world = w'; requests = requests }
    write_link-is to_nothing = refl
    write_link-is to_absent = refl
    write_link-is to_no_device = refl
    write_link-is (in_vain {w} {w'} {s} {t} {v} p) = write-step w s t v _ _ (puts-is k s p) (vain-step (handed_on k w' s t) s t)
    write_link-is (alone {w} {w'} {s} {t} {v} p none) = write-step w s t v _ _ (puts-is k s p) (alone-step (handed_on k w' s t) s t none)
    write_link-is (and_requests {w} {w'} {w''} {s} {t} {v} p some c) = write-step w s t v _ _ (puts-is k s p) (requests-step (handed_on k w' s t) s t some ∙ caused-is c)

    pub followed_each-is : {w : World R} {s : ℕ} {slots : List FieldSlot} {w' : World R} {requests : Requests} → FollowsEach k answers w s slots w' requests → followed_each k ask w s slots ≡ record { world = w'; requests = requests }
    followed_each-is no_more = refl
    followed_each-is (one_more {w} {w'} {w''} {s} {slot} {slots} {first} {rest} f more) =
        each-step w s slot slots (record { world = w'; requests = first }) (record { world = w''; requests = rest }) (followed-is f) (followed_each-is more)

    pub put_out-is : {w : World R} {s : ℕ} {output : Output} {w' : World R} {goes_on : Bool} {requests : Requests} → PutsOut k answers w s output w' goes_on requests
        → put_out k answers ask w s output ≡ record { world = w'; requests = requests; goes_on = goes_on }
    put_out-is nothing = refl
    put_out-is (to_link x) = ap (λ (d : Done R). record { world = d.world; requests = d.requests; goes_on = true }) (write_link-is x)
    put_out-is (to_device g a) = write_device-is g ∙ acknowledged-is k a
    put_out-is (to_links f) = ap (λ (d : Done R). record { world = d.world; requests = d.requests; goes_on = true }) (followed_each-is f)
    put_out-is as_event = refl

    pub input-is : {w : World R} {s : ℕ} {want : Want} {w' : World R} {came : Option Got} {requests : Requests} → Gets k answers w s want w' came requests
        → input k answers ask w s want ≡ record { world = w'; requests = requests; came = came }
    input-is no_input = refl
    input-is (of_link r) = ap (λ (x : Read R). as_input x) (read_link-is r)
    input-is (of_device g r) = read_device-is g ∙ received-is k r
    input-is (of_inputs {w} {w'} {ready} {w''} {s} {link} {got} {came} {first} {rest} read r more) =
        ap (λ (x : Read R). as_input x)
        (inputs-step w ready s link (record { world = w'; requests = first; came = got }) (record { world = w''; requests = rest; came = came }) (read_link-is read) r (read_each-is more))

    pub finished-is : {w : World R} {s : ℕ} {w' : World R} {requests : Requests} → Finishes k answers w s w' requests → finished k ask w s ≡ record { world = w'; requests = requests }
    finished-is (forward {w} {ready} {w'} {w''} {s} r f rests) = finished-step w s ready _ w'' r (followed-is f) (rests-is k rests)

    pub completed-is : {w : World R} {s : ℕ} {got : Got} {w' : World R} {requests : Requests} → Proceeds k answers w s got w' requests → completed k answers ask w s got ≡ record { world = w'; requests = requests }
    completed-is (at_once {w} {taken} {w'} {w''} {s} {got} {first} t p f) = completed-step w s got taken _ _ t (put_out-is p) (at_once-step s w' first _ (finished-is f))
    completed-is (kept_waiting {w} {taken} {w'} {s} {got} {first} t p) = completed-step w s got taken _ _ t (put_out-is p) (later-step s w' first)

    pub body-is : {w : World R} {s : ℕ} {w' : World R} {requests : Requests} → Runs k answers w s w' requests → body k answers ask w s ≡ record { world = w'; requests = requests }
    body-is (Runs.to_end {w} {w'} {w''} {s} {got} {first} g f) = body-end w w' s got first _ (input-is g) (completed-is f)
    body-is (Runs.waits {w} {w'} {s} {requests} g) = body-waits w w' s requests (input-is g)

  -- The rules allow no other result for a record whose device answered later.
  pub takes_completion-is : {w : World R} {s : ℕ} {x : Finished} {w' : World R} {requests : Requests} → Resumes k answers w s x w' requests → resumed_with k answers w s x ≡ record { world = w'; requests = requests }
  unfolding resumed_with
  takes_completion-is (takes_completion {w} {back} {w'} {w''} {s} {x} {first} {rest} b p f) =
      rw (← b) (ap (after_output k ask s) (put_out-is p) ∙ at_once-step s w' first (record { world = w''; requests = rest }) (finished-is f))
