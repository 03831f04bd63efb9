-- Two worlds in which the same requests are made: a relation between them is kept.
use Rattle.std.proofs.Common.{◌≡◌, ℕ, zero, suc, ◌+◌, Bool, true, false, cond, eqb, List, [], ◌∷◌, length, Option, Some, None as Nothing_, refl, ap, subst, ◌∙◌, arith}
use Rattle.std.specs.Prelude.{Result, Ok, Err, Contains, nat_lt, ◌&&◌, ◌||◌, ◌-◌, ◌^◌, nat_eq}
use Rattle.ioc_dbcommon.specs.declared.common.Common.{Common}
use Rattle.ioc_dbcommon.specs.declared.link_field.LinkUse.{LinkUse}
use Rattle.ioc_dbcommon.specs.declared.link_field.LinkUse.TheVariants.{Unused, OwnDevice, Absent, Standing}
use Rattle.ioc_dbcommon.specs.declared.link_field.StandingLink.{StandingLink}
use Rattle.ioc_dbcommon.specs.declared.body.Got.{Got}
use Rattle.ioc_dbcommon.specs.declared.body.Want.{Want}
use Rattle.ioc_dbcommon.specs.declared.body.Want.TheVariants.{NoInput, ReadLink, ReadDevice, ReadInputs}
use Rattle.ioc_dbcommon.specs.declared.body.Output.{Output}
use Rattle.ioc_dbcommon.specs.declared.body.Output.TheVariants.{NoOutput, WriteLink, WriteDevice, FollowLinks, PostEvent}
use Rattle.ioc_fields.specs.declared.field_no.FieldNo.{FieldNo}
use Rattle.ioc_fields.specs.declared.field_no.FieldNo.TheVariants.{Own}
use Rattle.ioc_fields.specs.declared.field_no.OwnField.TheVariants.{Lnk, Letter, InputLink, Seln}
use Rattle.ioc_fields.specs.declared.field_no.OwnField.{OwnField}
use Rattle.ioc_fields.specs.declared.field_no.FieldSlot.{FieldSlot}
use Rattle.ioc_values.specs.declared.input.Input.{Input}
use Rattle.ioc_values.specs.declared.input.Input.TheVariants.{Value as InputValue}
use Rattle.ioc_device.specs.declared.Answer.{Answer}
use Rattle.ioc_device.specs.declared.Answer.TheVariants.{Done as Done-answer, Fault as Fault-answer, Later}
use Rattle.ioc_ledger.specs.declared.outcome.Outcome.{Outcome}
use Rattle.ioc_ledger.specs.declared.outcome.Outcome.TheVariants.{Disabled, Reprocess}
use Rattle.ioc_values.specs.declared.value.Value.{Value}
use Rattle.ioc_values.specs.declared.error.IocError.{IocError}
use Rattle.ioc_dbcommon.specs.Links.{use_of}
use Rattle.ioc_record.specs.Values.{read_as, converted_to, put_untested, converted_for}
use Rattle.ioc_dbcommon.specs.Steps.{inherited, blocked, unblocked, with_active, is_passive, with_put_mark, with_reprocess_mark, disabled, disable_kind, change_numbered, with_notification}
use Rattle.ioc_record.specs.RecordRules.{RecordRules, targets}
use Rattle.ioc_record.specs.Laws.{IsLawful}
use Rattle.ioc_store.specs.Showing.{showing, shown_record, shown-common}
use Rattle.ioc_store.specs.declared.outbox.OutboxItem.{OutboxItem}
use Rattle.ioc_store.specs.declared.outbox.OutboxItem.TheVariants.{Once, Post, Change}
use Rattle.ioc_store.specs.World.{World, at, common_at, put, changed, idle, called, sent, lost, taken_on, let_go}
use Rattle.ioc_store.specs.Marks.{is_put_down, put_down, put_mark_passed, resumed, at_rest, with_disable_input, is_disabled}
use Rattle.ioc_store.specs.declared.call.Call.{Call}
use Rattle.ioc_device.specs.declared.Ask.{Ask}
use Rattle.ioc_device.specs.declared.Ask.TheVariants.{Read as Read-ask, Write as Write-ask}
use Rattle.ioc_values.specs.declared.value.Finished.{Finished}
use Rattle.ioc_dbcommon.specs.declared.body.InputKind.{InputKind}
use Rattle.ioc_dbcommon.specs.declared.body.InputKind.TheVariants as input-kind
use Rattle.ioc_dbcommon.specs.declared.body.Got.TheVariants.{Nothing as Got-nothing, Value as Got-value, Fault as Got-fault}
use Rattle.ioc_store.specs.Inputs.{is_fault, kept}
use Rattle.ioc_store.specs.Links.{link_at, input_at, use_of_field, chosen_links, is_proc, requests_first, requests_after, handed_on}
use Rattle.ioc_ledger.specs.Requests.{Requests, None, Request, followed_by}
use Rattle.ioc_process.specs.Processing.{Done, Ran, Read, Came, Reading, Written, PutOut, as_request, ran_after, processed, asked, next_call, judged, begun_idle, ran, resumed_with, caused, followed, inherits, value_came, stored_at, wrote, after_writing, write_link, followed_each, finished, finished_if, after_output, acknowledged, write_device, put_out, prepared, read_record, faulted, read_link, completed, completed_if, device_gave, received, read_device, can_ask, input, body, turned_away, requested, nested, request, read_at, read_each, read_chosen, read_inputs}
use Rattle.ioc_store.specs.Rests.{rested, disable_came}
use Rattle.ioc_store.specs.StepFrames.{OwnLinks, blocked-frame, stored_with}
use Rattle.ioc_store.specs.Named.{link_named}
use Rattle.ioc_process.specs.Depth.{request-nested}
use Rattle.ioc_store.specs.Given.{Answers}
use Rattle.ioc_store.specs.Scanning.{places_record, device_of, moved, rescanned, rewired}
use Rattle.std.specs.Cmp.Lexicographic.{pointwise}
use Rattle.ioc_store.specs.Notifying.{taken_over, holding, passed_on, notified_as, notified}

both_followed : {a b c d : Requests} → a ≡ b → c ≡ d → followed_by a c ≡ followed_by b d
both_followed {a} {b} {c} {d} one two = ap (λ (x : Requests). followed_by x c) one ∙ ap (followed_by b) two

-- Holds if the links and the put with notification are unchanged.
abbrev pub OwnAlone : Common → Common → Type 0
OwnAlone before after = (after.disable_link ≡ before.disable_link) × (after.forward_link ≡ before.forward_link) × (after.notification ≡ before.notification)

-- Passing PUTF keeps the links and the put with notification.
passed-alone : (by_put : Bool) (c : Common) → OwnAlone c (put_mark_passed by_put c)
unfolding put_mark_passed
passed-alone by_put c = elim c.active as (λ b. OwnAlone c (cond b c (with_put_mark by_put c))) [
  | true ↦ (refl, refl, refl)
  | false ↦ (refl, refl, refl)
]

disabled-alone : (c : Common) → OwnAlone c (disabled c)
unfolding disabled
disabled-alone c = (refl, refl, refl)

pub passed-links : (by_put : Bool) (c : Common) → OwnLinks c (put_mark_passed by_put c)
passed-links by_put c = let alone = passed-alone by_put c in (alone.0, alone.1)

pub disabled-links : (c : Common) → OwnLinks c (disabled c)
disabled-links c = let alone = disabled-alone c in (alone.0, alone.1)

blocked-alone : (c : Common) → OwnAlone c (blocked c)
blocked-alone c = let f = blocked-frame c in (f.links.0, f.links.1, f.notification)

put_down-alone : (c : Common) → OwnAlone c (put_down c)
put_down-alone c = let f = blocked-frame (with_reprocess_mark true c) in (f.links.0, f.links.1, f.notification)

-- The conditions on a relation between two worlds: the records that may be used are the same and
-- good in both; the links of a good record name such records; a good record stays good; and the
-- relation is kept by each step that changes a world, such as putting a record with its put with
-- notification unchanged, or joining or leaving a put with notification together with the count of
-- its records.
pub record Guards {R : Type 0} (k : RecordRules R) (May : ℕ → Type 0) (Good : ℕ → R → Type 0) (Inv : World R → World R → Type 0) : Type 0 where
  pub same : {w v : World R} → Inv w v → (n : ℕ) → May n → at k w n ≡ at k v n
  pub good : {w v : World R} → Inv w v → (n : ℕ) → May n → Good n (at k w n)
  pub calls : {w v : World R} → Inv w v → w.calls ≡ v.calls
  pub moment : {w v : World R} → Inv w v → w.moment ≡ v.moment
  pub link : {n : ℕ} {r : R} → Good n r → (target : ℕ) → Contains (targets k r) target → May target
  pub common : {n : ℕ} {r : R} → Good n r → (c : Common) → OwnLinks (k.common r) c → Good n (k.with_common r c)
  pub taken : {n : ℕ} {r : R} → Good n r → (got : Got) → Good n (k.taken r got)
  pub posted : {n : ℕ} {r : R} → Good n r → (changed : Bool) → Good n (k.posted r changed)
  pub finished : {n : ℕ} {r : R} → Good n r → (x : Finished) → Good n (k.finished r x)
  pub stored : {n : ℕ} {r : R} → Good n r → (f : FieldNo) (v : Value) → Good n (k.stored r f v)
  pub put : {w v : World R} → Inv w v → (n : ℕ) → May n → (r : R) → Good n r → (k.common r).notification ≡ (common_at k w n).notification → Inv (put w n r) (put v n r)
  pub call : {w v : World R} → Inv w v → (one : Call) → Inv (called one w) (called one v)
  pub send : {w v : World R} → Inv w v → (item : OutboxItem) → Inv (sent item w) (sent item v)
  pub lose : {w v : World R} → Inv w v → Inv (lost w) (lost v)
  pub pass : {w v : World R} → Inv w v → (s : ℕ) → May s → (t : ℕ) → May t → Inv (passed_on k w s t) (passed_on k v s t)
  pub tell : {w v : World R} → Inv w v → (s : ℕ) → May s → Inv (notified k w s) (notified k v s)

-- The conditions on a relation that doesn't depend on puts with notification: it is kept by each
-- change of one, and of the count of its records.
pub record HolderGuards {R : Type 0} (k : RecordRules R) (May : ℕ → Type 0) (Inv : World R → World R → Type 0) : Type 0 where
  pub same : {w v : World R} → Inv w v → (n : ℕ) → May n → at k w n ≡ at k v n
  pub hold : {w v : World R} → Inv w v → (n : ℕ) → May n → (held : Option ℕ) → Inv (changed k w n (with_notification held)) (changed k v n (with_notification held))
  pub take_on : {w v : World R} → Inv w v → (number : ℕ) → Inv (taken_on number w) (taken_on number v)
  pub lets_go : {w v : World R} → Inv w v → (number : ℕ) → Inv (let_go number w) (let_go number v)

module _ {R : Type 0} (k : RecordRules R) (May : ℕ → Type 0) (Inv : World R → World R → Type 0) (g : HolderGuards k May Inv) where
  holding-goes : {w v : World R} → Inv w v → (t : ℕ) → May t → (held : Option ℕ) → Inv (holding k w t held) (holding k v t held)
  unfolding holding
  holding-goes inv t may Nothing_ = inv
  holding-goes inv t may (Some number) = g.take_on (g.hold inv t may (Some number)) number

  -- Passing a put with notification from record to record, and ending it, keep the relation.
  pub pass-goes : {w v : World R} → Inv w v → (s : ℕ) → May s → (t : ℕ) → May t → Inv (passed_on k w s t) (passed_on k v s t)
  unfolding passed_on
  pass-goes {w} {v} inv s may t there =
      subst (λ (r : R). Inv (holding k w t (taken_over (common_at k w s) (common_at k w t))) (holding k v t (taken_over (k.common r) (common_at k v t)))) (g.same inv s may)
      (subst (λ (r : R). Inv (holding k w t (taken_over (common_at k w s) (common_at k w t))) (holding k v t (taken_over (common_at k w s) (k.common r)))) (g.same inv t there)
      (holding-goes inv t there (taken_over (common_at k w s) (common_at k w t))))

  notified_as-goes : {w v : World R} → Inv w v → (s : ℕ) → May s → (held : Option ℕ) → Inv (notified_as k w s held) (notified_as k v s held)
  unfolding notified_as
  notified_as-goes inv s may Nothing_ = inv
  notified_as-goes inv s may (Some number) = g.lets_go (g.hold inv s may Nothing_) number

  pub tell-goes : {w v : World R} → Inv w v → (s : ℕ) → May s → Inv (notified k w s) (notified k v s)
  unfolding notified
  tell-goes {w} {v} inv s may =
      subst (λ (r : R). Inv (notified_as k w s (common_at k w s).notification) (notified_as k v s (k.common r).notification)) (g.same inv s may)
      (notified_as-goes inv s may (common_at k w s).notification)

pub record Goes {R : Type 0} (Inv : World R → World R → Type 0) (done other : Done R) : Type 0 where
  pub inv : Inv done.world other.world
  pub requests : done.requests ≡ other.requests

pub record GoesRead {R : Type 0} (Inv : World R → World R → Type 0) (done other : Reading R) : Type 0 where
  pub inv : Inv done.world other.world
  pub requests : done.requests ≡ other.requests
  pub came : done.came ≡ other.came

pub record GoesThrough {R : Type 0} (Inv : World R → World R → Type 0) (read other : Read R) : Type 0 where
  pub inv : Inv read.world other.world
  pub requests : read.requests ≡ other.requests
  pub came : read.came ≡ other.came

pub record GoesRan {R : Type 0} (Inv : World R → World R → Type 0) (ran other : Ran R) : Type 0 where
  pub inv : Inv ran.world other.world
  pub requests : ran.requests ≡ other.requests
  pub outcome : ran.outcome ≡ other.outcome

pub record GoesCame {R : Type 0} (Inv : World R → World R → Type 0) (read other : Came R) : Type 0 where
  pub inv : Inv read.world other.world
  pub came : read.came ≡ other.came

pub record GoesWritten {R : Type 0} (Inv : World R → World R → Type 0) (done other : Written R) : Type 0 where
  pub inv : Inv done.world other.world
  pub stored : done.stored ≡ other.stored

pub record GoesOut {R : Type 0} (Inv : World R → World R → Type 0) (out other : PutOut R) : Type 0 where
  pub inv : Inv out.world other.world
  pub requests : out.requests ≡ other.requests
  pub goes_on : out.goes_on ≡ other.goes_on

module _ {R : Type 0} (k : RecordRules R) (lawful : IsLawful k) (May : ℕ → Type 0) (Good : ℕ → R → Type 0) (Inv : World R → World R → Type 0) (g : Guards k May Good Inv) where
  pub changed-goes : {w v : World R} → Inv w v → (s : ℕ) → May s → (f : Common → Common) → ((c : Common) → OwnAlone c (f c))
      → Inv (changed k w s f) (changed k v s f)
  unfolding changed
  changed-goes {w} {v} inv s may f same =
      let alone = same (common_at k w s) in
      subst (λ (r : R). Inv (put w s (k.with_common (at k w s) (f (common_at k w s)))) (put v s (k.with_common r (f (k.common r)))))
      (g.same inv s may) (g.put inv s may _ (g.common (g.good inv s may) _ (alone.0, alone.1)) (ap (λ (c : Common). c.notification) (lawful.common_set _ _) ∙ alone.2))

  taken-goes : {w v : World R} → Inv w v → (s : ℕ) → May s → (got : Got) → Inv (put w s (k.taken (at k w s) got)) (put v s (k.taken (at k v s) got))
  taken-goes {w} {v} inv s may got =
      subst (λ (r : R). Inv (put w s (k.taken (at k w s) got)) (put v s (k.taken r got))) (g.same inv s may)
      (g.put inv s may _ (g.taken (g.good inv s may) got) (ap (λ (c : Common). c.notification) (lawful.taken_common (at k w s) got)))

  pub inherits-goes : {w v : World R} → Inv w v → (s : ℕ) → May s → (t : StandingLink) → May t.number → Inv (inherits k w s t) (inherits k v s t)
  unfolding inherits
  inherits-goes {w} {v} inv s may t there =
      elim (eqb s t.number) as (λ b. Inv
      (cond b w (changed k w s (inherited t.mode (common_at k w t.number).condition.alarms.status (common_at k w t.number).condition.alarms.severity)))
      (cond b v (changed k v s (inherited t.mode (common_at k v t.number).condition.alarms.status (common_at k v t.number).condition.alarms.severity)))) [
        | true ↦ inv
        | false ↦ subst (λ (r : R). Inv (changed k w s (inherited t.mode (common_at k w t.number).condition.alarms.status (common_at k w t.number).condition.alarms.severity))
            (changed k v s (inherited t.mode (k.common r).condition.alarms.status (k.common r).condition.alarms.severity)))
            (g.same inv t.number there)
            (changed-goes inv s may _ (λ c. (refl, refl, refl)))
      ]

  device_gave-goes : {w v : World R} → Inv w v → (s : ℕ) → May s → (value : Result Value IocError) → GoesRead Inv (device_gave k w s value) (device_gave k v s value)
  unfolding device_gave
  device_gave-goes inv s may (Ok x) = record { inv = inv; requests = refl; came = refl }
  device_gave-goes inv s may (Err e) = record { inv = changed-goes inv s may _ (λ c. (refl, refl, refl)); requests = refl; came = refl }

  faulted-goes : {w v : World R} → Inv w v → (s : ℕ) → May s → Inv (faulted k w s) (faulted k v s)
  unfolding faulted
  faulted-goes inv s may = changed-goes inv s may _ (λ c. (refl, refl, refl))

  pub value_came-goes : {w v : World R} → Inv w v → (s : ℕ) → May s → (t : StandingLink) → May t.number → (value : Result Value IocError)
      → GoesCame Inv (value_came k w s t value) (value_came k v s t value)
  unfolding value_came
  value_came-goes inv s may t there (Ok x) = record { inv = inherits-goes inv s may t there; came = refl }
  value_came-goes inv s may t there (Err e) = record { inv = faulted-goes inv s may; came = refl }

  pub received-goes : {w v : World R} → Inv w v → (s : ℕ) → May s → (answer : Answer) → GoesRead Inv (received k w s answer) (received k v s answer)
  unfolding received
  received-goes {w} {v} inv s may (Done-answer x) =
      subst (λ (r : R). GoesRead Inv (device_gave k w s (converted_to (k.input_kind (at k w s)) x)) (device_gave k v s (converted_to (k.input_kind r) x))) (g.same inv s may) (device_gave-goes inv s may _)
  received-goes inv s may Fault-answer = record { inv = changed-goes inv s may _ (λ c. (refl, refl, refl)); requests = refl; came = refl }
  received-goes inv s may Later = record { inv = changed-goes inv s may _ (λ _. (refl, refl, refl)); requests = refl; came = refl }

  can-same : {w v : World R} → Inv w v → (s : ℕ) → May s → can_ask k w s ≡ can_ask k v s
  can-same {w} {v} inv s may =
      ap (λ (calls : List Call). nat_lt (length calls) 256 && nat_lt (common_at k w s).last_pending (2 ^ 64 - 1)) (g.calls inv)
      ∙ ap (λ (r : R). nat_lt (length v.calls) 256 && nat_lt (k.common r).last_pending (2 ^ 64 - 1)) (g.same inv s may)

  next-same : (answers : Answers) {w v : World R} → Inv w v → (s : ℕ) (ask : Ask) → next_call k answers w s ask ≡ next_call k answers v s ask
  next-same answers inv s ask = ap (λ (calls : List Call). record { target = s; ask = ask; answer = answers calls s ask }) (g.calls inv)

  pub read_device-goes : (answers : Answers) {w v : World R} → Inv w v → (s : ℕ) → May s → GoesRead Inv (read_device k answers w s) (read_device k answers v s)
  unfolding read_device
  read_device-goes answers {w} {v} inv s may =
      let call = next_call k answers w s Read-ask in
      subst (λ (c : Call). GoesRead Inv (read_device k answers w s) (cond (can_ask k v s) (received k (called c v) s c.answer) (received k v s Fault-answer))) (next-same answers inv s Read-ask)
      (subst (λ (b : Bool). GoesRead Inv (read_device k answers w s) (cond b (received k (called call v) s call.answer) (received k v s Fault-answer)))
      (can-same inv s may)
      (elim (can_ask k w s) as (λ b. GoesRead Inv
      (cond b (received k (called call w) s call.answer) (received k w s Fault-answer))
      (cond b (received k (called call v) s call.answer) (received k v s Fault-answer))) [
        | true ↦ received-goes (g.call inv call) s may call.answer
        | false ↦ received-goes inv s may Fault-answer
      ]))

  first-same : {w v : World R} → Inv w v → (t : StandingLink) → May t.number → requests_first k w t ≡ requests_first k v t
  first-same inv t there = ap (λ (r : R). t.process_passive && is_passive (k.common r)) (g.same inv t.number there)

  after-same : {w v : World R} → Inv w v → (t : StandingLink) → May t.number → requests_after k w t ≡ requests_after k v t
  after-same inv t there = ap (λ (b : Bool). is_proc t.field || b) (first-same inv t there)

  pub handed-goes : {w v : World R} → Inv w v → (s : ℕ) → May s → (t : StandingLink) → May t.number → Inv (handed_on k w s t) (handed_on k v s t)
  unfolding handed_on
  handed-goes {w} {v} inv s may t there =
      subst (λ (r : R). Inv (handed_on k w s t) (changed k v t.number (inherited t.mode (k.common r).condition.alarms.new_status (k.common r).condition.alarms.new_severity)))
      (g.same inv s may) (changed-goes inv t.number there _ (λ c. (refl, refl, refl)))

  -- Moving a record to another scan list keeps the relation.
  pub moved-goes : {w v : World R} → Inv w v → (n : ℕ) → May n → Inv (moved k w n) (moved k v n)
  unfolding moved
  moved-goes {w} {v} inv n may =
      let change : World R → R → World R = λ u r.
      cond (nat_lt (k.common r).last_change (2 ^ 64 - 1))
      (sent (Change (record { target = n; number = (k.common r).last_change + 1; scanning = (k.common r).scanning; device = device_of k r })) (changed k u n change_numbered)) (lost u) in
      subst (λ (r : R). Inv (moved k w n) (change v r)) (g.same inv n may)
      (elim (nat_lt (common_at k w n).last_change (2 ^ 64 - 1)) as (λ b.
      let item = Change (record { target = n; number = (common_at k w n).last_change + 1; scanning = (common_at k w n).scanning; device = device_of k (at k w n) }) in
      Inv (cond b (sent item (changed k w n change_numbered)) (lost w)) (cond b (sent item (changed k v n change_numbered)) (lost v))) [
        | true ↦ g.send (changed-goes inv n may change_numbered (λ c. (refl, refl, refl))) _
        | false ↦ g.lose inv
      ])

  pub rescanned-goes : {w v : World R} → Inv w v → (n : ℕ) → May n → (field : FieldNo) → Inv (rescanned k w n field) (rescanned k v n field)
  unfolding rescanned
  rescanned-goes {w} {v} inv n may field = elim (places_record field) as (λ b. Inv (cond b (moved k w n) w) (cond b (moved k v n) v)) [
    | true ↦ moved-goes inv n may
    | false ↦ inv
  ]

  pub rewired-goes : {w v : World R} → Inv w v → (before : List ℕ) (n : ℕ) → May n → Inv (rewired k before w n) (rewired k before v n)
  unfolding rewired
  rewired-goes {w} {v} inv before n may =
      subst (λ (r : R). Inv (rewired k before w n) (cond (pointwise nat_eq before (device_of k r)) v (moved k v n))) (g.same inv n may)
      (elim (pointwise nat_eq before (device_of k (at k w n))) as (λ b. Inv (cond b w (moved k w n)) (cond b v (moved k v n))) [
        | true ↦ inv
        | false ↦ moved-goes inv n may
      ])

  stored-goes : {w v : World R} → Inv w v → (t : StandingLink) → May t.number → (result : Result R IocError) → ((r : R) → result ≡ Ok r → Good t.number r)
      → ((r : R) → result ≡ Ok r → (k.common r).notification ≡ (common_at k w t.number).notification) → GoesWritten Inv (stored_at k w t result) (stored_at k v t result)
  unfolding stored_at
  stored-goes inv t there (Ok r) good kept = record { inv = rescanned-goes (g.put inv t.number there r (good r refl) (kept r refl)) t.number there t.field; stored = refl }
  stored-goes inv t there (Err e) good kept = record { inv = inv; stored = refl }

  untested-kept : (r0 : R) (field : FieldNo) (given : Input) (r : R) → put_untested k r0 field given ≡ Ok r → (k.common r).notification ≡ (k.common r0).notification
  unfolding put_untested
  untested-kept r0 field given r is =
      let with = stored_with k r0 r field (converted_for k r0 field given) is in
      subst (λ (x : R). (k.common x).notification ≡ (k.common r0).notification) with.1 (ap (λ (c : Common). c.notification) (lawful.stored_common r0 field with.0))

  untested-good : {w v : World R} → Inv w v → (t : StandingLink) → May t.number → (given : Input) (r : R) → put_untested k (at k w t.number) t.field given ≡ Ok r → Good t.number r
  unfolding put_untested
  untested-good {w} inv t there given r is =
      let with = stored_with k (at k w t.number) r t.field (converted_for k (at k w t.number) t.field given) is in
      subst (Good t.number) with.1 (g.stored (g.good inv t.number there) t.field with.0)

  pub wrote-goes : {w v : World R} → Inv w v → (s : ℕ) → May s → (t : StandingLink) → May t.number → (x : Value) → GoesWritten Inv (wrote k w s t x) (wrote k v s t x)
  unfolding wrote
  wrote-goes {w} {v} inv s may t there x =
      let tried = λ (r : R). put_untested k r t.field (InputValue x) in
      let first = subst (λ (r : R). GoesWritten Inv (stored_at k w t (tried (at k w t.number))) (stored_at k v t (tried r))) (g.same inv t.number there)
      (stored-goes inv t there (tried (at k w t.number)) (untested-good inv t there (InputValue x)) (untested-kept (at k w t.number) t.field (InputValue x))) in
      record { inv = handed-goes first.inv s may t there; stored = first.stored }

  -- Keeping what was read in a field of the record keeps the relation.
  kept-goes : {w v : World R} → Inv w v → (s : ℕ) → May s → (f : OwnField) (got : Got) → Inv (kept k w s f got) (kept k v s f got)
  unfolding kept
  kept-goes {w} {v} inv s may f (Got-value x) =
      subst (λ (r : R). Inv (put w s (k.stored (at k w s) (Own f) x)) (put v s (k.stored r (Own f) x))) (g.same inv s may)
      (g.put inv s may _ (g.stored (g.good inv s may) (Own f) x) (ap (λ (c : Common). c.notification) (lawful.stored_common (at k w s) (Own f) x)))
  kept-goes inv s may f Got-nothing = inv
  kept-goes inv s may f Got-fault = inv

  acknowledged-goes : {w v : World R} → Inv w v → (s : ℕ) → May s → (answer : Answer) → GoesOut Inv (acknowledged k w s answer) (acknowledged k v s answer)
  unfolding acknowledged
  acknowledged-goes inv s may (Done-answer x) = record { inv = inv; requests = refl; goes_on = refl }
  acknowledged-goes inv s may Fault-answer = record { inv = changed-goes inv s may _ (λ c. (refl, refl, refl)); requests = refl; goes_on = refl }
  acknowledged-goes inv s may Later = record { inv = changed-goes inv s may _ (λ _. (refl, refl, refl)); requests = refl; goes_on = refl }

  pub write_device-goes : (answers : Answers) {w v : World R} → Inv w v → (s : ℕ) → May s → (x : Value) → GoesOut Inv (write_device k answers w s x) (write_device k answers v s x)
  unfolding write_device
  write_device-goes answers {w} {v} inv s may x =
      let call = next_call k answers w s (Write-ask x) in
      subst (λ (c : Call). GoesOut Inv (write_device k answers w s x) (cond (can_ask k v s) (acknowledged k (called c v) s c.answer) (acknowledged k v s Fault-answer))) (next-same answers inv s (Write-ask x))
      (subst (λ (b : Bool). GoesOut Inv (write_device k answers w s x) (cond b (acknowledged k (called call v) s call.answer) (acknowledged k v s Fault-answer)))
      (can-same inv s may)
      (elim (can_ask k w s) as (λ b. GoesOut Inv
      (cond b (acknowledged k (called call w) s call.answer) (acknowledged k w s Fault-answer))
      (cond b (acknowledged k (called call v) s call.answer) (acknowledged k v s Fault-answer))) [
        | true ↦ acknowledged-goes (g.call inv call) s may call.answer
        | false ↦ acknowledged-goes inv s may Fault-answer
      ]))

  -- Storing the value of SDIS keeps the relation.
  pub disable_came-goes : {w v : World R} → Inv w v → (s : ℕ) → May s → (got : Got) → Inv (disable_came k w s got) (disable_came k v s got)
  unfolding disable_came with_disable_input
  disable_came-goes inv s may (Got-value x) = changed-goes inv s may _ (λ c. (refl, refl, refl))
  disable_came-goes inv s may Got-nothing = inv
  disable_came-goes inv s may Got-fault = inv

  -- Ending the processing of a record keeps the relation.
  pub rested-goes : {w v : World R} → Inv w v → (s : ℕ) → May s → Inv (rested k w s) (rested k v s)
  unfolding rested
  rested-goes {w} {v} inv s may =
      let quiet = changed-goes (g.tell inv s may) s may at_rest (λ c. (refl, refl, refl)) in
      subst (λ (r : R). Inv (rested k w s) (cond (k.common r).reprocess (sent (Once s) (changed k (notified k v s) s at_rest)) (changed k (notified k v s) s at_rest))) (g.same inv s may)
      (elim (common_at k w s).reprocess as (λ b. Inv (cond b (sent (Once s) (changed k (notified k w s) s at_rest)) (changed k (notified k w s) s at_rest)) (cond b (sent (Once s) (changed k (notified k v s) s at_rest)) (changed k (notified k v s) s at_rest))) [
        | true ↦ g.send quiet (Once s)
        | false ↦ quiet
      ])

  shown-at : {w v : World R} → Inv w v → (s : ℕ) → May s → Inv (showing k w s) (put v s (shown_record k w.moment (at k v s)))
  shown-at {w} {v} inv s may =
      subst (λ (r : R). Inv (showing k w s) (put v s (shown_record k w.moment r))) (g.same inv s may)
      (g.put inv s may _ (g.posted (g.common (g.good inv s may) _ (refl, refl)) _) (ap (λ (c : Common). c.notification) (shown-common k lawful w.moment (at k w s))))

  shown-goes : {w v : World R} → Inv w v → (s : ℕ) → May s → Inv (showing k w s) (showing k v s)
  shown-goes {w} {v} inv s may = subst (λ (n : ℕ). Inv (showing k w s) (put v s (shown_record k n (at k v s)))) (g.moment inv) (shown-at inv s may)

  module _ (ask other : World R → ℕ → Done R) (asks : (w v : World R) → Inv w v → (s : ℕ) → May s → Goes Inv (ask w s) (other v s)) where
    pub asked-goes : {w v : World R} → Inv w v → (s : ℕ) → May s → (t : ℕ) → May t → Goes Inv (asked k ask w s t) (asked k other v s t)
    unfolding asked
    asked-goes {w} {v} inv s may t there =
        let by_put = (common_at k w s).by_put in
        let down : World R → Done R = λ u. record { world = changed k u t put_down; requests = Request Reprocess None None } in
        let mine : Bool → Bool → Done R = λ p b. cond {A = Done R} b (down w) (ask (passed_on k (changed k w t (put_mark_passed p)) s t) t) in
        let theirs : Bool → Bool → Done R = λ p b. cond {A = Done R} b (down v) (other (passed_on k (changed k v t (put_mark_passed p)) s t) t) in
        subst (λ (r : R). Goes Inv (asked k ask w s t) (theirs (k.common r).by_put (is_put_down (k.common r).by_put (common_at k v t)))) (g.same inv s may)
        (subst (λ (r : R). Goes Inv (asked k ask w s t) (theirs by_put (is_put_down by_put (k.common r)))) (g.same inv t there)
        (elim (is_put_down by_put (common_at k w t)) as (λ b. Goes Inv (mine by_put b) (theirs by_put b)) [
          | true ↦ record { inv = changed-goes inv t there put_down put_down-alone; requests = refl }
          | false ↦ asks _ _ (g.pass (changed-goes inv t there (put_mark_passed by_put) (passed-alone by_put)) s may t there) t there
        ]))

    pub caused-goes : {w v : World R} → Inv w v → (s : ℕ) → May s → (t : ℕ) → May t → Goes Inv (caused k ask w s t) (caused k other v s t)
    unfolding caused
    caused-goes {w} {v} inv s may t there =
        let first = asked-goes (changed-goes inv s may (with_active true) (λ _. (refl, refl, refl))) s may t there in
        record {
          inv = subst (λ (r : R). Inv (changed k (asked k ask (changed k w s (with_active true)) s t).world s (with_active (common_at k w s).active))
              (changed k (asked k other (changed k v s (with_active true)) s t).world s (with_active (k.common r).active)))
              (g.same inv s may) (changed-goes first.inv s may _ (λ _. (refl, refl, refl)));
          requests = first.requests;
        }

    pub followed-goes : {w v : World R} → Inv w v → (s : ℕ) → May s → (link : LinkUse) → ((t : StandingLink) → link ≡ Standing t → May t.number)
        → Goes Inv (followed k ask w s link) (followed k other v s link)
    unfolding followed
    followed-goes {w} {v} inv s may (Standing t) there =
        subst (λ (b : Bool). Goes Inv (followed k ask w s (Standing t)) (cond {A = Done R} b (caused k other v s t.number) (record { world = v; requests = None })))
        (ap (λ (r : R). is_passive (k.common r)) (g.same inv t.number (there t refl)))
        (elim (is_passive (common_at k w t.number)) as (λ b. Goes Inv
        (cond {A = Done R} b (caused k ask w s t.number) (record { world = w; requests = None }))
        (cond {A = Done R} b (caused k other v s t.number) (record { world = v; requests = None }))) [
          | true ↦ caused-goes inv s may t.number (there t refl)
          | false ↦ record { inv = inv; requests = refl }
        ])
    followed-goes inv s may Unused there = record { inv = inv; requests = refl }
    followed-goes inv s may OwnDevice there = record { inv = inv; requests = refl }
    followed-goes inv s may Absent there = record { inv = inv; requests = refl }

    pub prepared-goes : {w v : World R} → Inv w v → (s : ℕ) → May s → (t : StandingLink) → May t.number → Goes Inv (prepared k ask w s t) (prepared k other v s t)
    unfolding prepared
    prepared-goes {w} {v} inv s may t there =
        subst (λ (b : Bool). Goes Inv (prepared k ask w s t) (cond {A = Done R} b (caused k other v s t.number) (record { world = v; requests = None })))
        (first-same inv t there)
        (elim (requests_first k w t) as (λ b. Goes Inv
        (cond {A = Done R} b (caused k ask w s t.number) (record { world = w; requests = None }))
        (cond {A = Done R} b (caused k other v s t.number) (record { world = v; requests = None }))) [
          | true ↦ caused-goes inv s may t.number there
          | false ↦ record { inv = inv; requests = refl }
        ])

    pub read_record-goes : (kind : R → InputKind) {w v : World R} → Inv w v → (s : ℕ) → May s → (t : StandingLink) → May t.number → GoesThrough Inv (read_record k ask kind w s t) (read_record k other kind v s t)
    unfolding read_record read_at
    read_record-goes kind {w} {v} inv s may t there =
        let first = prepared-goes inv s may t there in
        let one = (prepared k ask w s t).world in
        let two = (prepared k other v s t).world in
        let value = λ (a b : R). read_as k a t.field (kind b) in
        let mine = value_came k one s t (value (at k one t.number) (at k one s)) in
        let came = subst (λ (r : R). GoesCame Inv mine (value_came k two s t (value r (at k two s)))) (g.same first.inv t.number there)
        (subst (λ (r : R). GoesCame Inv mine (value_came k two s t (value (at k one t.number) r))) (g.same first.inv s may) (value_came-goes first.inv s may t there _)) in
        record { inv = came.inv; requests = first.requests; came = came.came }

    pub read_link-goes : (kind : R → InputKind) {w v : World R} → Inv w v → (s : ℕ) → May s → (link : LinkUse) → ((t : StandingLink) → link ≡ Standing t → May t.number)
        → GoesThrough Inv (read_link k ask kind w s link) (read_link k other kind v s link)
    unfolding read_link
    read_link-goes kind inv s may (Standing t) there = read_record-goes kind inv s may t (there t refl)
    read_link-goes kind inv s may Unused there = record { inv = inv; requests = refl; came = refl }
    read_link-goes kind inv s may OwnDevice there = record { inv = faulted-goes inv s may; requests = refl; came = refl }
    read_link-goes kind inv s may Absent there = record { inv = faulted-goes inv s may; requests = refl; came = refl }

    calls-goes : {w v : World R} → Inv w v → (s : ℕ) → May s → (t : StandingLink) → May t.number → (b : Bool) →
        Goes Inv (cond {A = Done R} b (caused k ask w s t.number) (record { world = w; requests = None })) (cond {A = Done R} b (caused k other v s t.number) (record { world = v; requests = None }))
    calls-goes inv s may t there true = caused-goes inv s may t.number there
    calls-goes inv s may t there false = record { inv = inv; requests = refl }

    pub after_writing-goes : (done done' : Written R) → GoesWritten Inv done done' → (s : ℕ) → May s → (t : StandingLink) → May t.number
        → Goes Inv (after_writing k ask done s t) (after_writing k other done' s t)
    unfolding after_writing
    after_writing-goes done done' go s may t there =
        let calls : (World R → ℕ → Done R) → World R → Bool → Done R = λ f w b. cond {A = Done R} b (caused k f w s t.number) (record { world = w; requests = None }) in
        let vain : World R → Done R = λ w. record { world = faulted k w s; requests = None } in
        subst (λ (b : Bool). Goes Inv (after_writing k ask done s t) (cond {A = Done R} b (calls other done'.world (requests_after k done'.world t)) (vain done'.world))) go.stored
        (subst (λ (b : Bool). Goes Inv (after_writing k ask done s t) (cond {A = Done R} done.stored (calls other done'.world b) (vain done'.world))) (after-same go.inv t there)
        (elim done.stored as (λ b. Goes Inv
        (cond {A = Done R} b (calls ask done.world (requests_after k done.world t)) (vain done.world))
        (cond {A = Done R} b (calls other done'.world (requests_after k done.world t)) (vain done'.world))) [
          | true ↦ calls-goes go.inv s may t there (requests_after k done.world t)
          | false ↦ record { inv = faulted-goes go.inv s may; requests = refl }
        ]))

    pub write_link-goes : {w v : World R} → Inv w v → (s : ℕ) → May s → (link : LinkUse) → ((t : StandingLink) → link ≡ Standing t → May t.number) → (x : Value)
        → Goes Inv (write_link k ask w s link x) (write_link k other v s link x)
    unfolding write_link
    write_link-goes inv s may (Standing t) there x = after_writing-goes _ _ (wrote-goes inv s may t (there t refl) x) s may t (there t refl)
    write_link-goes inv s may Unused there x = record { inv = inv; requests = refl }
    write_link-goes inv s may OwnDevice there x = record { inv = faulted-goes inv s may; requests = refl }
    write_link-goes inv s may Absent there x = record { inv = faulted-goes inv s may; requests = refl }

    link_at-there : {w v : World R} → Inv w v → (s : ℕ) → May s → (slot : FieldSlot) (t : StandingLink) → link_at k w s slot ≡ Standing t → May t.number
    link_at-there {w} inv s may slot t is = g.link (g.good inv s may) t.number (link_named k lawful (at k w s) (Own (Lnk slot)) t is)

    pub followed_each-goes : (slots : List FieldSlot) {w v : World R} → Inv w v → (s : ℕ) → May s → Goes Inv (followed_each k ask w s slots) (followed_each k other v s slots)
    unfolding followed_each
    followed_each-goes [] inv s may = record { inv = inv; requests = refl }
    followed_each-goes (slot ∷ slots) {w} {v} inv s may =
        let first = subst (λ (link : LinkUse). Goes Inv (followed k ask w s (link_at k w s slot)) (followed k other v s link)) (ap (λ (r : R). use_of_field (k.link r (Own (Lnk slot)))) (g.same inv s may))
        (followed-goes inv s may (link_at k w s slot) (link_at-there inv s may slot)) in
        let rest = followed_each-goes slots first.inv s may in
        record {
          inv = rest.inv;
          requests = ap (λ (x : Requests). followed_by x (followed_each k ask (followed k ask w s (link_at k w s slot)).world s slots).requests) first.requests
              ∙ ap (followed_by (followed k other v s (link_at k v s slot)).requests) rest.requests;
        }

    input_at-there : {w v : World R} → Inv w v → (s : ℕ) → May s → (slot : FieldSlot) (t : StandingLink) → input_at k w s slot ≡ Standing t → May t.number
    input_at-there {w} inv s may slot t is = g.link (g.good inv s may) t.number (link_named k lawful (at k w s) (Own (InputLink slot)) t is)

    read_each-goes : (slots : List FieldSlot) {w v : World R} → Inv w v → (s : ℕ) → May s → (has_fault : Bool)
        → GoesThrough Inv (read_each k ask w s has_fault slots) (read_each k other v s has_fault slots)
    unfolding read_each
    read_each-goes [] inv s may has_fault = record { inv = inv; requests = refl; came = refl }
    read_each-goes (slot ∷ slots) {w} {v} inv s may has_fault =
        let mine = read_link k ask (λ _. input-kind.Double) w s (input_at k w s slot) in
        let theirs = read_link k other (λ _. input-kind.Double) v s (input_at k v s slot) in
        let first : GoesThrough Inv mine theirs = subst (λ (link : LinkUse). GoesThrough Inv mine (read_link k other (λ _. input-kind.Double) v s link))
        (ap (λ (r : R). use_of_field (k.link r (Own (InputLink slot)))) (g.same inv s may))
        (read_link-goes (λ _. input-kind.Double) inv s may (input_at k w s slot) (input_at-there inv s may slot)) in
        let after : Inv (kept k mine.world s (Letter slot) mine.came) (kept k theirs.world s (Letter slot) theirs.came) =
        subst (λ (got : Got). Inv (kept k mine.world s (Letter slot) mine.came) (kept k theirs.world s (Letter slot) got)) first.came (kept-goes first.inv s may (Letter slot) mine.came) in
        let rest = subst (λ (got : Got). GoesThrough Inv (read_each k ask (kept k mine.world s (Letter slot) mine.came) s (has_fault || is_fault mine.came) slots)
        (read_each k other (kept k theirs.world s (Letter slot) theirs.came) s (has_fault || is_fault got) slots))
        first.came (read_each-goes slots after s may (has_fault || is_fault mine.came)) in
        record { inv = rest.inv; requests = both_followed first.requests rest.requests; came = rest.came }

    read_chosen-goes : (chosen chosen' : Came R) → GoesCame Inv chosen chosen' → (s : ℕ) → May s → GoesThrough Inv (read_chosen k ask chosen s) (read_chosen k other chosen' s)
    unfolding read_chosen
    read_chosen-goes chosen chosen' go s may =
        let ready = kept k chosen.world s Seln chosen.came in
        let ready' = kept k chosen'.world s Seln chosen.came in
        let there = kept-goes go.inv s may Seln chosen.came in
        subst (λ (got : Got). GoesThrough Inv (read_chosen k ask chosen s)
        (read_each k other (kept k chosen'.world s Seln got) s (is_fault got) (chosen_links (k.inputs (at k (kept k chosen'.world s Seln got) s) got)))) go.came
        (subst (λ (r : R). GoesThrough Inv (read_chosen k ask chosen s) (read_each k other ready' s (is_fault chosen.came) (chosen_links (k.inputs r chosen.came)))) (g.same there s may)
        (read_each-goes (chosen_links (k.inputs (at k ready s) chosen.came)) there s may (is_fault chosen.came)))

    pub read_inputs-goes : {w v : World R} → Inv w v → (s : ℕ) → May s → (link : LinkUse) → ((t : StandingLink) → link ≡ Standing t → May t.number)
        → GoesThrough Inv (read_inputs k ask w s link) (read_inputs k other v s link)
    unfolding read_inputs
    read_inputs-goes inv s may link there =
        let first = read_link-goes k.input_kind inv s may link there in
        let rest = read_chosen-goes _ _ (record { inv = first.inv; came = first.came }) s may in
        record { inv = rest.inv; requests = both_followed first.requests rest.requests; came = rest.came }

    pub finished-goes : {w v : World R} → Inv w v → (s : ℕ) → May s → Goes Inv (finished k ask w s) (finished k other v s)
    unfolding finished
    finished-goes {w} {v} inv s may =
        let ready = showing k w s in
        let ready' = showing k v s in
        let there = shown-goes inv s may in
        let rest = followed-goes there s may (use_of (common_at k ready s).forward_link) (λ t is. g.link (g.good there s may) t.number (lawful.forward_named (at k ready s) t is)) in
        subst (λ (link : LinkUse). Goes Inv (finished k ask w s)
        (record { world = rested k (followed k other ready' s link).world s; requests = (followed k other ready' s link).requests }))
        (ap (λ (r : R). use_of (k.common r).forward_link) (g.same there s may))
        (record { inv = rested-goes rest.inv s may; requests = rest.requests })

    finished_if-goes : {w v : World R} → Inv w v → (s : ℕ) → May s → (b : Bool) → Goes Inv (finished_if k ask w s b) (finished_if k other v s b)
    finished_if-goes inv s may true = finished-goes inv s may
    finished_if-goes inv s may false = record { inv = inv; requests = refl }

    pub after_output-goes : (out out' : PutOut R) → GoesOut Inv out out' → (s : ℕ) → May s → Goes Inv (after_output k ask s out) (after_output k other s out')
    unfolding after_output
    after_output-goes out out' go s may =
        let rest = subst (λ (b : Bool). Goes Inv (finished_if k ask out.world s out.goes_on) (finished_if k other out'.world s b)) go.goes_on (finished_if-goes go.inv s may out.goes_on) in
        record { inv = rest.inv; requests = ap (λ (x : Requests). followed_by x (finished_if k ask out.world s out.goes_on).requests) go.requests ∙ ap (followed_by out'.requests) rest.requests }

    module _ (answers : Answers) where
      pub put_out-goes : {w v : World R} → Inv w v → (s : ℕ) → May s → (output : Output) → ((t : StandingLink) (x : Value) → output ≡ WriteLink (Standing t) x → May t.number)
          → GoesOut Inv (put_out k answers ask w s output) (put_out k answers other v s output)
      unfolding put_out
      put_out-goes inv s may NoOutput there = record { inv = inv; requests = refl; goes_on = refl }
      put_out-goes inv s may (WriteLink link x) there =
          let done = write_link-goes inv s may link (λ t is. there t x (ap (λ (l : LinkUse). WriteLink l x) is)) x in
          record { inv = done.inv; requests = done.requests; goes_on = refl }
      put_out-goes inv s may (WriteDevice x) there = write_device-goes answers inv s may x
      put_out-goes inv s may (FollowLinks links) there =
          let done = followed_each-goes (chosen_links links) inv s may in
          record { inv = done.inv; requests = done.requests; goes_on = refl }
      put_out-goes inv s may (PostEvent name) there = record { inv = g.send inv (Post name); requests = refl; goes_on = refl }

      pub completed-goes : {w v : World R} → Inv w v → (s : ℕ) → May s → (got : Got) → Goes Inv (completed k answers ask w s got) (completed k answers other v s got)
      unfolding completed
      completed-goes {w} {v} inv s may got =
          let there = taken-goes inv s may got in
          let taken' = put v s (k.taken (at k v s) got) in
          subst (λ (output : Output). Goes Inv (completed k answers ask w s got) (after_output k other s (put_out k answers other taken' s output)))
          (ap (λ (r : R). k.output r got) (g.same inv s may))
          (after_output-goes _ _ (put_out-goes there s may (k.output (at k w s) got) (λ t x is. g.link (g.good inv s may) t.number (lawful.output_named (at k w s) got t x is))) s may)

      pub completed_if-goes : {w v : World R} → Inv w v → (s : ℕ) → May s → (came : Option Got) → Goes Inv (completed_if k answers ask w s came) (completed_if k answers other v s came)
      completed_if-goes inv s may Nothing_ = record { inv = inv; requests = refl }
      completed_if-goes inv s may (Some got) = completed-goes inv s may got

      -- The rest of a body after a reading keeps the relation.
      rest-goes : (reading reading' : Reading R) → GoesRead Inv reading reading' → (s : ℕ) → May s →
          Goes {R = R} Inv
          (record { world = (completed_if k answers ask reading.world s reading.came).world; requests = followed_by reading.requests (completed_if k answers ask reading.world s reading.came).requests })
          (record { world = (completed_if k answers other reading'.world s reading'.came).world; requests = followed_by reading'.requests (completed_if k answers other reading'.world s reading'.came).requests })
      rest-goes reading reading' go s may =
          let rest = subst (λ (came : Option Got). Goes Inv (completed_if k answers ask reading.world s reading.came) (completed_if k answers other reading'.world s came)) go.came (completed_if-goes go.inv s may reading.came) in
          record { inv = rest.inv; requests = ap (λ (x : Requests). followed_by x (completed_if k answers ask reading.world s reading.came).requests) go.requests ∙ ap (followed_by reading'.requests) rest.requests }

      pub input-goes : {w v : World R} → Inv w v → (s : ℕ) → May s → (want : Want) → ((t : StandingLink) → want ≡ ReadLink (Standing t) → May t.number)
          → ((t : StandingLink) → want ≡ ReadInputs (Standing t) → May t.number)
          → GoesRead Inv (input k answers ask w s want) (input k answers other v s want)
      unfolding input
      input-goes inv s may NoInput there chosen = record { inv = inv; requests = refl; came = refl }
      input-goes inv s may (ReadLink link) there chosen =
          let read = read_link-goes k.input_kind inv s may link (λ t is. there t (ap ReadLink is)) in
          record { inv = read.inv; requests = read.requests; came = ap Some read.came }
      input-goes inv s may ReadDevice there chosen = read_device-goes answers inv s may
      input-goes inv s may (ReadInputs link) there chosen =
          let read = read_inputs-goes inv s may link (λ t is. chosen t (ap ReadInputs is)) in
          record { inv = read.inv; requests = read.requests; came = ap Some read.came }

      pub body-goes : {w v : World R} → Inv w v → (s : ℕ) → May s → Goes Inv (body k answers ask w s) (body k answers other v s)
      unfolding body
      body-goes {w} {v} inv s may =
          rw (← g.same inv s may)
          (rest-goes _ _ (input-goes inv s may (k.begin (at k w s)) (λ t is. g.link (g.good inv s may) t.number (lawful.begin_named (at k w s) t is))
          (λ t is. g.link (g.good inv s may) t.number (lawful.choice_named (at k w s) t is))) s may)

      pub judged-goes : {w v : World R} → Inv w v → (s : ℕ) → May s → GoesRan Inv (judged k answers ask w s) (judged k answers other v s)
      unfolding judged
      judged-goes {w} {v} inv s may =
          let off : World R → Ran R = λ u. record { world = changed k (notified k u s) s disabled; requests = None; outcome = Disabled } in
          subst (λ (r : R). GoesRan Inv (judged k answers ask w s) (cond {A = Ran R} (is_disabled (k.common r)) (off v) (processed (body k answers other v s)))) (g.same inv s may)
          (elim (is_disabled (common_at k w s)) as (λ b. GoesRan Inv (cond {A = Ran R} b (off w) (processed (body k answers ask w s))) (cond {A = Ran R} b (off v) (processed (body k answers other v s)))) [
            | true ↦ record { inv = changed-goes (g.tell inv s may) s may disabled disabled-alone; requests = refl; outcome = refl }
            | false ↦ let rest = body-goes inv s may in record { inv = rest.inv; requests = rest.requests; outcome = refl }
          ])

      pub begun_idle-goes : {w v : World R} → Inv w v → (s : ℕ) → May s → GoesRan Inv (begun_idle k answers ask w s) (begun_idle k answers other v s)
      unfolding begun_idle ran_after
      begun_idle-goes {w} {v} inv s may =
          let ready = changed k w s unblocked in
          let ready' = changed k v s unblocked in
          let link = use_of (common_at k ready s).disable_link in
          let first = changed-goes inv s may unblocked (λ _. (refl, refl, refl)) in
          let read = read_link-goes (λ _. disable_kind) first s may link (λ t is. g.link (g.good first s may) t.number (lawful.disable_named (at k ready s) t is)) in
          let mine = read_link k ask (λ _. disable_kind) ready s link in
          let theirs = read_link k other (λ _. disable_kind) ready' s link in
          let disables : Inv (disable_came k mine.world s mine.came) (disable_came k theirs.world s theirs.came) =
          subst (λ (got : Got). Inv (disable_came k mine.world s mine.came) (disable_came k theirs.world s got)) read.came (disable_came-goes read.inv s may mine.came) in
          let rest = judged-goes disables s may in
          subst (λ (r : R). GoesRan Inv (begun_idle k answers ask w s)
          (let back = read_link k other (λ _. disable_kind) ready' s (use_of (k.common r).disable_link) in ran_after back.requests (judged k answers other (disable_came k back.world s back.came) s)))
          (g.same first s may)
          (record { inv = rest.inv; requests = both_followed read.requests rest.requests; outcome = rest.outcome })

      pub requested-goes : {w v : World R} → Inv w v → (s : ℕ) → May s → GoesRan Inv (requested k answers ask w s) (requested k answers other v s)
      unfolding requested
      requested-goes {w} {v} inv s may =
          subst (λ (b : Bool). GoesRan Inv (requested k answers ask w s) (cond {A = Ran R} b (turned_away k answers other v s) (begun_idle k answers other v s)))
          (ap (λ (r : R). (k.common r).active) (g.same inv s may))
          (elim (common_at k w s).active as (λ b. GoesRan Inv
          (cond {A = Ran R} b (turned_away k answers ask w s) (begun_idle k answers ask w s))
          (cond {A = Ran R} b (turned_away k answers other v s) (begun_idle k answers other v s))) [
            | true ↦ record { inv = changed-goes inv s may blocked blocked-alone; requests = refl; outcome = refl }
            | false ↦ begun_idle-goes inv s may
          ])

  pub as_request-goes : (ran other : Ran R) → GoesRan Inv ran other → Goes Inv (as_request ran) (as_request other)
  as_request-goes ran other go = record {
    inv = go.inv;
    requests = ap (λ (x : Requests). Request ran.outcome x None) go.requests ∙ ap (λ (o : Outcome). Request o other.requests None) go.outcome;
  }

  module _ (answers : Answers) where
    nested-goes : (depth : ℕ) {w v : World R} → Inv w v → (s : ℕ) → May s → Goes Inv (nested k answers depth w s) (nested k answers depth v s)
    unfolding nested
    nested-goes zero inv s may = record { inv = inv; requests = refl }
    nested-goes (suc depth) inv s may = as_request-goes _ _ (requested-goes _ _ (λ w v. nested-goes depth) answers inv s may)

    -- A request keeps the relation. The two worlds need not have equally many idle records.
    pub request-goes : {w v : World R} → Inv w v → (s : ℕ) → May s → Goes Inv (request k answers w s) (request k answers v s)
    request-goes {w} {v} inv s may =
        let depth = suc (idle k w + idle k v) in
        rw (← request-nested k lawful answers depth w s (omega arith), ← request-nested k lawful answers depth v s (omega arith)) (nested-goes depth inv s may)

    pub ran-goes : {w v : World R} → Inv w v → (s : ℕ) → May s → GoesRan Inv (ran k answers w s) (ran k answers v s)
    unfolding ran
    ran-goes inv s may = requested-goes _ _ (λ w v. request-goes) answers inv s may

    -- Resuming a record whose device answered later keeps the relation.
    pub takes_completion-goes : {w v : World R} → Inv w v → (s : ℕ) → May s → (x : Finished) → Goes Inv (resumed_with k answers w s x) (resumed_with k answers v s x)
    unfolding resumed_with
    takes_completion-goes {w} {v} inv s may x =
        let back = changed-goes inv s may resumed (λ c. (refl, refl, refl)) in
        let mine = changed k w s resumed in
        let theirs = changed k v s resumed in
        let taken : Inv (put mine s (k.finished (at k mine s) x)) (put theirs s (k.finished (at k theirs s) x)) =
        subst (λ (r : R). Inv (put mine s (k.finished (at k mine s) x)) (put theirs s (k.finished r x))) (g.same back s may) (g.put back s may _ (g.finished (g.good back s may) x) (ap (λ (c : Common). c.notification) (lawful.finished_common (at k mine s) x))) in
        let theirs_taken = put theirs s (k.finished (at k theirs s) x) in
        subst (λ (output : Output). Goes Inv (resumed_with k answers w s x) (after_output k (request k answers) s (put_out k answers (request k answers) theirs_taken s output)))
        (ap (λ (r : R). k.last_output r x) (g.same back s may))
        (after_output-goes _ _ (λ w v. request-goes) _ _
        (put_out-goes _ _ (λ w v. request-goes) answers taken s may (k.last_output (at k mine s) x) (λ t y is. g.link (g.good back s may) t.number (lawful.last_output_named (at k mine s) x t y is))) s may)
