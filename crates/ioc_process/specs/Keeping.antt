-- What requests leave unchanged: the set of records, and what their links name.
use Rattle.std.proofs.Common.{◌≡◌, ◌≢◌, ℕ, Bool, true, false, cond, eqb, List, [], ◌∷◌, length, refl, ap, subst, ◌∙◌, arith, Some, None as Nothing_}
use Rattle.std.proofs.lemmas.Grind.{common_steps}
use Rattle.std.specs.Global.{Vec}
use Rattle.std.specs.Prelude.{Result, Ok, Err, Contains, nat_lt, ◌++◌}
use Rattle.ioc_values.specs.declared.value.Value.{Value}
use Rattle.ioc_values.specs.declared.error.IocError.{IocError}
use Rattle.ioc_dbcommon.specs.declared.common.Common.{Common}
use Rattle.ioc_dbcommon.specs.declared.link_field.StandingLink.{StandingLink}
use Rattle.ioc_dbcommon.specs.declared.body.Got.{Got}
use Rattle.ioc_dbcommon.specs.declared.body.Got.TheVariants.{Nothing as Got-nothing, Value as Got-value, Fault as Got-fault}
use Rattle.ioc_device.specs.declared.Answer.{Answer}
use Rattle.ioc_device.specs.declared.Ask.TheVariants.{Read as Read-ask, Write as Write-ask}
use Rattle.ioc_values.specs.declared.value.Finished.{Finished}
use Rattle.ioc_store.specs.Marks.{with_disable_input, resumed}
use Rattle.ioc_store.specs.declared.call.Call.{Call}
use Rattle.ioc_device.specs.declared.Answer.TheVariants.{Done as Done-answer, Fault as Fault-answer, Later}
use Rattle.ioc_dbcommon.specs.Steps.{with_active, change_numbered, with_notification}
use Rattle.ioc_record.specs.RecordRules.{RecordRules}
use Rattle.ioc_record.specs.Laws.{IsLawful}
use Rattle.ioc_ledger.specs.Requests.{more}
use Rattle.ioc_store.specs.declared.frames.Frame.{Frame}
use Rattle.ioc_store.specs.declared.outbox.OutboxItem.{OutboxItem}
use Rattle.ioc_store.specs.World.{World, Has, at, put, changed, SameLinks, Keeps, IsClosed, called, sent, lost, taken_on, let_go}
use Rattle.ioc_process.specs.Processing.{inherits, value_came, wrote, faulted, device_gave, received, read_device, acknowledged, write_device, next_call, can_ask, request, ran, resumed_with}
use Rattle.ioc_store.specs.Rests.{disable_came}
use Rattle.ioc_store.specs.StepFrames.{OwnLinks, targets_same, links-set, links-taken, links-posted, links-finished, links-stored}
use Rattle.ioc_store.specs.Worlds.{at-put_same, at-put_other, has-put, has-put_back, len-put}
use Rattle.ioc_store.specs.Links.{handed_on}
use Rattle.ioc_process.specs.Depth.{written_has}
use Rattle.ioc_process.specs.Running.{CanProcess, CanRun, HasRun}
use Rattle.ioc_process.specs.Answering.{begins_same, begins_on}
use Rattle.ioc_process.specs.Alongside.{Guards, inherits-goes, value_came-goes, wrote-goes, request-goes, ran-goes, takes_completion-goes}
use Rattle.ioc_store.specs.Given.{Given, Answers}
use Rattle.ioc_device.specs.declared.Ask.{Ask}
use Rattle.ioc_store.specs.Scanning.{moved, rescanned}
use Rattle.ioc_store.specs.ScanLaws.{moved-either, rescanned-either}
use Rattle.ioc_fields.specs.declared.field_no.FieldNo.{FieldNo}
use Rattle.ioc_store.specs.Notifying.{passed_on, notified}
use Rattle.ioc_store.specs.NotifyLaws.{passed-either, notified-either}

-- A record has the same links as itself, and the relation is transitive.
pub same_links : {R : Type 0} (k : RecordRules R) (r : R) → SameLinks k r r
same_links k r = record { record_type = refl; fields = refl; links = refl }

pub links_on : {R : Type 0} (k : RecordRules R) {r s t : R} → SameLinks k r s → SameLinks k s t → SameLinks k r t
links_on k one two = record { record_type = two.record_type ∙ one.record_type; fields = two.fields ∙ one.fields; links = two.links ∙ one.links }

module _ {R : Type 0} (k : RecordRules R) where
  pub keeps_all : (w : World R) → Keeps k w w
  keeps_all w = record { has = λ _ h. h; only = λ _ h. h; count = refl; links = λ n. same_links k (at k w n) }

  pub keeps_on : {w mid after : World R} → Keeps k w mid → Keeps k mid after → Keeps k w after
  keeps_on one two = record { has = λ n h. two.has n (one.has n h); only = λ n h. one.only n (two.only n h); count = two.count ∙ one.count; links = λ n. links_on k (one.links n) (two.links n) }

  -- Putting a record with the links that it had at the start keeps the records and links.
  pub put_kept : (w0 w : World R) (n : ℕ) → Has w0 n → (r : R) → Keeps k w0 w → SameLinks k (at k w0 n) r → Keeps k w0 (put w n r)
  put_kept w0 w n may r keeps good = record {
    has = λ m h. has-put k w n m r (keeps.has m h);
    only = λ m h. keeps.only m (has-put_back k w n m r (keeps.has n may) h);
    count = len-put k w n r (keeps.has n may) ∙ keeps.count;
    links = λ m. elim (eqb m n) as (λ b. eqb m n ≡ b → SameLinks k (at k w0 m) (at k (put w n r) m)) [
      | true ↦ λ is. let e : m ≡ n = grind (arith, common_steps) in rw (e, at-put_same k w n r) good
      | false ↦ λ is. let apart : m ≢ n = grind (arith, common_steps) in rw (at-put_other k w n m r apart) (keeps.links m)
    ] refl;
  }

  pub keeps-put : (w : World R) (s : ℕ) → Has w s → (r : R) → SameLinks k (at k w s) r → Keeps k w (put w s r)
  keeps-put w s there r same = put_kept w w s there r (keeps_all w) same

module _ {R D : Type 0} (k : RecordRules R) {gives : D → Ask → ℕ → Answer → D → Type 0} where
  -- A step that keeps all records and their links, and asks no device.
  pub has_run_kept : {w after : World R} {given given_then : Given D} {frames : Vec Frame} → Keeps k w after → given_then ≡ given → frames.items ≡ []
      → HasRun k gives w after given given_then frames frames
  has_run_kept keeps same empty = record { keeps = keeps; given = begins_same same; empty = empty; room = refl }

  -- Nothing is done.
  pub has_run_same : (w : World R) {given : Given D} {frames : Vec Frame} → frames.items ≡ [] → HasRun k gives w w given given frames frames
  has_run_same w empty = has_run_kept (keeps_all k w) refl empty

  -- One follows another.
  pub has_run_on : {w mid after : World R} {given given_mid given_then : Given D} {frames one two : Vec Frame} → HasRun k gives w mid given given_mid frames one
      → HasRun k gives mid after given_mid given_then one two → HasRun k gives w after given given_then frames two
  has_run_on first second = record {
    keeps = keeps_on k first.keeps second.keeps;
    given = begins_on first.given second.given;
    empty = second.empty;
    room = second.room ∙ first.room;
  }

  -- One follows a step that keeps all records and their links.
  pub has_run_after : {w mid after : World R} {given given_then : Given D} {frames frames_then : Vec Frame} → Keeps k w mid
      → HasRun k gives mid after given given_then frames frames_then → HasRun k gives w after given given_then frames frames_then
  has_run_after kept run = record { keeps = keeps_on k kept run.keeps; given = run.given; empty = run.empty; room = run.room }

module _ {R : Type 0} (k : RecordRules R) (lawful : IsLawful k) where
  pub closed_on : {w after : World R} → Keeps k w after → IsClosed k w → IsClosed k after
  closed_on keeps is = record { closed = λ n target h. keeps.has target (is.closed n target (subst (λ (l : List ℕ). Contains l target) (targets_same k lawful (keeps.links n)) h)) }

  -- An event may begin after another one, where that might.
  pub can_run_next : {D : Type 0} {gives : D → Ask → ℕ → Answer → D → Type 0} {w after : World R} {given given_then : Given D} {frames frames_then : Vec Frame}
      → HasRun k gives w after given given_then frames frames_then → CanRun k w frames → CanRun k after frames_then
  can_run_next run can = record { closed = closed_on run.keeps can.closed; empty = run.empty; room = rw (run.keeps.count, run.room) can.room }

  -- An event may begin where it might before a step that keeps all records and their links.
  pub can_process_on : {w after : World R} {s : ℕ} {frames : Vec Frame} → Keeps k w after → CanProcess k w s frames → CanProcess k after s frames
  can_process_on keeps can = record {
    there = keeps.has _ can.there;
    run = record { closed = closed_on keeps can.run.closed; empty = can.run.empty; room = rw keeps.count can.run.room };
  }

  pub keeps-changed : (w : World R) (s : ℕ) → Has w s → (f : Common → Common) → ((c : Common) → OwnLinks c (f c)) → Keeps k w (changed k w s f)
  unfolding changed
  keeps-changed w s there f same = keeps-put k w s there _ (links-set k lawful (at k w s) _ (same _))

  pub keeps-taken : (w : World R) (s : ℕ) → Has w s → (got : Got) → Keeps k w (put w s (k.taken (at k w s) got))
  keeps-taken w s there got = keeps-put k w s there _ (links-taken k lawful _ got)

  pub keeps-active : (w : World R) (s : ℕ) → Has w s → (b : Bool) → Keeps k w (changed k w s (with_active b))
  keeps-active w s there b = keeps-changed w s there _ (λ _. (refl, refl))

  pub faulted-keeps : (w : World R) (s : ℕ) → Has w s → Keeps k w (faulted k w s)
  unfolding faulted
  faulted-keeps w s there = keeps-changed w s there _ (λ c. (refl, refl))

  pub resumed-keeps : (w : World R) (s : ℕ) → Has w s → Keeps k w (changed k w s resumed)
  resumed-keeps w s there = keeps-changed w s there resumed (λ c. (refl, refl))

  pub disable_came-keeps : (w : World R) (s : ℕ) → Has w s → (got : Got) → Keeps k w (disable_came k w s got)
  unfolding disable_came with_disable_input
  disable_came-keeps w s there (Got-value v) = keeps-changed w s there _ (λ c. (refl, refl))
  disable_came-keeps w s there Got-nothing = keeps_all k w
  disable_came-keeps w s there Got-fault = keeps_all k w

  device_gave-keeps : (w : World R) (s : ℕ) → Has w s → (value : Result Value IocError) → Keeps k w (device_gave k w s value).world
  unfolding device_gave
  device_gave-keeps w s there (Ok v) = keeps_all k w
  device_gave-keeps w s there (Err e) = keeps-changed w s there _ (λ c. (refl, refl))

  pub received-keeps : (w : World R) (s : ℕ) → Has w s → (answer : Answer) → Keeps k w (received k w s answer).world
  unfolding received
  received-keeps w s there (Done-answer v) = device_gave-keeps w s there _
  received-keeps w s there Fault-answer = keeps-changed w s there _ (λ c. (refl, refl))
  received-keeps w s there Later = keeps-changed w s there _ (λ c. (refl, refl))

  called-keeps : (call : Call) (w : World R) → Keeps k w (called call w)
  unfolding at called
  called-keeps call w = record { has = λ _ h. h; only = λ _ h. h; count = refl; links = λ n. record { record_type = refl; fields = refl; links = refl } }

  pub sent-keeps : (item : OutboxItem) (w : World R) → Keeps k w (sent item w)
  unfolding at sent
  sent-keeps item w =
      elim (nat_lt (length w.outbox) 256) as (λ b. Keeps k w (cond b (record w { outbox = w.outbox ++ item ∷ [] }) (record w { dropped = more w.dropped }))) [
        | true ↦ record { has = λ _ h. h; only = λ _ h. h; count = refl; links = λ n. record { record_type = refl; fields = refl; links = refl } }
        | false ↦ record { has = λ _ h. h; only = λ _ h. h; count = refl; links = λ n. record { record_type = refl; fields = refl; links = refl } }
      ]

  pub lost-keeps : (w : World R) → Keeps k w (lost w)
  unfolding at lost
  lost-keeps w = record { has = λ _ h. h; only = λ _ h. h; count = refl; links = λ n. record { record_type = refl; fields = refl; links = refl } }

  taken_on-keeps : (number : ℕ) (w : World R) → Keeps k w (taken_on number w)
  unfolding at taken_on
  taken_on-keeps number w = record { has = λ _ h. h; only = λ _ h. h; count = refl; links = λ n. record { record_type = refl; fields = refl; links = refl } }

  let_go-keeps : (number : ℕ) (w : World R) → Keeps k w (let_go number w)
  unfolding at let_go
  let_go-keeps number w = record { has = λ _ h. h; only = λ _ h. h; count = refl; links = λ n. record { record_type = refl; fields = refl; links = refl } }

  pub passed_on-keeps : (w : World R) (s t : ℕ) → Has w t → Keeps k w (passed_on k w s t)
  passed_on-keeps w s t there = passed-either k (Keeps k w) w s t (keeps_all k w) (λ n. keeps_on k (keeps-changed w t there (with_notification (Some n)) (λ c. (refl, refl))) (taken_on-keeps n _))

  pub notified-keeps : (w : World R) (s : ℕ) → Has w s → Keeps k w (notified k w s)
  notified-keeps w s there = notified-either k (Keeps k w) w s (keeps_all k w) (λ n. keeps_on k (keeps-changed w s there (with_notification Nothing_) (λ c. (refl, refl))) (let_go-keeps n _))

  pub moved-keeps : (w : World R) (n : ℕ) → Has w n → Keeps k w (moved k w n)
  moved-keeps w n there = moved-either k (Keeps k w) w n (λ item. keeps_on k (keeps-changed w n there change_numbered (λ c. (refl, refl))) (sent-keeps item _)) (lost-keeps w)

  pub rescanned-keeps : (w : World R) (n : ℕ) (field : FieldNo) → Has w n → Keeps k w (rescanned k w n field)
  rescanned-keeps w n field there = rescanned-either k (Keeps k w) w n field (keeps_all k w) (moved-keeps w n there)

  acknowledged-keeps : (w : World R) (s : ℕ) → Has w s → (answer : Answer) → Keeps k w (acknowledged k w s answer).world
  unfolding acknowledged
  acknowledged-keeps w s there (Done-answer v) = keeps_all k w
  acknowledged-keeps w s there Fault-answer = keeps-changed w s there _ (λ c. (refl, refl))
  acknowledged-keeps w s there Later = keeps-changed w s there _ (λ c. (refl, refl))

  pub write_device-keeps : (answers : Answers) (w : World R) (s : ℕ) → Has w s → (v : Value) → Keeps k w (write_device k answers w s v).world
  unfolding write_device
  write_device-keeps answers w s there v =
      let call = next_call k answers w s (Write-ask v) in
      elim (can_ask k w s) as (λ b. Keeps k w (cond b (acknowledged k (called call w) s call.answer) (acknowledged k w s Fault-answer)).world) [
        | true ↦ keeps_on k (called-keeps call w) (acknowledged-keeps (called call w) s ((called-keeps call w).has s there) call.answer)
        | false ↦ acknowledged-keeps w s there Fault-answer
      ]

  pub read_device-keeps : (answers : Answers) (w : World R) (s : ℕ) → Has w s → Keeps k w (read_device k answers w s).world
  unfolding read_device
  read_device-keeps answers w s there =
      let call = next_call k answers w s Read-ask in
      elim (can_ask k w s) as (λ b. Keeps k w (cond b (received k (called call w) s call.answer) (received k w s Fault-answer)).world) [
        | true ↦ keeps_on k (called-keeps call w) (received-keeps (called call w) s ((called-keeps call w).has s there) call.answer)
        | false ↦ received-keeps w s there Fault-answer
      ]

  -- A write removes no record.
  pub wrote-has : (w : World R) (s : ℕ) (t : StandingLink) (v : Value) (n : ℕ) → Has w n → Has (wrote k w s t v).world n
  unfolding wrote handed_on changed
  wrote-has w s t v n has = has-put k _ t.number n _ (written_has k lawful w t _ n has)

  -- A world that no link leaves, as the start.
  module _ (w0 : World R) (closed : IsClosed k w0) where
    abbrev pub KeptFrom : World R → World R → Type 0
    KeptFrom w v = (w ≡ v) × Keeps k w0 w

    abbrev pub Linked : ℕ → R → Type 0
    Linked n r = Has w0 n × SameLinks k (at k w0 n) r

    pub kept : Guards k (λ n. Has w0 n) Linked KeptFrom
    unfolding at called
    kept = record {
      same = λ inv n _. ap (λ (w : World R). at k w n) inv.0;
      good = λ inv n may. (may, inv.1.links n);
      calls = λ inv. ap (λ (w : World R). w.calls) inv.0;
      moment = λ inv. ap (λ (w : World R). w.moment) inv.0;
      link = λ {n} {r} good target links. closed.closed n target (subst (λ (l : List ℕ). Contains l target) (targets_same k lawful good.1) links);
      common = λ good c same. (good.0, links_on k good.1 (links-set k lawful _ c same));
      taken = λ good got. (good.0, links_on k good.1 (links-taken k lawful _ got));
      posted = λ good changes. (good.0, links_on k good.1 (links-posted k lawful _ changes));
      finished = λ good x. (good.0, links_on k good.1 (links-finished k lawful _ x));
      stored = λ good f v. (good.0, links_on k good.1 (links-stored k lawful _ f v));
      put = λ inv n may r good _. (ap (λ (w : World R). put w n r) inv.0, put_kept k w0 _ n may r inv.1 good.1);
      call = λ inv one. (ap (called one) inv.0, keeps_on k inv.1 (called-keeps one _));
      send = λ inv item. (ap (sent item) inv.0, keeps_on k inv.1 (sent-keeps item _));
      lose = λ inv. (ap lost inv.0, keeps_on k inv.1 (lost-keeps _));
      pass = λ inv s may t there. (ap (λ (w : World R). passed_on k w s t) inv.0, keeps_on k inv.1 (passed_on-keeps _ s t (inv.1.has t there)));
      tell = λ inv s may. (ap (λ (w : World R). notified k w s) inv.0, keeps_on k inv.1 (notified-keeps _ s (inv.1.has s may)));
    }

    pub start : KeptFrom w0 w0
    start = (refl, keeps_all k w0)

    pub inherits-keeps : (s : ℕ) → Has w0 s → (t : StandingLink) → Has w0 t.number → Keeps k w0 (inherits k w0 s t)
    inherits-keeps s may t there = (inherits-goes k lawful _ _ _ kept start s may t there).1

    pub value_came-keeps : (s : ℕ) → Has w0 s → (t : StandingLink) → Has w0 t.number → (value : Result Value IocError) → Keeps k w0 (value_came k w0 s t value).world
    value_came-keeps s may t there value = (value_came-goes k lawful _ _ _ kept start s may t there value).inv.1

    pub wrote-keeps : (s : ℕ) → Has w0 s → (t : StandingLink) → Has w0 t.number → (v : Value) → Keeps k w0 (wrote k w0 s t v).world
    wrote-keeps s may t there v = (wrote-goes k lawful _ _ _ kept start s may t there v).inv.1

    pub request-keeps : (answers : Answers) (s : ℕ) → Has w0 s → Keeps k w0 (request k answers w0 s).world
    request-keeps answers s may = (request-goes k lawful _ _ _ kept answers start s may).inv.1

    pub ran-keeps : (answers : Answers) (s : ℕ) → Has w0 s → Keeps k w0 (ran k answers w0 s).world
    ran-keeps answers s may = (ran-goes k lawful _ _ _ kept answers start s may).inv.1

    pub takes_completion-keeps : (answers : Answers) (s : ℕ) → Has w0 s → (x : Finished) → Keeps k w0 (resumed_with k answers w0 s x).world
    takes_completion-keeps answers s may x = (takes_completion-goes k lawful _ _ _ kept answers start s may x).inv.1
