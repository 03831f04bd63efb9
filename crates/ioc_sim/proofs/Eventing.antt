-- The effect of an event's code on the machine of a script.
use Rattle.std.proofs.Common.{◌≡◌, ◌≤◌, ℕ, [], List, Option, Some, None as None-reason, refl, sym, ap, subst, ◌∙◌}
use Rattle.std.specs.Prelude.{Result, Ok, Err, OnOk, OnErr, IfErr}
use Rattle.std.specs.FinMap.{len}
use Rattle.std.specs.Global.{Vec}
use Rattle.std.specs.Vec.{vec_capacity}
use Rattle.ioc_device.specs.declared.Answer.{Answer}
use Rattle.ioc_ledger.specs.declared.tally.Tally.{Tally}
use Rattle.ioc_record.specs.RecordRules.{RecordRules}
use Rattle.ioc_events.specs.declared.event.Event.{Event}
use Rattle.ioc_events.specs.declared.reply.Reply.{Reply}
use Rattle.ioc_store.specs.World.{World, IsClosed, begun}
use Rattle.ioc_store.specs.Given.{Given, Answers, Begins}
use Rattle.ioc_process.specs.Runs.{ForAnswers}
use Rattle.ioc_process.specs.Rules.{IsSettled}
use Rattle.ioc_events.specs.Events.{Tells}
use Rattle.ioc_events.specs.declared.reply.Reply.TheVariants.{Plain, Refused}
use Rattle.ioc_values.specs.declared.error.IocError.{IocError}
use Rattle.ioc_fields.specs.declared.field_no.FieldNo.{FieldNo}
use Rattle.ioc_dbcommon.specs.declared.link_field.LinkField.{LinkField}
use Rattle.ioc_events.specs.Step.{stepped, link_refusal, relinked}
use Rattle.ioc_ledger.specs.Requests.{no_counts}
use Rattle.ioc_store.specs.declared.one_map.OneMap.{OneMap}
use Rattle.ioc_store.specs.OneMap.{world_of, given_of, device_at}
use Rattle.rec_types.specs.Record.{Record, record_rules}
use Rattle.ioc_sim.specs.declared.machine.Machine.{Machine as Kept}
use Rattle.ioc_sim.specs.SeenMachine.{machine_of}
use Rattle.ioc_sim.proofs.Closing.{none_yet, settled_same, room_same}
use Rattle.ioc_dbfile.specs.Finished.{Owner}
use Rattle.ioc_dbfile.specs.OwnerTable.{owner_in}
use Rattle.ioc_sim.specs.Machine.{Machine, Gives, Queued, TakesAnswer, answers_from, left_after, stepped_on, relinked_on}
use Rattle.ioc_sim.specs.Scanner.{Scanner}
use Rattle.ioc_sim.proofs.Scripting.{left_is, accords}

-- Machines with equal parts are equal.
module _ {R : Type 0} (n : ℕ) (x : List ℕ) where
  pub same_machine : (o o' : Owner) (w w' : World R) (d d' : Queued) (t t' : Tally) (s s' : Scanner) → o ≡ o' → w ≡ w' → d ≡ d' → t ≡ t' → s ≡ s'
      → (let a : Machine R = record { world = w; queued = d; tally = t; scanner = s; owner = o; next = n; ended = x } in let b : Machine R = record { world = w'; queued = d'; tally = t'; scanner = s'; owner = o'; next = n; ended = x } in a ≡ b)
  same_machine o o' w w' d d' t t' s s' u e f g h = λ i. record { world = e i; queued = f i; tally = g i; scanner = h i; owner = u i; next = n; ended = x }

-- A tally without counts is the first one.
pub none_counted : (t : Tally) → t.begun ≡ 0 × (t.processed ≡ 0 × (t.disabled ≡ 0 × (t.active ≡ 0 × (t.reprocess ≡ 0 × (t.started ≡ 0 × t.completed ≡ 0))))) → t ≡ no_counts
none_counted t e = λ i. record {
  begun = e.0 i;
  processed = e.1.0 i;
  disabled = e.1.1.0 i;
  active = e.1.1.1.0 i;
  reprocess = e.1.1.1.1.0 i;
  started = e.1.1.1.1.1.0 i;
  completed = e.1.1.1.1.1.1 i;
}

-- Events leave a database settled.
abbrev pub LeaveSettled : {R : Type 0} → RecordRules R → Type 0
LeaveSettled {R} k = (answers : Answers) (w : World R) (event : Event) → IsSettled k w → IsSettled k (stepped k answers w event).world

-- The machine after the code of an event, before what the event sent is taken.
record IsDone {R : Type 0} (k : RecordRules R) (m after : Machine R) (reply : Reply) (event : Event) : Type 0 where
  pub gives : Gives (stepped_on k m event) after reply
  pub settled : LeaveSettled k → IsSettled k (begun m.world) → IsSettled k after.world

event_is : {R : Type 0} (k : RecordRules R) (m : Machine R) (event : Event) (start w : World R) (before after : Given (List Answer)) (t : Tally) (reply : Reply)
    → start ≡ begun m.world → before.devices ≡ m.queued → before.calls ≡ [] → Begins TakesAnswer before after → after.calls ≡ w.calls
    → ForAnswers after (λ answers. Tells start w reply m.tally t event (stepped k answers start event))
    → IsDone k m (record { world = w; queued = after.devices; tally = t; scanner = m.scanner; owner = m.owner; next = m.next; ended = m.ended }) reply event
unfolding stepped_on
event_is {R} k m event start w before after t reply begins devices none work calls step =
    let answers = answers_from m.queued in
    let told : Tells (begun m.world) w reply m.tally t event (stepped k answers (begun m.world) event) =
    subst (λ (s : World R). Tells s w reply m.tally t event (stepped k answers s event)) begins (step answers (accords m.queued before after devices none work)) in
    let left : after.devices ≡ left_after m.queued (stepped k answers (begun m.world) event).world.calls =
    left_is m.queued before after devices none work ∙ ap (left_after m.queued) (calls ∙ ap (λ (x : World R). x.calls) told.world) in
    record {
      gives = (same_machine m.next m.ended _ _ _ _ _ _ _ _ _ _ refl told.world left told.tally refl, told.reply);
      settled = λ leaves is. subst (IsSettled k) (sym told.world) (leaves answers (begun m.world) event is);
    }

-- The machine of the code with these records and devices, and these counts.
abbrev run_on : Kept → OneMap Record (List Answer) → Tally → Machine Record
run_on m after t =
    record {
      world = world_of after;
      queued = device_at after.devices.items;
      tally = t;
      scanner = m.scanner;
      owner = owner_in m.owners;
      next = m.next;
      ended = m.ended.items;
    }

-- The database of the code's machine once an event has begun.
module _ (m : Kept) (start : OneMap Record (List Answer)) (begins : world_of start ≡ begun (world_of m.map)) where
  pub settled_on : IsSettled record_rules (world_of start)
  settled_on = settled_same record_rules (world_of m.map) (world_of start) begins m.settled

  pub closed_on : IsClosed record_rules (world_of start)
  closed_on = settled_on.closed

  pub room_on : len (world_of start).records ≤ vec_capacity m.frames
  room_on = room_same (world_of m.map) (world_of start) _ begins m.room

-- What the code of an event leaves of its machine, whose records and devices are in one map.
pub record Leaves (m : Kept) (event : Event) (after : OneMap Record (List Answer)) (t : Tally) (reply : Reply) : Type 0 where
  pub gives : Gives (stepped_on record_rules (machine_of m) event) (run_on m after t) reply
  pub settled : LeaveSettled record_rules → IsSettled record_rules (world_of after)

module _ (m : Kept) (event : Event) (start after : OneMap Record (List Answer)) (begins : world_of start ≡ begun (world_of m.map)) (same : start.devices ≡ m.map.devices) where
  devices_same : device_at start.devices.items ≡ device_at m.map.devices.items
  devices_same = ap (λ (v : Vec (Option (List Answer))). device_at v.items) same

  left_by : (t : Tally) (reply : Reply) → IsDone record_rules (machine_of m) (run_on m after t) reply event → Leaves m event after t reply
  left_by t reply is =
      record { gives = is.gives; settled = λ leaves. is.settled leaves (settled_same record_rules (world_of m.map) (begun (world_of m.map)) refl m.settled) }

  pub event_on : (t : Tally) (reply : Reply) → Begins TakesAnswer (given_of start) (given_of after)
      → ForAnswers (given_of after) (λ answers. Tells (world_of start) (world_of after) reply m.tally t event (stepped record_rules answers (world_of start) event))
      → Leaves m event after t reply
  event_on t reply work step =
      left_by t reply
      (event_is record_rules (machine_of m) event (world_of start) (world_of after) (given_of start) (given_of after) t reply begins devices_same (none_yet start (world_of m.map) begins) work refl step)

-- A machine after the code of a link change, with the same devices and counts.
module _ (m : Kept) (start after : OneMap Record (List Answer)) (begins : world_of start ≡ begun (world_of m.map)) (same : start.devices ≡ m.map.devices) (kept : given_of after ≡ given_of start) (n : ℕ) (field : FieldNo) (link : LinkField) where
  devices_kept : device_at after.devices.items ≡ device_at m.map.devices.items
  devices_kept = ap (λ (g : Given (List Answer)). g.devices) kept ∙ ap (λ (v : Vec (Option (List Answer))). device_at v.items) same

  refused_on : (e : Option IocError) → link_refusal record_rules (world_of start) n field link ≡ e → link_refusal record_rules (begun (world_of m.map)) n field link ≡ e
  refused_on e is = subst (λ (w : World Record). link_refusal record_rules w n field link ≡ e) begins is

  pub link_on : link_refusal record_rules (world_of start) n field link ≡ None-reason → world_of after ≡ relinked record_rules (world_of start) n field link
      → Gives (relinked_on record_rules (machine_of m) n field link) (run_on m after m.tally) Plain
  unfolding relinked_on
  link_on taken is =
      rw (refused_on None-reason taken)
      (same_machine m.next m.ended.items _ _ _ _ _ _ _ _ _ _ refl (is ∙ ap (λ (w : World Record). relinked record_rules w n field link) begins) devices_kept refl refl, refl)

  pub no_link_on : (e : IocError) → link_refusal record_rules (world_of start) n field link ≡ Some e → world_of after ≡ world_of start
      → Gives (relinked_on record_rules (machine_of m) n field link) (run_on m after m.tally) (Refused e)
  unfolding relinked_on
  no_link_on e refused is =
      rw (refused_on (Some e) refused) (same_machine m.next m.ended.items _ _ _ _ _ _ _ _ _ _ refl (is ∙ begins) devices_kept refl refl, refl)

-- What is true of a successful result, and of one that fails.
pub on_ok : {T E : Type 0} (r : Result T E) (x : T) (P : Type 0) → r ≡ Ok x → OnOk r P → P
on_ok r x P is p = subst (λ (s : Result _ _). OnOk s P) is p

pub on_err : {T E : Type 0} (r : Result T E) (e : E) (P : Type 0) → r ≡ Err e → OnErr r P → P
on_err r e P is p = subst (λ (s : Result _ _). OnErr s P) is p

pub if_err : {T E : Type 0} (r : Result T E) (e : E) (P : E → Type 0) → r ≡ Err e → IfErr r P → P e
if_err r e P is p = subst (λ (s : Result _ _). IfErr s P) is p

-- After a link change, refused or not, no link leaves the records and their number is the same.
module _ {T E : Type 0} (n : ℕ) (field : FieldNo) (link : LinkField) (w after : World Record) where
  pub link_settled : (r : Result T E)
      → ((v : World Record) (m : ℕ) (f : FieldNo) (l : LinkField) → link_refusal record_rules v m f l ≡ None-reason → IsSettled record_rules v → IsSettled record_rules (relinked record_rules v m f l))
      → OnOk r (link_refusal record_rules w n field link ≡ None-reason) → OnOk r (after ≡ relinked record_rules w n field link) → OnErr r (after ≡ w) → IsSettled record_rules w → IsSettled record_rules after
  link_settled (Ok x) keeps taken is same settled = subst (λ (v : World Record). IsSettled record_rules v) (sym is) (keeps w n field link taken settled)
  link_settled (Err e) keeps taken is same settled = subst (λ (v : World Record). IsSettled record_rules v) (sym same) settled

  pub link_count : (r : Result T E)
      → ((v : World Record) (m : ℕ) (f : FieldNo) (l : LinkField) → link_refusal record_rules v m f l ≡ None-reason → IsClosed record_rules v → len (relinked record_rules v m f l).records ≡ len v.records)
      → OnOk r (link_refusal record_rules w n field link ≡ None-reason) → OnOk r (after ≡ relinked record_rules w n field link) → OnErr r (after ≡ w) → IsClosed record_rules w
      → len after.records ≡ len w.records
  link_count (Ok x) keeps taken is same closed = ap (λ (v : World Record). len v.records) is ∙ keeps w n field link taken closed
  link_count (Err e) keeps taken is same closed = ap (λ (v : World Record). len v.records) same
