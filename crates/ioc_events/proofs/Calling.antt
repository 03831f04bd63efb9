-- Calls keep what events and link changes keep.
use Rattle.std.proofs.Common.{◌≡◌, ℕ, Bool, List, Option, Some, None as Nothing_, refl, sym, ap, subst, ◌∙◌}
use Rattle.std.specs.Prelude.{Result}
use Rattle.ioc_values.specs.declared.error.IocError.{IocError}
use Rattle.ioc_fields.specs.declared.field_no.FieldNo.{FieldNo}
use Rattle.ioc_ledger.specs.Requests.{Requests, None}
use Rattle.ioc_dbcommon.specs.declared.link_field.LinkField.{LinkField}
use Rattle.ioc_dbcommon.specs.declared.common.Common.{Common}
use Rattle.ioc_record.specs.RecordRules.{RecordRules}
use Rattle.ioc_record.specs.Laws.{IsLawful}
use Rattle.ioc_store.specs.World.{World, IsClosed, at, put}
use Rattle.ioc_store.specs.Worlds.{has-put}
use Rattle.ioc_store.specs.Given.{Answers, listed}
use Rattle.ioc_store.specs.Scanning.{device_of}
use Rattle.ioc_store.specs.ScanLaws.{rewired-either}
use Rattle.ioc_process.specs.Rules.{IsSettled}
use Rattle.ioc_process.specs.Telling.{IsFree, told-put, moved-told}
use Rattle.ioc_events.specs.declared.event.Entry.{Entry}
use Rattle.ioc_events.specs.declared.event.Call.{Call}
use Rattle.ioc_events.specs.declared.event.Call.TheVariants as call
use Rattle.ioc_events.specs.Step.{Stepped, link_refusal, relinked}
use Rattle.ioc_events.specs.Calls.{Called, called, linked}
use Rattle.ioc_events.specs.StepRules.{Calls, does_event, shows_field, tells_if_live, keeps_its_link, takes_link, posts_event, interrupts, Replay, at_the_end, and_then, KeepsRecords}
use Rattle.ioc_events.specs.Starting.{NoneReady}
use Rattle.ioc_events.specs.Holding.{HoldersAwait}
use Rattle.ioc_events.proofs.LinkChanges.{link-parts}
use Rattle.ioc_events.proofs.QuietEvents.{step-settled, link-settled, moved-settled, begun-settled}
use Rattle.ioc_events.proofs.KeptRecords.{all-kept, linked-kept, step-records}
use Rattle.ioc_events.proofs.NoneReady.{step-none, none-same, as_idle-linked}
use Rattle.ioc_events.proofs.Waitings.{rewired-waiting, put-waiting}
use Rattle.ioc_events.proofs.StepLaws.{step-is, step-allowed}
use Rattle.ioc_events.proofs.ToldEvents.{step-told, all-told, none-ready, awaits-of, begun-awaits}

module _ {R : Type 0} (k : RecordRules R) (lawful : IsLawful k) where
  relinked-settled : (w : World R) (s : ℕ) (field : FieldNo) (link : LinkField) → link_refusal k w s field link ≡ Nothing_ → IsSettled k w → IsSettled k (relinked k w s field link)
  relinked-settled w s field link kept settled =
      let parts = link-parts k w s field link kept in
      let v = put w s (k.with_link (at k w s) field link) in
      let put_first = link-settled k lawful w s field link parts.0 parts.1 settled in
      rewired-either k (IsSettled k) (device_of k (at k w s)) v s put_first (moved-settled k lawful v s (has-put k w s s _ parts.0) put_first)

  pub calls-settled : (answers : Answers) {w w' : World R} {c : Call} {requests : Requests} → Calls k answers w c w' requests → IsSettled k w → IsSettled k w'
  calls-settled answers (does_event step) settled = step-settled k lawful answers step settled
  calls-settled answers (shows_field _) settled = settled
  calls-settled answers (tells_if_live _) settled = settled
  calls-settled answers (keeps_its_link _) settled = settled
  calls-settled answers (takes_link {w} {s} {field} {link} kept) settled = relinked-settled w s field link kept settled
  calls-settled answers posts_event settled = settled
  calls-settled answers interrupts settled = settled

  pub replay-settled : {w w' : World R} {entries : List Entry} → Replay k w entries w' → IsSettled k w → IsSettled k w'
  replay-settled at_the_end settled = settled
  replay-settled (and_then {w} {w'} {w''} {entry} {entries} first _ rest) settled = replay-settled rest (calls-settled (listed entry.answers) first (begun-settled k lawful entry.moment w settled))

  pub calls-records : (answers : Answers) {w w' : World R} {c : Call} {requests : Requests} → Calls k answers w c w' requests → IsClosed k w → KeepsRecords w w'
  calls-records answers (does_event step) closed = step-records k lawful answers step closed
  calls-records answers (shows_field {w} _) closed = all-kept k lawful w
  calls-records answers (tells_if_live {w} _) closed = all-kept k lawful w
  calls-records answers (keeps_its_link {w} _) closed = all-kept k lawful w
  calls-records answers (takes_link {w} {s} {field} {link} kept) closed = linked-kept k lawful w s (k.with_link (at k w s) field link) (device_of k (at k w s)) (link-parts k w s field link kept).0
  calls-records answers (posts_event {w}) closed = all-kept k lawful w
  calls-records answers (interrupts {w}) closed = all-kept k lawful w

  pub calls-none : (answers : Answers) {w w' : World R} {c : Call} {requests : Requests} → Calls k answers w c w' requests → NoneReady k w → NoneReady k w'
  calls-none answers (does_event step) none = step-none k lawful answers step none
  calls-none answers (shows_field _) none = none
  calls-none answers (tells_if_live _) none = none
  calls-none answers (keeps_its_link _) none = none
  calls-none answers (takes_link {w} {s} {field} {link} _) none =
      none-same k lawful w _ (as_idle-linked k lawful w s field link (device_of k (at k w s))) (rewired-waiting k lawful _ _ s ∙ put-waiting k lawful w s _) none
  calls-none answers posts_event none = none
  calls-none answers interrupts none = none

  -- The rules allow what `called` says and nothing else.
  pub calls-is : (answers : Answers) {w w' : World R} {c : Call} {requests : Requests} → Calls k answers w c w' requests → called k answers w c ≡ record { world = w'; call = c; requests = requests }
  unfolding called
  calls-is answers (does_event {w} {w'} {event} {reply} step) = ap (λ (d : Stepped R). record { world = d.world; call = call.Event event d.reply; requests = d.requests }) (step-is k lawful answers step)
  calls-is answers (shows_field {w} {s} {field} is) = ap (λ (text : Result (List ℕ) IocError). record { world = w; call = call.Get s field text; requests = None }) is
  calls-is answers (tells_if_live {w} {number} is) = ap (λ (b : Bool). record { world = w; call = call.IsLive number b; requests = None }) is
  calls-is answers (keeps_its_link {w} {s} {field} {link} is) = ap (linked k answers w s field link) is
  calls-is answers (takes_link {w} {s} {field} {link} is) = ap (linked k answers w s field link) is
  calls-is answers posts_event = refl
  calls-is answers interrupts = refl

  link-allowed : (answers : Answers) (w : World R) (s : ℕ) (field : FieldNo) (link : LinkField) (o : Option IocError) → link_refusal k w s field link ≡ o
      → let done = linked k answers w s field link o in Calls k answers w done.call done.world done.requests
  link-allowed answers w s field link (Some e) is = keeps_its_link is
  link-allowed answers w s field link Nothing_ is = takes_link is

  pub calls-allowed : (answers : Answers) (w : World R) (c : Call) → Calls k answers w (called k answers w c).call (called k answers w c).world (called k answers w c).requests
  unfolding called
  calls-allowed answers w (call.Event event reply) = does_event (step-allowed k lawful answers w event)
  calls-allowed answers w (call.Get s field text) = shows_field refl
  calls-allowed answers w (call.IsLive number live) = tells_if_live refl
  calls-allowed answers w (call.Link s field link reply) = link-allowed answers w s field link _ refl
  calls-allowed answers w (call.Post name count) = posts_event
  calls-allowed answers w (call.Interrupt device count) = interrupts

  -- A list of calls replays in one way.
  pub replay-is : {w w' w'' : World R} {entries : List Entry} → Replay k w entries w' → Replay k w entries w'' → w' ≡ w''
  replay-is at_the_end at_the_end = refl
  replay-is (and_then {w} {w'} {w''} {entry} {entries} first _ rest) (and_then second _ others) =
      let same = sym (calls-is (listed entry.answers) first) ∙ calls-is (listed entry.answers) second in
      replay-is (subst (λ (v : World R). Replay k v entries w'') (ap (λ (x : Called R). x.world) same) rest) others

module _ {R : Type 0} (k : RecordRules R) (lawful : IsLawful k) where
  calls-told : (answers : Answers) (n : ℕ) {w w' : World R} {c : Call} {requests : Requests} → Calls k answers w c w' requests → IsFree k lawful n w → IsFree k lawful n w'
  calls-told answers n (does_event step) told = step-told k lawful n answers step told
  calls-told answers n (shows_field _) told = told
  calls-told answers n (tells_if_live _) told = told
  calls-told answers n (keeps_its_link _) told = told
  calls-told answers n (takes_link {w} {s} {field} {link} _) told =
      let linked_ = told-put k lawful n w s (k.with_link (at k w s) field link) (lawful.link_set_active (at k w s) field link) (ap (λ (c : Common). c.notification) (lawful.link_set_common (at k w s) field link)) told in
      rewired-either k (IsFree k lawful n) _ _ s linked_ (moved-told k lawful n _ s linked_)
  calls-told answers n posts_event told = told
  calls-told answers n interrupts told = told

  pub calls-awaits : (answers : Answers) {w w' : World R} {c : Call} {requests : Requests} → Calls k answers w c w' requests → IsSettled k w → HoldersAwait k w → HoldersAwait k w'
  calls-awaits answers {w} calls settled await =
      awaits-of k lawful _ (calls-settled k lawful answers calls settled) (λ n. calls-told answers n calls (all-told k lawful w settled await n)) (calls-none k lawful answers calls (none-ready k lawful w settled await))

  pub replay-awaits : {w w' : World R} {entries : List Entry} → Replay k w entries w' → IsSettled k w → HoldersAwait k w → HoldersAwait k w'
  replay-awaits at_the_end settled await = await
  replay-awaits (and_then {w} {w'} {w''} {entry} {entries} calls _ rest) settled await =
      let first = begun-settled k lawful entry.moment w settled in
      replay-awaits rest (calls-settled k lawful (listed entry.answers) calls first) (calls-awaits (listed entry.answers) calls first (begun-awaits k lawful entry.moment w await))
