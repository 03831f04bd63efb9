-- The effect of one event on a database, as a function. The rules that it computes are in
-- `StepRules`.
--
-- Application Developer's Guide, "Runtime Database Access": dbGetField, dbPutField, dbProcess,
-- dbPutNotify, dbNotifyCancel.
use Rattle.std.specs.Prelude.{ℕ, Bool, true, false, ◌==◌, length, drop, ◌&&◌, not, if◌then◌else◌, List, [], ◌∷◌, Option, Some, None as Nothing_, Result, Ok, Err, is_some}
use Rattle.std.specs.FinMap.{contains_key}
use Rattle.ioc_values.specs.declared.error.IocError.{IocError}
use Rattle.ioc_values.specs.declared.value.Value.{Value}
use Rattle.ioc_values.specs.declared.value.Finished.{Finished}
use Rattle.ioc_values.specs.declared.error.IocError.TheVariants.{NoRecord, NoField, PutDisabled, Stale, QueueFull}
use Rattle.ioc_fields.specs.declared.field_no.FieldNo.{FieldNo}
use Rattle.ioc_fields.specs.Table.{row_of}
use Rattle.ioc_ledger.specs.declared.outcome.Outcome.TheVariants.{Reprocess}
use Rattle.ioc_ledger.specs.declared.tally.Tally.{Tally}
use Rattle.ioc_ledger.specs.Requests.{Requests, None, Request, followed_by, counted_all}
use Rattle.ioc_notify.specs.declared.waiting_lists.Waiting.{Waiting}
use Rattle.ioc_notify.specs.Living.{is_live}
use Rattle.ioc_record.specs.RecordRules.{RecordRules}
use Rattle.ioc_dbcommon.specs.declared.common.Common.{Common}
use Rattle.ioc_dbcommon.specs.Steps.{with_put_mark, with_reprocess_mark}
use Rattle.ioc_dbcommon.specs.declared.link_field.LinkField.{LinkField}
use Rattle.ioc_dbcommon.specs.Links.{use_of, named_by}
use Rattle.ioc_record.specs.Values.{text_of, put_field, stops_put}
use Rattle.ioc_events.specs.declared.event.Event.{Event}
use Rattle.ioc_events.specs.declared.event.Event.TheVariants.{Process, Put, Complete, Notify, Cancel}
use Rattle.ioc_events.specs.declared.reply.Reply.{Reply}
use Rattle.ioc_events.specs.declared.reply.Reply.TheVariants.{Plain, Outcome as Outcome-reply, Notify as Notify-reply, Refused}
use Rattle.ioc_store.specs.World.{World, at, common_at, put, changed, has_place, admitted, queued, cancelled}
use Rattle.ioc_store.specs.declared.call.Call.{Call as DeviceCall}
use Rattle.ioc_store.specs.Given.{Answers, later_among}
use Rattle.ioc_store.specs.Scanning.{device_of, rescanned, rewired}
use Rattle.ioc_process.specs.Processing.{ran, resumed_with}
use Rattle.ioc_events.specs.Starting.{value_to_put, must_wait, started, all_started}
pub use Rattle.ioc_events.specs.Starting.{processes}

-- Holds if the record of the event exists. A cancel names none.
abbrev pub is_there : {R : Type 0} → World R → Event → Bool
is_there w (Process s) = contains_key w.records s
is_there w (Put s field given) = contains_key w.records s
is_there w (Complete s number finished) = contains_key w.records s
is_there w (Notify s number field given) = contains_key w.records s
is_there w (Cancel number) = true

-- The records that an event names.
abbrev pub names : Event → List ℕ
names (Process s) = s ∷ []
names (Put s field given) = s ∷ []
names (Complete s number finished) = s ∷ []
names (Notify s number field given) = s ∷ []
names (Cancel number) = []

-- Holds if all these records exist.
abbrev pub all_there : {R : Type 0} → World R → List ℕ → Bool
all_there w [] = true
all_there w (n ∷ ns) = contains_key w.records n && all_there w ns

-- The result of an event: the world afterwards, the reply, and the requests that were made.
pub record Stepped (R : Type 0) : Type 0 where
  pub world : World R
  pub reply : Reply
  pub requests : Requests

abbrev pub is_pending : Option ℕ → ℕ → Bool
is_pending Nothing_ number = false
is_pending (Some pending) number = pending == number

-- Holds if the record awaits the completion with this number.
abbrev pub awaits : Common → ℕ → Bool
awaits c number = is_pending c.pending number

-- A refusal: nothing has changed.
abbrev pub refused : {R : Type 0} → World R → IocError → Stepped R
refused w e = record { world = w; reply = Refused e; requests = None }

-- Holds of a refusal.
abbrev pub is_refusal : Reply → Bool
is_refusal (Refused e) = true
is_refusal _ = false

-- Waiting puts with notification start after an event, if they can, unless it was refused.
abbrev pub lets_start : Reply → Bool
lets_start reply = not (is_refusal reply)

module _ {R : Type 0} (k : RecordRules R) where
  -- The text of a field, or why there is none.
  unfoldable pub shown : World R → ℕ → FieldNo → Result (List ℕ) IocError
  shown w s field =
      if not (contains_key w.records s) then Err NoRecord
      else if is_some (row_of (k.record_type (at k w s)) field) then Ok (text_of k (at k w s) field)
      else Err NoField

  -- Why a link field keeps its link, if it does.
  unfoldable pub link_refusal : World R → ℕ → FieldNo → LinkField → Option IocError
  link_refusal w s field link =
      if not (contains_key w.records s && all_there w (named_by (use_of link))) then Some NoRecord
      else if not (is_some (k.link (at k w s) field)) then Some NoField
      else if stops_put (common_at k w s) field then Some PutDisabled
      else Nothing_

  -- The database in which a link field has another link; nothing is processed.
  abbrev pub relinked : World R → ℕ → FieldNo → LinkField → World R
  relinked w s field link = rewired k (device_of k (at k w s)) (put w s (k.with_link (at k w s) field link)) s

module _ {R : Type 0} (k : RecordRules R) (answers : Answers) where
  -- A request whose outcome is the reply.
  unfoldable pub told : World R → ℕ → Stepped R
  told w s = let done = ran k answers w s in record { world = done.world; reply = Outcome-reply done.outcome; requests = Request done.outcome done.requests None }

  -- A record that was put to is processed if the field requires it, and is marked so; an active one
  -- is marked for reprocessing.
  unfoldable pub after_put : World R → ℕ → FieldNo → Stepped R
  after_put w s field =
      if processes k (at k w s) field
      then (if (common_at k w s).active
      then record { world = changed k w s (with_reprocess_mark true); reply = Outcome-reply Reprocess; requests = Request Reprocess None None }
      else told (changed k w s (with_put_mark true)) s)
      else record { world = w; reply = Plain; requests = None }

  -- The device of the record has answered later.
  unfoldable pub after_completion : World R → ℕ → Finished → Stepped R
  after_completion w s x = let done = resumed_with k answers w s x in record { world = done.world; reply = Plain; requests = done.requests }

  abbrev pub put_with : World R → ℕ → FieldNo → Result R IocError → Stepped R
  put_with w s field (Ok r) = after_put (rescanned k (put w s r) s field) s field
  put_with w s field (Err e) = refused w e

  -- A put with notification whose value was tested and converted waits for its record, or starts.
  unfoldable pub begun_or_queued : World R → Waiting → Stepped R
  begun_or_queued w x =
      let entered = admitted x.number w in
      if must_wait k w x.target
      then record { world = queued x entered; reply = Notify-reply x.number; requests = None }
      else (let done = started k answers entered x in record { world = done.world; reply = Notify-reply x.number; requests = done.requests })

  abbrev pub notify_with : World R → ℕ → ℕ → FieldNo → Result Value IocError → Stepped R
  notify_with w s number field (Ok v) =
      if has_place w number
      then begun_or_queued w (record { number = number; target = s; field = field; value = v })
      else refused w QueueFull
  notify_with w s number field (Err e) = refused w e

  -- An event by itself, of a record that exists.
  unfoldable pub done_there : World R → Event → Stepped R
  done_there w (Process s) = told w s
  done_there w (Put s field given) = put_with w s field (put_field k (at k w s) field given)
  done_there w (Complete s number x) = if awaits (common_at k w s) number then after_completion w s x else refused w Stale
  done_there w (Notify s number field given) = notify_with w s number field (value_to_put k (at k w s) field given)
  done_there w (Cancel number) = if is_live number w.live then record { world = cancelled k number w; reply = Plain; requests = None } else refused w Stale

  -- An event by itself.
  unfoldable pub done_alone : World R → Event → Stepped R
  done_alone w event = if is_there w event then done_there w event else refused w NoRecord

  -- What was done, followed by the starts of those that waited and can start now.
  abbrev pub with_starts : Stepped R → Stepped R
  with_starts first = let rest = all_started k answers first.world in record { world = rest.world; reply = first.reply; requests = followed_by first.requests rest.requests }

  -- An event, after which waiting puts with notification start if they can, unless it was refused.
  unfoldable pub stepped : World R → Event → Stepped R
  stepped w event = let first = done_alone w event in if lets_start first.reply then with_starts first else first

-- Holds of a completion that isn't refused.
abbrev pub completes : Event → Reply → Bool
completes (Complete s number x) Plain = true
completes _ _ = false

-- The device calls that were made in an event.
abbrev pub calls_since : {R : Type 0} → World R → World R → List DeviceCall
calls_since before after = drop (length before.calls) after.calls

-- The tally with what an event adds: each request, each call that is answered later, and a
-- completion.
unfoldable pub tallied : {R : Type 0} → Tally → World R → Event → Stepped R → Tally
tallied t w event done = counted_all t done.requests (later_among (calls_since w done.world)) (completes event done.reply)
