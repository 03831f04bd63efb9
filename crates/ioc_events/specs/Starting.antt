-- Puts with notification: which of them wait for their record, and how one starts.
--
-- Application Developer's Guide, "Put with Notification" (dbPutNotify, the restart list).
use Rattle.std.specs.Prelude.{◌≡◌, ◌≢◌, ℕ, zero, suc, ◌≤◌, ◌==◌, nat_le, Bool, true, false, ◌&&◌, ◌||◌, not, if◌then◌else◌, is_some, length, slice_get, List, [], ◌∷◌, Contains, Option, Some, Result, Ok, Err}
use Rattle.std.specs.Prelude.{None as Nothing_}
use Rattle.std.specs.List.{list_any}
use Rattle.std.specs.FinMap.{contains_key}
use Rattle.ioc_values.specs.declared.error.IocError.{IocError}
use Rattle.ioc_values.specs.declared.input.Input.{Input}
use Rattle.ioc_values.specs.declared.value.Value.{Value}
use Rattle.ioc_fields.specs.declared.field_no.FieldNo.{FieldNo}
use Rattle.ioc_fields.specs.Table.{is_process_passive}
use Rattle.ioc_notify.specs.declared.waiting_lists.Waiting.{Waiting}
use Rattle.ioc_notify.specs.Waits.{at_record}
use Rattle.ioc_dbcommon.specs.Steps.{is_passive, with_put_mark, with_notification}
use Rattle.ioc_ledger.specs.Requests.{None, followed_by}
use Rattle.ioc_record.specs.RecordRules.{RecordRules}
use Rattle.ioc_record.specs.Values.{put_tested, converted_for}
use Rattle.ioc_store.specs.World.{World, Has, at, common_at, put, changed, unqueued}
use Rattle.ioc_store.specs.Links.{is_proc}
use Rattle.ioc_store.specs.Scanning.{rescanned}
use Rattle.ioc_store.specs.Notifying.{notified}
use Rattle.ioc_store.specs.Given.{Answers}
use Rattle.ioc_process.specs.Processing.{Done, request}

-- Holds if a put to the field processes the record: the field is PROC, or it is process-passive and
-- the record is passive.
unfoldable pub processes : {R : Type 0} → RecordRules R → R → FieldNo → Bool
processes k r field = is_proc field || (is_process_passive (k.record_type r) field && is_passive (k.common r))

-- The value, converted for the field, if the test of a client's put permits it.
abbrev pub value_if : {R : Type 0} → RecordRules R → R → FieldNo → Input → Result Unit IocError → Result Value IocError
value_if k r field given (Ok _) = converted_for k r field given
value_if k r field given (Err e) = Err e

-- The value that a client's put stores, tested and converted once.
unfoldable pub value_to_put : {R : Type 0} → RecordRules R → R → FieldNo → Input → Result Value IocError
value_to_put k r field given = value_if k r field given (put_tested k r field)

-- The one that starts sooner: that of the lower record number, and for the same record the one that
-- came first.
abbrev pub sooner : Option Waiting → Waiting → Waiting
sooner Nothing_ x = x
sooner (Some y) x = if nat_le y.target x.target then y else x

module _ {R : Type 0} (k : RecordRules R) where
  -- Holds if a put with notification waits: its record is active, is part of one, or has one
  -- waiting.
  unfoldable pub must_wait : World R → ℕ → Bool
  must_wait w s = (common_at k w s).active || (is_some (common_at k w s).notification || list_any (λ x. x.target == s) w.waiting)

  -- Holds if a waiting one may start: its record is idle and part of no put with notification.
  unfoldable pub is_ready : World R → Waiting → Bool
  is_ready w x = contains_key w.records x.target && (not (common_at k w x.target).active && not (is_some (common_at k w x.target).notification))

  -- The one that starts next: this one, or one of these.
  abbrev pub next_from : World R → Option Waiting → List Waiting → Option Waiting
  next_from w best [] = best
  next_from w best (x ∷ xs) = next_from w (if is_ready w x then Some (sooner best x) else best) xs

  -- The one that starts next, of all that wait.
  unfoldable pub next_waiting : World R → Option Waiting
  next_waiting w = next_from w Nothing_ w.waiting

  -- The record becomes part of the put with notification, and the value is stored.
  unfoldable pub taken_and_stored : World R → Waiting → World R
  taken_and_stored w x =
      let taken = changed k w x.target (with_notification (Some x.number)) in
      rescanned k (put taken x.target (k.stored (at k taken x.target) x.field x.value)) x.target x.field

module _ {R : Type 0} (k : RecordRules R) (answers : Answers) where
  -- A put with notification starts: the value is stored, and the record is processed as after a
  -- put. If nothing is processed, it ends immediately.
  unfoldable pub started : World R → Waiting → Done R
  started w x =
      let stored = taken_and_stored k w x in
      if processes k (at k stored x.target) x.field
      then request k answers (changed k stored x.target (with_put_mark true)) x.target
      else record { world = notified k stored x.target; requests = None }

  -- The next one starts, if there is one, and then the others.
  abbrev pub started_then : (World R → Done R) → World R → Option Waiting → Done R
  started_then more w Nothing_ = record { world = w; requests = None }
  started_then more w (Some x) =
      let first = started (unqueued x.number w) x in
      let rest = more first.world in
      record { world = rest.world; requests = followed_by first.requests rest.requests }

  -- At most this many start, one after another.
  unfoldable pub started_most : ℕ → World R → Done R
  started_most zero w = record { world = w; requests = None }
  started_most (suc most) w = started_then (started_most most) w (next_waiting k w)

  -- Those that can start do, until there is none. Each then no longer waits, so no more start than
  -- wait.
  unfoldable pub all_started : World R → Done R
  all_started w = started_most (length w.waiting) w

module _ {R : Type 0} (k : RecordRules R) where
  -- It may start, it is the first of those that wait for its record, and no lower record has one
  -- that may start.
  pub record IsNext (w : World R) (x : Waiting) : Type 0 where
    pub ready : is_ready k w x ≡ true
    pub first : slice_get (at_record x.target w.waiting) 0 ≡ Some x
    pub lowest : (y : Waiting) → Contains w.waiting y → is_ready k w y ≡ true → x.target ≤ y.target

  -- None that waits may start.
  pub record NoneReady (w : World R) : Type 0 where
    pub none : (x : Waiting) → Contains w.waiting x → is_ready k w x ≡ false

-- This put with notification is cancelled: no record is part of it, it no longer waits, and nothing
-- has ended by that.
pub record IsGivenUp {R : Type 0} (k : RecordRules R) (number : ℕ) (before after : World R) : Type 0 where
  pub records : (n : ℕ) → Has after n → (common_at k after n).notification ≢ Some number
  pub waiting : (x : Waiting) → Contains after.waiting x → x.number ≢ number
  pub ended : after.ended ≡ before.ended
