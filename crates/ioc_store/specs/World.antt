-- A database in the course of an event: the records by their numbers, and the state of the event.
--
-- The event with its time stamp, calls and outbox is this project's own design.
use Rattle.std.specs.Prelude.{◌≡◌, ℕ, ◌+◌, ◌≤◌, ◌==◌, ◌&&◌, Bool, false, not, nat_lt, if◌then◌else◌, List, [], ◌∷◌, ◌++◌, length, map, unwrap_or, Contains, IsTrue, Option, Some}
use Rattle.std.specs.Prelude.{None as Nothing_}
use Rattle.std.specs.Ordering.{nat_cmp}
use Rattle.std.specs.FinMap.{FinMap, get, insert, entries, from_sorted, contains_key, len}
use Rattle.ioc_record.specs.RecordRules.{RecordRules, targets}
use Rattle.ioc_dbcommon.specs.declared.common.Common.{Common}
use Rattle.ioc_dbcommon.specs.Steps.{with_notification}
use Rattle.ioc_ledger.specs.Requests.{more}
use Rattle.ioc_store.specs.declared.call.Call.{Call}
use Rattle.ioc_store.specs.declared.outbox.OutboxItem.{OutboxItem}
use Rattle.ioc_notify.specs.declared.live_numbers.Live.{Live}
use Rattle.ioc_notify.specs.Living.{begun as begun_by, gained, lost as lost_by, forgotten, is_at_its_last, is_live}
use Rattle.ioc_notify.specs.declared.waiting_lists.Waiting.{Waiting}
use Rattle.ioc_notify.specs.Waits.{without}

pub record World (R : Type 0) : Type 0 where
  pub records : FinMap nat_cmp R
  -- The time stamp of the event, in nanoseconds since 1970-01-01 00:00 UTC.
  pub moment : ℕ
  -- The device calls of the event, in order.
  pub calls : List Call
  -- The items that the event sends, and the number of dropped ones.
  pub outbox : List OutboxItem
  pub dropped : ℕ
  -- The live puts with notification, with the number of records and waiting lists that are part of
  -- each, and those that have ended in the event.
  pub live : List Live
  pub ended : List ℕ
  -- The puts with notification that wait for their record, in the order in which they came.
  pub waiting : List Waiting

-- Holds if there is a record with this number.
abbrev pub Has : {R : Type 0} → World R → ℕ → Type 0
Has w n = IsTrue (contains_key w.records n)

-- The world with this record set.
unfoldable pub put : {R : Type 0} → World R → ℕ → R → World R
put w n r = record w { records = insert w.records n r }

-- An event begins with no call made and nothing sent.
unfoldable pub begun : {R : Type 0} → World R → World R
begun w = record w { calls = []; outbox = []; dropped = 0; ended = [] }

-- An event begins with this time stamp.
unfoldable pub begun_at : {R : Type 0} → ℕ → World R → World R
begun_at moment w = record (begun w) { moment = moment }

-- The world with one more call.
unfoldable pub called : {R : Type 0} → Call → World R → World R
called call w = record w { calls = w.calls ++ call ∷ [] }

-- The world with one more item sent. An event sends at most 256 items and counts those that it
-- drops.
unfoldable pub sent : {R : Type 0} → OutboxItem → World R → World R
sent item w = if nat_lt (length w.outbox) 256 then record w { outbox = w.outbox ++ item ∷ [] } else record w { dropped = more w.dropped }

-- The world with one more item dropped.
unfoldable pub lost : {R : Type 0} → World R → World R
lost w = record w { dropped = more w.dropped }

-- One more record is part of this put with notification.
unfoldable pub taken_on : {R : Type 0} → ℕ → World R → World R
taken_on number w = record w { live = gained number w.live }

-- One record less is part of this put with notification, which ends with the last one.
unfoldable pub let_go : {R : Type 0} → ℕ → World R → World R
let_go number w = record w { live = lost_by number w.live; ended = if is_at_its_last number w.live then w.ended ++ number ∷ [] else w.ended }

-- Holds if one more put with notification may begin with this number: at most 256 are live, and the
-- number is free.
abbrev pub has_place : {R : Type 0} → World R → ℕ → Bool
has_place w number = nat_lt (length w.live + length w.ended) 256 && (nat_lt (length w.waiting) 256 && not (is_live number w.live))

-- A put with notification begins, with one record or waiting list that is part of it.
unfoldable pub admitted : {R : Type 0} → ℕ → World R → World R
admitted number w = record w { live = begun_by number w.live }

-- A put with notification waits for its record, behind all that wait already.
unfoldable pub queued : {R : Type 0} → Waiting → World R → World R
queued x w = record w { waiting = w.waiting ++ x ∷ [] }

-- The put with notification of this number no longer waits.
unfoldable pub unqueued : {R : Type 0} → ℕ → World R → World R
unqueued number w = record w { waiting = without number w.waiting }

-- The sum of the weights of the records.
abbrev pub total : {R : Type 0} → (R → ℕ) → List (ℕ × R) → ℕ
total weight [] = 0
total weight (e ∷ es) = weight e.1 + total weight es

-- Holds if it is this put with notification.
abbrev pub is_notification : ℕ → Option ℕ → Bool
is_notification number Nothing_ = false
is_notification number (Some held) = held == number

module _ {R : Type 0} (k : RecordRules R) where
  -- The record is no longer part of this put with notification.
  abbrev pub freed : ℕ → R → R
  freed number r = if is_notification number (k.common r).notification then k.with_common r (with_notification Nothing_ (k.common r)) else r

  -- The put with notification is removed from all records and from the waiting list: it is no
  -- longer live and does not count as ended.
  unfoldable pub cancelled : ℕ → World R → World R
  cancelled number w = record w {
    records = from_sorted (map (λ e. (e.0, freed number e.1)) (entries w.records));
    live = forgotten number w.live;
    waiting = without number w.waiting;
  }

  -- The record with this number.
  unfoldable pub at : World R → ℕ → R
  at w n = unwrap_or (get w.records n) k.missing

  -- The common fields of the record with this number.
  abbrev pub common_at : World R → ℕ → Common
  common_at w n = k.common (at w n)

  -- The world with the common fields of one record changed.
  unfoldable pub changed : World R → ℕ → (Common → Common) → World R
  changed w n f = put w n (k.with_common (at w n) (f (common_at w n)))

  abbrev pub one_if_idle : R → ℕ
  one_if_idle r = if (k.common r).active then 0 else 1

  -- The number of idle records.
  unfoldable pub idle : World R → ℕ
  idle w = total one_if_idle (entries w.records)

  -- Holds if every standing link names a record that exists.
  pub record IsClosed (w : World R) : Type 0 where
    pub closed : (n target : ℕ) → Contains (targets k (at w n)) target → Has w target

-- Holds if the record type, the link fields and the link in each are unchanged, so that each link
-- leads to the same field of the same record.
pub record SameLinks {R : Type 0} (k : RecordRules R) (before after : R) : Type 0 where
  pub record_type : k.record_type after ≡ k.record_type before
  pub fields : k.link_fields after ≡ k.link_fields before
  pub links : k.link after ≡ k.link before

-- Holds if no record is added or removed, and each keeps its type and its links.
pub record Keeps {R : Type 0} (k : RecordRules R) (before after : World R) : Type 0 where
  pub has : (n : ℕ) → Has before n → Has after n
  pub only : (n : ℕ) → Has after n → Has before n
  pub count : len after.records ≡ len before.records
  pub links : (n : ℕ) → SameLinks k (at k before n) (at k after n)

-- Holds if no more records are idle than before, and record `s` is as active as it was.
pub record Stays {R : Type 0} (k : RecordRules R) (before : World R) (s : ℕ) (after : World R) : Type 0 where
  pub fewer : idle k after ≤ idle k before
  pub active : (common_at k after s).active ≡ (common_at k before s).active
