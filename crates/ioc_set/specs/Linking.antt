-- A link change on lock sets: one is divided or two become one, and a change of a scan list is
-- sent.
--
-- Application Developer's Guide, "Database Locking, Scanning, and Processing": a changed link
-- divides lock sets or joins them.
use Rattle.std.specs.Prelude.{◌≡◌, ◌≢◌, ◌↔◌, ℕ, ◌+◌, ◌^◌, ◌<◌, ◌≤◌, List, [], ◌++◌, length, Contains, IsSome, IsTrue, None}
use Rattle.std.specs.FinMap.{get}
use Rattle.ioc_fields.specs.declared.field_no.FieldNo.{FieldNo}
use Rattle.ioc_dbcommon.specs.declared.link_field.LinkField.{LinkField}
use Rattle.ioc_dbcommon.specs.Links.{no_link}
use Rattle.ioc_ledger.specs.declared.tally.Tally.{Tally}
use Rattle.ioc_ledger.specs.Requests.{added, no_counts}
use Rattle.ioc_ledger.specs.Shared.{less_awaited}
use Rattle.ioc_notify.specs.declared.live_numbers.Live.{Live}
use Rattle.ioc_notify.specs.declared.waiting_lists.Waiting.{Waiting}
use Rattle.ioc_record.specs.RecordRules.{RecordRules}
use Rattle.ioc_set_records.specs.Contents.{Records, Devices, record_at}
use Rattle.ioc_set_records.specs.Joined.{AreShared, relinked}
use Rattle.ioc_store.specs.World.{World, begun_at}
use Rattle.ioc_store.specs.Scanning.{device_of, rewired, with_link_changed}
use Rattle.ioc_events.specs.Holding.{HoldersAwait, HoldersCounted}
use Rattle.ioc_set.specs.SetState.{SetState, NoneIsLive, now_of, nothing_held}
use Rattle.ioc_set.specs.Resting.{resting}
use Rattle.ioc_set.specs.Doing.{with_kept}
use Rattle.ioc_set.specs.Recounting.{WaitsGoAlong, together}
use Rattle.ioc_set.specs.Sound.{IsSound}

-- The set with these records, devices, puts with notification and counts, and with an empty
-- history.
abbrev pub with_empty_history : {R D : Type 0} → Records R → Devices D → List Live → List Waiting → Tally → SetState R D
with_empty_history rs ds live waiting counts = record {
  records = rs;
  devices = ds;
  live = live;
  waiting = waiting;
  tally = counts;
  base = record { records = rs; live = live; waiting = waiting; tally = counts };
  history = [];
}

-- The tally with this many calls that are answered later, and nothing else.
abbrev pub awaited_alone : ℕ → Tally
awaited_alone count = record no_counts { started = count }

module _ {R : Type 0} (k : RecordRules R) where
  -- A record between events that is part of no put with notification: it is active if and only if a
  -- completion of it is pending.
  pub record IsCalm (r : R) : Type 0 where
    pub quiet : IsTrue (k.common r).active ↔ IsSome (k.common r).pending
    pub free : (k.common r).notification ≡ None

  abbrev pub AreCalm : Records R → Type 0
  AreCalm rs = (n : ℕ) → IsSome (get rs n) → IsCalm (record_at k rs n)

  -- None of these records awaits a completion.
  abbrev pub NoneAwaits : Records R → Type 0
  NoneAwaits rs = (n : ℕ) → IsSome (get rs n) → (k.common (record_at k rs n)).pending ≡ None

  -- Records between events, with these puts with notification: each record is active if and only if
  -- a completion of it is pending; one that is part of a put with notification, or that one waits
  -- for, awaits a completion; and the parts of each are counted.
  pub record AreHeld (rs : Records R) (live : List Live) (waiting : List Waiting) : Type 0 where
    pub quiet : (n : ℕ) → IsSome (get rs n) → IsTrue (k.common (record_at k rs n)).active ↔ IsSome (k.common (record_at k rs n)).pending
    pub holders_await : HoldersAwait k (resting rs live waiting)
    pub counted : HoldersCounted k (resting rs live waiting)

  -- The effect of a link change with this time stamp on the state of a set.
  abbrev pub link_change_of : {D : Type 0} → SetState R D → ℕ → ℕ → FieldNo → LinkField → World R
  link_change_of h moment s field link = with_link_changed k (begun_at moment (now_of h)) s field link

module _ {R D : Type 0} where
  -- A set is divided: each of these records, which are its own with a link changed, and each device
  -- is in exactly one of two sets with empty histories. A waiting put stays with the record that it
  -- waits for. The set with the record of this number keeps the counts, except for the answers that
  -- the records of the rest still await: the rest counts these, and nothing else. Both together
  -- have the former counts.
  pub record FallsApart (before : SetState R D) (changed : Records R) (number : ℕ) (stay rest : SetState R D) : Type 0 where
    pub shared : AreShared (get changed) (get stay.records) (get rest.records)
    pub devices : AreShared (get before.devices) (get stay.devices) (get rest.devices)
    pub own : IsSome (get stay.records number)
    pub waiting : WaitsGoAlong before.waiting stay.records stay.waiting
    pub rest_waiting : WaitsGoAlong before.waiting rest.records rest.waiting
    pub none_live : NoneIsLive before → NoneIsLive stay × NoneIsLive rest
    pub stays : stay ≡ with_empty_history stay.records stay.devices stay.live stay.waiting (less_awaited before.tally rest.tally.started)
    pub leaves : rest ≡ with_empty_history rest.records rest.devices rest.live rest.waiting (awaited_alone rest.tally.started)
    pub few : rest.tally.started < 2 ^ 63
    pub together : added stay.tally rest.tally ≡ before.tally

  -- Two sets may become one: each waiting put waits for a record of its set, none waits in both,
  -- and the live and the waiting ones of both fit into one set.
  pub record MayBeOne (before other : SetState R D) : Type 0 where
    pub own : (x : Waiting) → Contains before.waiting x → IsSome (get before.records x.target)
    pub others_own : (x : Waiting) → Contains other.waiting x → IsSome (get other.records x.target)
    pub apart : (x y : Waiting) → Contains before.waiting x → Contains other.waiting y → x.number ≢ y.number
    pub live_fits : length (together before.live other.live) ≤ 256
    pub waiting_fits : length before.waiting + length other.waiting ≤ 256

  -- Two sets become one with an empty history: it has these records, which are those of the first
  -- set with a link changed and those of the other, the devices of both, the puts that wait in the
  -- first followed by those in the other, and the counts of both. The other set is empty then.
  pub record BecomeOne (before other : SetState R D) (changed : Records R) (both other_then : SetState R D) : Type 0 where
    pub shared : AreShared (get both.records) (get changed) (get other.records)
    pub devices : AreShared (get both.devices) (get before.devices) (get other.devices)
    pub waiting : both.waiting ≡ before.waiting ++ other.waiting
    pub none_live : NoneIsLive before → NoneIsLive other → NoneIsLive both
    pub all : both ≡ with_empty_history both.records both.devices both.live both.waiting (added before.tally other.tally)
    pub emptied : other_then ≡ nothing_held

  -- A link of a record is changed to lead from one set into another. With an empty link in its
  -- place, the first set is divided into what stays with the record and the rest; what stays, with
  -- the new link, and the other set become one; and then a change of the record's scan list is sent
  -- if its device link differs.
  pub record LeadsInto (k : RecordRules R) (before other : SetState R D) (moment number : ℕ) (field : FieldNo) (link : LinkField) (after other_then rest : SetState R D) (come_to : World R) : Type 0 where
    pub stay : SetState R D
    pub both : SetState R D
    pub falls : FallsApart before (relinked k before.records number field no_link) number stay rest
    pub joins : BecomeOne stay other (relinked k stay.records number field link) both other_then
    pub sound : IsSound k both
    pub sent : with_kept after.records both.live both.waiting come_to ≡ rewired k (device_of k (record_at k before.records number)) (begun_at moment (now_of both)) number
    pub then_empty : after ≡ with_empty_history after.records both.devices both.live both.waiting both.tally
