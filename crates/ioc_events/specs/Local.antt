-- The effect of an event on the records of some numbers, whatever other records exist, whichever
-- puts with notification those are part of, and whatever waits for them.
--
-- Application Developer's Guide, "Database Locking, Scanning, and Processing": records of other
-- lock sets play no part.
use Rattle.std.specs.Prelude.{◌≡◌, ◌≢◌, ℕ, Bool, true, false, if◌then◌else◌, Contains, Option, Some}
use Rattle.std.specs.Prelude.{None as Nothing_}
use Rattle.std.specs.FinMap.{contains_key}
use Rattle.ioc_record.specs.RecordRules.{RecordRules}
use Rattle.ioc_store.specs.World.{World, Has, common_at, has_place}
use Rattle.ioc_store.specs.Given.{Answers}
use Rattle.ioc_notify.specs.Living.{is_live}
use Rattle.ioc_notify.specs.declared.waiting_lists.Waiting.{Waiting}
use Rattle.ioc_events.specs.declared.event.Event.{Event}
use Rattle.ioc_events.specs.declared.event.Event.TheVariants.{Notify, Cancel}
use Rattle.ioc_events.specs.Beside.{Shut, Same, Spares}
use Rattle.ioc_events.specs.Starting.{is_ready}
use Rattle.ioc_events.specs.Step.{Stepped, names, stepped}
use Rattle.ioc_events.specs.declared.event.Call.{Call}
use Rattle.ioc_events.specs.declared.event.Call.TheVariants as call
use Rattle.ioc_events.specs.Calls.{Called, named, called}

-- The number of the put with notification that an event cancels, or that it begins if one more may
-- begin.
abbrev pub number_of : {R : Type 0} → World R → Event → Option ℕ
number_of w (Notify s number field given) = if has_place w number then Some number else Nothing_
number_of w (Cancel number) = Some number
number_of w _ = Nothing_

-- Holds if the answers to what an event asks about all puts with notification are equal in both
-- worlds: whether one more may begin, and whether one is live.
abbrev pub AskAlike : {R : Type 0} → World R → World R → Event → Type 0
AskAlike w v (Notify s number field given) = has_place w number ≡ has_place v number
AskAlike w v (Cancel number) = is_live number w.live ≡ is_live number v.live
AskAlike w v _ = Unit {0}

-- The same of a call.
abbrev pub AskAlikeCall : {R : Type 0} → World R → World R → Call → Type 0
AskAlikeCall w v (call.Event event reply) = AskAlike w v event
AskAlikeCall w v (call.IsLive number live) = is_live number w.live ≡ is_live number v.live
AskAlikeCall w v _ = Unit {0}

-- `mine` holds of the numbers of these records; `U` are the records with these numbers.
module _ {R : Type 0} (k : RecordRules R) (mine : ℕ → Bool) where
  -- The two worlds are equal in `U`, and each record in `U` exists in both or in neither.
  pub record Alike (w v : World R) : Type 0 where
    pub same : Same k mine w v
    pub there : (n : ℕ) → mine n ≡ true → contains_key w.records n ≡ contains_key v.records n

  -- Those that wait for records outside `U` are apart: none of them may start, and none has the
  -- number of one that waits in `U`.
  pub record KeepsApart (w : World R) : Type 0 where
    pub none_ready : (x : Waiting) → Contains w.waiting x → mine x.target ≡ false → is_ready k w x ≡ false
    pub numbers : (x y : Waiting) → Contains w.waiting x → Contains w.waiting y → mine x.target ≡ true → mine y.target ≡ false → x.number ≢ y.number

  -- An event is done within `U`: it names only records in `U`, its number is that of none that
  -- waits outside `U`, and the records that are part of a cancelled put with notification are in
  -- `U`.
  pub record IsWithin (w : World R) (event : Event) : Type 0 where
    pub named : (n : ℕ) → Contains (names event) n → mine n ≡ true
    pub waiting : (x : Waiting) → Contains w.waiting x → mine x.target ≡ false → number_of w event ≢ Some x.number
    pub holders : (number n : ℕ) → event ≡ Cancel number → Has w n → (common_at k w n).notification ≡ Some number → mine n ≡ true

  -- A call is done within `U`: so is its event, if it has one, and it names only records in `U`.
  abbrev pub IsCallWithin : World R → Call → Type 0
  IsCallWithin w (call.Event event reply) = IsWithin w event
  IsCallWithin w c = (n : ℕ) → Contains (named c) n → mine n ≡ true

  -- The two have equal results in `U`, make the same requests, have the same reply, and change
  -- nothing outside `U`; every link of a record in `U` still names a record in `U`.
  pub record AgreeEvent (w v : World R) (event other : Stepped R) : Type 0 where
    pub alike : Alike event.world other.world
    pub reply : event.reply ≡ other.reply
    pub requests : event.requests ≡ other.requests
    pub shut : Shut k mine event.world
    pub spares : Spares k mine w event.world
    pub other_spares : Spares k mine v other.world

  -- The same of two calls.
  pub record AgreeCall (w v : World R) (one other : Called R) : Type 0 where
    pub alike : Alike one.world other.world
    pub call : one.call ≡ other.call
    pub requests : one.requests ≡ other.requests
    pub shut : Shut k mine one.world
    pub spares : Spares k mine w one.world
    pub other_spares : Spares k mine v other.world

module _ {R : Type 0} (k : RecordRules R) (mine : ℕ → Bool) (answers : Answers) where
  -- An event that is done within `U`, with the starts after it, depends only on `U` and changes
  -- only `U`. The puts with notification that are live or have ended and those that wait for other
  -- records may differ, if the answers to what the event asks about them are equal.
  abbrev pub EventIsLocal : Type 0
  EventIsLocal =
      (w v : World R) (event : Event) → Shut k mine w → Alike k mine w v → KeepsApart k mine w → KeepsApart k mine v
      → IsWithin k mine w event → IsWithin k mine v event → AskAlike w v event
      → AgreeEvent k mine w v (stepped k answers w event) (stepped k answers v event)

  abbrev pub CallIsLocal : Type 0
  CallIsLocal =
      (w v : World R) (c : Call) → Shut k mine w → Alike k mine w v → KeepsApart k mine w → KeepsApart k mine v
      → IsCallWithin k mine w c → IsCallWithin k mine v c → AskAlikeCall w v c
      → AgreeCall k mine w v (called k answers w c) (called k answers v c)
