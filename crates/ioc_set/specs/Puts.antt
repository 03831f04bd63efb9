-- The puts with notification of a lock set.
--
-- Application Developer's Guide, "Put with Notification" (dbPutNotify). Those before the history
-- are this project's own design.
use Rattle.std.specs.Prelude.{◌≡◌, Bool, true, false, List, [], Option, Some, None, is_some}
use Rattle.ioc_notify.specs.declared.live_numbers.Live.{Live}
use Rattle.ioc_notify.specs.declared.waiting_lists.Waiting.{Waiting}
use Rattle.ioc_store.specs.declared.notifications.Notifications.{Notifications}
use Rattle.ioc_events.specs.declared.event.Event.{Event}
use Rattle.ioc_events.specs.declared.event.Event.TheVariants.{Notify}

-- Holds of a put with notification.
abbrev pub is_put_with_notification : Event → Bool
is_put_with_notification (Notify s number field given) = true
is_put_with_notification _ = false

-- The live puts with notification of a set and those of them that wait, now and before the first
-- event of its history, and whether memory for them was reserved.
pub record Puts : Type 0 where
  pub live : List Live
  pub waiting : List Waiting
  pub base_live : List Live
  pub base_waiting : List Waiting
  pub has_room : Bool

-- The value before the first one.
abbrev pub no_puts : Puts
no_puts = record { live = []; waiting = []; base_live = []; base_waiting = []; has_room = false }

-- These puts with notification, as the current ones.
abbrev pub now_with : Puts → List Live → List Waiting → Puts
now_with p live waiting = record p { live = live; waiting = waiting }

-- A history begins: the current ones are those before it.
abbrev pub begun_with : Puts → Puts
begun_with p = record p { base_live = p.live; base_waiting = p.waiting }

-- Holds if a history has begun with the current ones.
abbrev pub HasBegun : Puts → Type 0
HasBegun p = (p.base_live ≡ p.live) × (p.base_waiting ≡ p.waiting)

-- Holds if none is live and none waits.
abbrev pub AreNone : Puts → Type 0
AreNone p = (p.live ≡ []) × (p.waiting ≡ [])

-- What a set has of them: none is live if no memory was reserved.
abbrev pub live_of : Option Notifications → List Live
live_of None = []
live_of (Some n) = n.live.live

abbrev pub waiting_of : Option Notifications → List Waiting
waiting_of None = []
waiting_of (Some n) = n.waiting.waiting

abbrev pub puts_of : Option Notifications → List Live → List Waiting → Puts
puts_of kept base_live base_waiting = record { live = live_of kept; waiting = waiting_of kept; base_live = base_live; base_waiting = base_waiting; has_room = is_some kept }
