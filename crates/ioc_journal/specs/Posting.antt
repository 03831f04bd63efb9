-- Calls that concern no record: a posted event, and an interrupt of devices. Application Developer's
-- Guide, "Scanning": post_event, scanIoRequest.
use Rattle.std.specs.Prelude.{ℕ, Bool, true, false}
use Rattle.ioc_events.specs.declared.event.Call.{Call}
use Rattle.ioc_events.specs.declared.event.Call.TheVariants as call

-- Whether a call is a posted event or an interrupt.
abbrev pub is_posting : Call → Bool
is_posting (call.Post name count) = true
is_posting (call.Interrupt device count) = true
is_posting _ = false

-- The number of requests that were begun for a posted event or an interrupt.
abbrev pub requests_of : Call → ℕ
requests_of (call.Post name count) = count
requests_of (call.Interrupt device count) = count
requests_of _ = 0
