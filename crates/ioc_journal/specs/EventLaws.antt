-- The laws of calls that the laws of held records rest on, in one record.
use Rattle.std.specs.Prelude.{◌≡◌, ◌↔◌, ℕ, ◌<◌, ◌^◌, Bool, true, List, [], ◌∷◌, Contains}
use Rattle.std.specs.Prelude.{None as Nothing_}
use Rattle.std.specs.FinMap.{len}
use Rattle.ioc_ledger.specs.Requests.{Requests}
use Rattle.ioc_notify.specs.Living.{is_live}
use Rattle.ioc_record.specs.RecordRules.{RecordRules}
use Rattle.ioc_store.specs.World.{World, Has, IsClosed, common_at}
use Rattle.ioc_store.specs.Given.{Answers}
use Rattle.ioc_events.specs.declared.event.Entry.{Entry}
use Rattle.ioc_events.specs.declared.event.Call.{Call}
use Rattle.ioc_events.specs.Holding.{IsCounted, IsHeld, Cancels, EndsExactly, IsOver, NoneBegins}
use Rattle.ioc_events.specs.Local.{KeepsApart, IsCallWithin, CallIsLocal}
use Rattle.ioc_events.specs.Starting.{NoneReady}
use Rattle.ioc_events.specs.Calls.{called, named as named_by_call}
use Rattle.ioc_events.specs.StepRules.{Calls, Replay, KeepsRecords}

pub record EventLaws {R : Type 0} (k : RecordRules R) : Type 0 where
  -- The rules of a call allow the result of `called` and nothing else.
  pub allowed : (answers : Answers) (w : World R) (made : Call) → Calls k answers w (called k answers w made).call (called k answers w made).world (called k answers w made).requests
  pub alone : (answers : Answers) (w after : World R) (made : Call) (requests : Requests) → Calls k answers w made after requests → called k answers w made ≡ record { world = after; call = made; requests = requests }
  -- A call adds no record and removes none.
  pub kept : (answers : Answers) (w after : World R) (made : Call) (requests : Requests) → Calls k answers w made after requests → IsClosed k w → KeepsRecords w after
  -- The records that are part of a put with notification are counted at the load, and stay so.
  pub first : (w : World R) → IsClosed k w → len w.records < 2 ^ 63 → w.live ≡ [] → w.waiting ≡ [] → ((n : ℕ) → Has w n → (common_at k w n).notification ≡ Nothing_) → IsCounted k w
  pub counted : (answers : Answers) (w after : World R) (made : Call) (requests : Requests) → Calls k answers w made after requests → IsCounted k w → IsCounted k after
  -- A put with notification ends exactly when no record is part of it any more, and those that a
  -- record is part of are live.
  pub ends : (answers : Answers) (w after : World R) (made : Call) (requests : Requests) → Calls k answers w made after requests → IsCounted k w → w.ended ≡ [] → EndsExactly k w made after
  pub live : (w : World R) (n : ℕ) → IsCounted k w → (is_live n w.live ≡ true) ↔ IsHeld k w n
  -- A put with notification that no record is part of, and that no call of a run begins, has no
  -- record after the run.
  pub free : (w after : World R) (number : ℕ) (entry : Entry) (entries : List Entry) → Replay k w (entry ∷ entries) after → IsCounted k w → (IsHeld k w number → ⊥) → NoneBegins (entry ∷ entries) number → IsOver k after number
  -- No waiting request may start after a call.
  pub none_ready : (answers : Answers) (w after : World R) (made : Call) (requests : Requests) → Calls k answers w made after requests → NoneReady k w → NoneReady k after
  -- A call depends on the records that it concerns, and changes only these.
  pub local : (mine : ℕ → Bool) (answers : Answers) → CallIsLocal k mine answers
  -- Waiting requests keep the records apart, and every call but a cancel is done within the
  -- records that it names.
  pub apart : (mine : ℕ → Bool) (w : World R) → IsCounted k w → NoneReady k w → KeepsApart k mine w
  pub within : (mine : ℕ → Bool) (w : World R) (made : Call) → IsCounted k w → ((n : ℕ) → Contains (named_by_call made) n → mine n ≡ true) → ((number : ℕ) → Cancels made number → ⊥) → IsCallWithin k mine w made
