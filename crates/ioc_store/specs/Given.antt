-- What the devices have done in an event: their calls, and the state of each afterwards.
use Rattle.std.specs.Prelude.{◌≡◌, ℕ, List, [], ◌∷◌, ◌++◌, take, map, filter, length, slice_get, unwrap_or, ◌==◌, if◌then◌else◌, Bool, true, false, Option, Some}
use Rattle.std.specs.Prelude.{None as Nothing_}
use Rattle.ioc_device.specs.declared.Ask.{Ask}
use Rattle.ioc_device.specs.declared.Answer.{Answer}
use Rattle.ioc_device.specs.declared.Answer.TheVariants.{Later, Fault}
use Rattle.ioc_store.specs.declared.call.Call.{Call}
use Rattle.ioc_store.specs.declared.calls.Calls.{Calls}

-- The calls that are stored.
abbrev pub calls_of : Calls → List Call
calls_of s = take s.count s.calls.items

-- The answers of these calls.
abbrev pub answers_of : List Call → List Answer
answers_of calls = map (λ (c : Call). c.answer) calls

-- What the devices answer in an event, given the calls before, the record whose device is called,
-- and what is asked.
abbrev pub Answers : Type 0
Answers = List Call → ℕ → Ask → Answer

-- The answers of a list, one after another, and faults past its end.
unfoldable pub listed : List Answer → Answers
listed answers before target ask = unwrap_or (slice_get answers (length before)) Fault

-- Holds if each of these calls has the answer that `answers` assigns to it after the calls before
-- it.
pub record Accords (calls : List Call) (answers : Answers) : Type 0 where
  pub accords : (before after : List Call) (call : Call) → calls ≡ before ++ call ∷ after → answers before call.target call.ask ≡ call.answer

-- Holds if the device answers later.
abbrev pub comes_later : Answer → Bool
comes_later Later = true
comes_later _ = false

-- The number of calls that are answered later.
abbrev pub later_among : List Call → ℕ
later_among calls = length (filter (λ (c : Call). comes_later c.answer) calls)

-- The device of each record that has one.
abbrev pub Devices : Type 0 → Type 0
Devices D = ℕ → Option D

-- The devices with that of record `n` set.
unfoldable pub with_device : {D : Type 0} → Devices D → ℕ → D → Devices D
with_device ds n d = λ m. if m == n then Some d else ds m

-- The calls of an event so far, its time stamp, and the current devices.
pub record Given (D : Type 0) : Type 0 where
  pub calls : List Call
  pub moment : ℕ
  pub devices : Devices D

module _ {D : Type 0} (gives : D → Ask → ℕ → Answer → D → Type 0) where
  -- One call: the device of the record answers, and every other device is unchanged. A record
  -- without a device gets a fault.
  pub data DeviceGives : Devices D → ℕ → Call → Devices D → Type 0 where
    its_device : {ds : Devices D} {moment : ℕ} {call : Call} {before after : D}
        → ds call.target ≡ Some before
        → gives before call.ask moment call.answer after
        → DeviceGives ds moment call (with_device ds call.target after)
    no_device : {ds : Devices D} {moment : ℕ} {call : Call}
        → ds call.target ≡ Nothing_
        → call.answer ≡ Fault
        → DeviceGives ds moment call ds

  -- A list of calls, made one after another.
  pub data DevicesWork : Devices D → ℕ → List Call → Devices D → Type 0 where
    no_call : {ds : Devices D} {moment : ℕ} → DevicesWork ds moment [] ds
    and_then : {ds mid es : Devices D} {moment : ℕ} {call : Call} {calls : List Call}
        → DeviceGives ds moment call mid
        → DevicesWork mid moment calls es
        → DevicesWork ds moment (call ∷ calls) es

  -- Holds if more calls were made after those of `before`, at the time stamp of the event.
  pub record Begins (before after : Given D) : Type 0 where
    pub more : List Call
    pub calls : after.calls ≡ before.calls ++ more
    pub moment : after.moment ≡ before.moment
    pub work : DevicesWork before.devices before.moment more after.devices
