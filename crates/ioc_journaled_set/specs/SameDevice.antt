-- The device of a record from the load on. Application Developer's Guide, "Device Support": a record
-- is bound to one device, which changes with its answers.
use Rattle.std.specs.Prelude.{◌≡◌, ℕ, Option, Some, None}
use Rattle.ioc_device.specs.declared.Ask.{Ask}
use Rattle.ioc_device.specs.declared.Answer.{Answer}

-- No record has a device.
abbrev pub no_devices : {D : Type 0} → ℕ → Option D
no_devices n = None

module _ {D : Type 0} (gives : D → Ask → ℕ → Answer → D → Type 0) where
  -- Holds if a device comes from the first state to the second by its own answers.
  pub data AnswersLead : D → D → Type 0 where
    no_answer : {d : D} → AnswersLead d d
    one_more : {first before after : D} {ask : Ask} {moment : ℕ} {answer : Answer}
        → AnswersLead first before
        → gives before ask moment answer after
        → AnswersLead first after

  -- Holds if the second device is the first one, as its answers left it, or if there is none.
  abbrev pub IsSameDevice : Option D → Option D → Type 0
  IsSameDevice None now = now ≡ None
  IsSameDevice (Some first) now = (d : D) × (now ≡ Some d) × AnswersLead first d

  -- Holds if this is the device of record `n` among these, as its answers left it.
  abbrev pub IsDeviceOf : (ℕ → Option D) → ℕ → Option D → Type 0
  IsDeviceOf devices n now = IsSameDevice (devices n) now
