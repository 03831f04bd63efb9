-- The answers of the devices of a set. Application Developer's Guide, "Device Support".
use Rattle.std.specs.Prelude.{◌≡◌, ℕ, Option, Some, None}
use Rattle.std.specs.FinMap.{get}
use Rattle.ioc_device.specs.declared.Ask.{Ask}
use Rattle.ioc_device.specs.declared.Answer.{Answer}
use Rattle.ioc_device.specs.declared.Answer.TheVariants.{Fault}
use Rattle.ioc_set_records.specs.Contents.{Devices, with_device}

module _ {D : Type 0} (gives : D → Ask → ℕ → Answer → D → Type 0) where
  -- The answer is that of the device, or a fault if there is none.
  abbrev pub Gives : Option D → Ask → ℕ → Answer → Option D → Type 0
  Gives (Some before) ask moment answer after = (d : D) × gives before ask moment answer d × (after ≡ Some d)
  Gives None ask moment answer after = (answer ≡ Fault) × (after ≡ None)

  -- The answer is that of the device of one record, and every other device is unchanged.
  abbrev pub GivesAt : Devices D → ℕ → Ask → ℕ → Answer → Devices D → Type 0
  GivesAt ds number ask moment answer es = (after : Option D) × Gives (get ds number) ask moment answer after × (es ≡ with_device ds number after)
