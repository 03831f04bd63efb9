-- The base and the device, if it has one, of each record of a lock set. This project's own design.
use Rattle.std.specs.Prelude.{◌≡◌, ℕ, Option}
use Rattle.std.specs.Option.{option_map}
use Rattle.std.specs.FinMap.{get}
use Rattle.ioc_device.specs.declared.Ask.{Ask}
use Rattle.ioc_device.specs.declared.Answer.{Answer}
use Rattle.ioc_set_records.specs.Contents.{Contents}
use Rattle.ioc_set_records.specs.Answers.{Gives}
use Rattle.ioc_set.specs.declared.attached.Attached.{Attached}

module _ {R D : Type 0} where
  -- The answer is that of the device, or a fault if there is none, and the base is unchanged.
  abbrev pub AttachedGives : (D → Ask → ℕ → Answer → D → Type 0) → Attached R D → Ask → ℕ → Answer → Attached R D → Type 0
  AttachedGives gives before ask moment answer after = Gives gives before.device ask moment answer after.device × (after.base ≡ before.base)

  -- The base and the device of each record.
  abbrev pub attached_in : Contents R D → ℕ → Option (Attached R D)
  attached_in c n = option_map (λ base. record { base = base; device = get c.devices n }) (get c.base n)
