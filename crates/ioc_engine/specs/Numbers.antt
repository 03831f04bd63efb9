-- Devices with numbers, which no answer changes. This project's own.
use Rattle.std.specs.Prelude.{◌≡◌, ◌+◌, ℕ, List, [], ◌∷◌}
use Rattle.ioc_device.specs.declared.Ask.{Ask}
use Rattle.ioc_device.specs.declared.Answer.{Answer}
use Rattle.ioc_journaled_set.specs.SameDevice.{AnswersLead}
use Rattle.ioc_engine.specs.declared.numbered.Numbered.{Numbered}

module _ {D : Type 0} where
  -- The device answers, and the number stays.
  abbrev pub numbered_gives : (D → Ask → ℕ → Answer → D → Type 0) → Numbered D → Ask → ℕ → Answer → Numbered D → Type 0
  numbered_gives gives before ask moment answer after = (after.number ≡ before.number) × gives before.device ask moment answer after.device

  -- These devices with numbers, from the first one on.
  abbrev pub numbered_from : {N : Type 0} → ℕ → List (N × D) → List (N × Numbered D)
  numbered_from first [] = []
  numbered_from first (d ∷ ds) = (d.0, record { number = first; device = d.1 }) ∷ numbered_from (first + 1) ds

  -- A device with a number keeps it, and comes to its state by its own answers.
  abbrev pub NumbersStay : (D → Ask → ℕ → Answer → D → Type 0) → Type 0
  NumbersStay gives = (first last : Numbered D) → AnswersLead (numbered_gives gives) first last
      → (last.number ≡ first.number) × AnswersLead gives first.device last.device
