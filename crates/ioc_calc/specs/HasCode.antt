-- The program of what a parser has read.
use Rattle.std.specs.Prelude.{◌≡◌, List, ◌++◌}
use Rattle.std.specs.Float.Ieee.{Float}
use Rattle.ioc_calc.specs.State.{State}
use Rattle.ioc_calc.specs.Machine.{Code}

-- the steps and numbers, and behind these numbers that no step uses
pub record HasCode (code : Code) (s : State) : Type 0 where
  pub steps : code.steps ≡ s.steps
  pub unused : List Float
  pub numbers : code.numbers ≡ s.numbers ++ unused
