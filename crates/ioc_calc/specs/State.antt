-- The state of the parser.
use Rattle.std.specs.Prelude.{List}
use Rattle.std.specs.Float.Ieee.{Float}
use Rattle.ioc_calc.specs.declared.program.Step.{Step}
use Rattle.ioc_calc.specs.declared.token.Token.{Token}

-- the tokens that are left, and the steps and numbers of those before
pub record State : Type 0 where
  pub rest : List Token
  pub steps : List Step
  pub numbers : List Float
