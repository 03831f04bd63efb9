-- The program of what a parser has read.
use Rattle.std.proofs.Common.{◌≡◌, ℕ, List, ◌++◌, take, drop, ap, ◌∙◌, sym}
use Rattle.std.proofs.lemmas.List.{take-append-drop}
use Rattle.std.specs.Float.Ieee.{Float}
use Rattle.ioc_calc.specs.declared.program.Step.{Step}
use Rattle.ioc_calc.specs.declared.token.Token.{Token}
use Rattle.ioc_calc.specs.State.{State}
use Rattle.ioc_calc.specs.Machine.{Code}
use Rattle.ioc_calc.specs.HasCode.{HasCode}

pub has_code : (code : Code) (steps' : List Step) (l : ℕ) (numbers' : List Float) (n : ℕ) (s : State) (ts : List Token)
    → s ≡ record { rest = ts; steps = take l steps'; numbers = take n numbers' }
    → code ≡ record { steps = take l steps'; numbers = numbers' } → HasCode code s
has_code code steps' l numbers' n s ts e h = record {
  steps = ap (λ (c : Code). c.steps) h ∙ sym (ap (λ (x : State). x.steps) e);
  unused = drop n numbers';
  numbers = ap (λ (c : Code). c.numbers) h ∙ sym (take-append-drop n numbers')
      ∙ ap (λ x. x ++ drop n numbers') (sym (ap (λ (x : State). x.numbers) e));
}
