-- The program of an expression's tokens.
use Rattle.std.proofs.Common.{◌≡◌, ℕ, List, [], ◌++◌, ap, ◌∙◌, subst, false}
use Rattle.std.specs.Prelude.{Some}
use Rattle.ioc_calc.specs.declared.token.Token.{Token}
use Rattle.ioc_calc.specs.State.{State}
use Rattle.ioc_calc.specs.HasCode.{HasCode}
use Rattle.ioc_calc.specs.Machine.{Code, all_steps, all_numbers}
use Rattle.ioc_calc.specs.Grammar.{AreStatements}
use Rattle.ioc_calc.specs.Statements.{statements}
use Rattle.ioc_calc.specs.Compiles.{IsProgramOfTokens}
use Rattle.ioc_calc.proofs.SoundStatements.{statements_sound}

pub compiled : (n : ℕ) (ts : List Token) (s s' : State) (code : Code) → s.rest ≡ ts → s.steps ≡ [] → s.numbers ≡ []
    → statements n false s ≡ Some s' → HasCode code s' → IsProgramOfTokens ts code
compiled n ts s s' code re se ne h c =
    let g = statements_sound n false s s' h in
    record {
      statements = g.statements;
      grammar = subst (λ x. AreStatements x g.statements) re g.reads;
      program = record {
        steps = c.steps ∙ g.steps ∙ ap (λ x. x ++ all_steps g.statements) se;
        unused = c.unused;
        numbers = c.numbers ∙ ap (λ x. x ++ c.unused) (g.numbers ∙ ap (λ x. x ++ all_numbers g.statements) ne);
        one_value = g.values;
      };
    }
