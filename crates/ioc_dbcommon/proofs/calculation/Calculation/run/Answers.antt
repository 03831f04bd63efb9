use Rattle.std.proofs.Common.{◌∙◌, ap}
use Rattle.ioc_calc.specs.Programs.{value_by, arguments_by}
use Rattle.ioc_dbcommon.proofs.Expressions.{compiled_of, unset_of, unset_gives_0, unset_stores}
use Rattle.ioc_dbcommon.proofs.calculation.Calculation.run.Goals as goal

pub returns-in-Some-clause-value : goal.returns-in-Some-clause-value
returns-in-Some-clause-value c =
    let compiles = compiled_of c.self.inside.text c.self.inside.program c.in-Some.program c.self.invariant c.in-Some.is in
    (c.run.ensures.of_text c.self.inside.text compiles).0 ∙ ap (λ t. value_by t c.args.value c.args.arguments.now) c.self.view_is

pub returns-in-Some-clause-arguments : goal.returns-in-Some-clause-arguments
returns-in-Some-clause-arguments c =
    let compiles = compiled_of c.self.inside.text c.self.inside.program c.in-Some.program c.self.invariant c.in-Some.is in
    (c.run.ensures.of_text c.self.inside.text compiles).1 ∙ ap (λ t. arguments_by t c.args.value c.args.arguments.now) c.self.view_is

pub returns-in-None-clause-value : goal.returns-in-None-clause-value
returns-in-None-clause-value c =
    let unset = unset_of c.self.inside.text c.self.inside.program c.self.invariant c.in-None.is in
    c.new.ensures ∙ unset_gives_0 c.self.inside.text c.args.value c.args.arguments.now unset
    ∙ ap (λ t. value_by t c.args.value c.args.arguments.now) c.self.view_is

pub returns-in-None-clause-arguments : goal.returns-in-None-clause-arguments
returns-in-None-clause-arguments c =
    let unset = unset_of c.self.inside.text c.self.inside.program c.self.invariant c.in-None.is in
    unset_stores c.self.inside.text c.args.value c.args.arguments.now unset
    ∙ ap (λ t. arguments_by t c.args.value c.args.arguments.now) c.self.view_is
