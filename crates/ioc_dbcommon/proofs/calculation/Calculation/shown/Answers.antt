use Rattle.std.proofs.Common.{◌∙◌, ap}
use Rattle.ioc_calc.specs.Program.{code_of}
use Rattle.ioc_dbcommon.specs.Calculation.{shown_text}
use Rattle.ioc_dbcommon.proofs.Expressions.{compiled_of, unset_of, shown_if_set, shown_unset}
use Rattle.ioc_dbcommon.proofs.calculation.Calculation.shown.Goals as goal

pub returns-in-Some-clause-value : goal.returns-in-Some-clause-value
returns-in-Some-clause-value c =
    let compiles = compiled_of c.self.inside.text c.self.inside.program c.in-Some.field-0 c.self.invariant c.in-Some.is in
    c.as_slice.ensures.value ∙ shown_if_set c.self.inside.text (code_of c.in-Some.field-0) compiles ∙ ap shown_text c.self.view_is

pub returns-in-None-clause-value : goal.returns-in-None-clause-value
returns-in-None-clause-value c =
    let unset = unset_of c.self.inside.text c.self.inside.program c.self.invariant c.in-None.is in
    shown_unset c.self.inside.text unset ∙ ap shown_text c.self.view_is
