use Rattle.std.proofs.Common.{◌∙◌, ap, sym, subst, Ok}
use Rattle.ioc_calc.specs.Program.{code_of}
use Rattle.ioc_calc.specs.Compiles.{Compiles}
use Rattle.ioc_dbcommon.specs.Calculation.{kept_of, calculation_of}
use Rattle.ioc_dbcommon.proofs.Expressions.{cut_is}
use Rattle.ioc_dbcommon.proofs.calculation.Calculation.new.Goals as goal

pub invariant_of-result : goal.invariant_of-result
invariant_of-result c =
    let compiles = c.in-Ok.ensures.compiled in
    let code = code_of c.in-Ok.program in
    subst (λ t. Compiles t code) (sym (c.cut.ensures ∙ cut_is c.args.text.now code compiles)) compiles

pub returns-in-Ok : goal.returns-in-Ok
unfolding calculation_of
returns-in-Ok c =
    let compiles = c.in-Ok.ensures.compiled in
    ap Ok (c.cut.ensures ∙ cut_is c.args.text.now (code_of c.in-Ok.program) compiles)
    ∙ sym (ap (kept_of c.args.text.now) c.in-Ok.ensures.accepted)

pub returns-in-Err : goal.returns-in-Err
unfolding calculation_of
returns-in-Err c = sym (ap (kept_of c.args.text.now) c.in-Err.ensures.rejected)
