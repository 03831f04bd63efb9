use Rattle.std.proofs.Common.{◌≡◌, ◌∙◌, ℕ, List, [], Option, Some, sym, ap, subst, map}
use Rattle.std.specs.Prelude.{OnOk, IfErr, unwrap_or, option_map}
use Rattle.std.specs.Borrow.{Bor}
use Rattle.clap.specs.Words.{Text}
use Rattle.ioc_command_line.specs.Definitions.{all_defined, Undefined}
use Rattle.ioc_command_line.proofs.Matching.{values_are}
use Rattle.ioc_command_line.proofs.two_files.define_values.Goals as goal

abbrev read : Option (Bor (List (Bor (List ℕ)))) → List Text
read o = unwrap_or (option_map (λ s. map (λ v. v.now) s.now) o) []

pub returns-in-Some-clause-ok : goal.returns-in-Some-clause-ok
returns-in-Some-clause-ok c =
    let same = values_are c.args.matches.now c.args.id.now c.get_strs.result c.get_strs.ensures ∙ ap read c.in-Some.is in
    subst (λ (ws : List Text). OnOk c.defined.result (all_defined c.args.macros.now ws ≡ Some c.defined.new.macros)) (sym same) c.defined.ensures.ok

pub returns-in-Some-clause-err : goal.returns-in-Some-clause-err
returns-in-Some-clause-err c =
    let same = values_are c.args.matches.now c.args.id.now c.get_strs.result c.get_strs.ensures ∙ ap read c.in-Some.is in
    subst (λ (ws : List Text). IfErr c.defined.result (Undefined (all_defined c.args.macros.now ws))) (sym same) c.defined.ensures.err

pub returns-in-None-clause-ok : goal.returns-in-None-clause-ok
returns-in-None-clause-ok c =
    ap (all_defined c.args.macros.now) (values_are c.args.matches.now c.args.id.now c.get_strs.result c.get_strs.ensures ∙ ap read c.in-None.is)
