use Rattle.std.proofs.Common.{◌∙◌, Some, Ok, Err, ap, sym}
use Rattle.std.specs.Prelude.{Result, OnErr}
use Rattle.std.specs.Box.{with_value}
use Rattle.ioc_watched.proofs.kept_list.add_to.Goals as goal

on_err_then : {A E P Q : Type 0} (r : Result A E) → (P → Q) → OnErr r P → OnErr r Q
on_err_then (Ok a) f x = x
on_err_then (Err e) f x = f x

pub returns-in-Some-clause-err : goal.returns-in-Some-clause-err
returns-in-Some-clause-err c =
    on_err_then c.add.result (λ e. ap (λ v. Some (with_value c.in-Some.watched v)) (e ∙ c.deref_mut.ensures.value) ∙ sym c.in-Some.is) c.add.ensures.err
