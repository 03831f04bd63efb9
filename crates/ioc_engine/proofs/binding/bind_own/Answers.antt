use Rattle.std.proofs.Common.{ℕ, List, Option, ◌∷◌, ◌++◌, [], sym, ap, ◌∙◌, subst}
use Rattle.ioc_dbfile.specs.OwnDevices.{holder}
use Rattle.ioc_engine.specs.Binding.{bound_to, spare_with}
use Rattle.ioc_engine.proofs.Bindings.{AreBound, one_more}
use Rattle.ioc_engine.proofs.binding.bind_own.Goals as goal

pub loop-number-preserved : goal.loop-number-preserved
loop-number-preserved g c =
    let owner = holder c.args.own.now.names.items in
    let d : ℕ × g.row.D.Denot = (c.in-Some.number, c.in-Some.device) in
    let gone = c.loop-number.yielded ++ d ∷ [] in
    let bound = c.loop-number.bound.devices.items in
    let spare = c.loop-number.bound.spare.items in
    let e = c.in_ok-bind_one.ensures in
    let devices = e.devices ∙ ap (λ (o : Option ℕ). bound_to o d.1 bound) c.holder-owner.ensures in
    let left = e.spare ∙ ap (λ (o : Option ℕ). spare_with o d bound spare) c.holder-owner.ensures in
    let more = one_more owner c.args.count c.loop-number.yielded bound spare d c.loop-number.invariant in
    subst (λ (b : List (Option g.row.D.Denot)). AreBound owner c.args.count gone b c.bind_one.new.bound.spare.items) (sym devices)
    (subst (λ (s : List (ℕ × g.row.D.Denot)). AreBound owner c.args.count gone (bound_to (owner d.0) d.1 bound) s) (sym left) more)
