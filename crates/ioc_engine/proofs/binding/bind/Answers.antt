use Rattle.std.proofs.Common.{ℕ, List, Option, ◌∷◌, ◌++◌, [], sym, ap, ◌∙◌, subst}
use Rattle.ioc_dbfile.specs.OwnerTable.{owner_in}
use Rattle.ioc_engine.specs.Binding.{bound_to, spare_with}
use Rattle.ioc_engine.proofs.Bindings.{AreBound, one_more}
use Rattle.ioc_engine.proofs.binding.bind.Goals as goal

pub loop-name-preserved : goal.loop-name-preserved
loop-name-preserved g c =
    let owner = owner_in c.args.owners.now in
    let d : List ℕ × g.row.D.Denot = (c.in-Some.name, c.in-Some.device) in
    let gone = c.loop-name.yielded ++ d ∷ [] in
    let bound = c.loop-name.bound.devices.items in
    let spare = c.loop-name.bound.spare.items in
    let e = c.in_ok-bind_one.ensures in
    let devices = e.devices ∙ ap (λ (o : Option ℕ). bound_to o d.1 bound) c.owner-owner.ensures in
    let left = e.spare ∙ ap (λ (o : Option ℕ). spare_with o d bound spare) c.owner-owner.ensures in
    let more = one_more owner c.args.count c.loop-name.yielded bound spare d c.loop-name.invariant in
    subst (λ (b : List (Option g.row.D.Denot)). AreBound owner c.args.count gone b c.bind_one.new.bound.spare.items) (sym devices)
    (subst (λ (s : List (List ℕ × g.row.D.Denot)). AreBound owner c.args.count gone (bound_to (owner d.0) d.1 bound) s) (sym left) more)
