use Rattle.std.proofs.Common.{◌≡◌, ◌∷◌, ◌++◌, [], IsTrue, sym, ap, ◌∙◌, subst, rules, arith, length, take}
use Rattle.std.proofs.lemmas.List.{take_more}
use Rattle.std.proofs.Math.Seq.{take-length}
use Rattle.ioc_topology.specs.Gathered.{AreFound}
use Rattle.ioc_topology.proofs.Claims.{found_more}
use Rattle.ioc_topology.proofs.gather.hold_each.Goals as goal

pub loop-set-preserved : goal.loop-set-preserved
loop-set-preserved g c =
    let claimed : IsTrue c.claim.result = search rules in
    subst (λ sets. AreFound g.S.Locked.numbers c.claim.new.marks sets)
    (sym (take_more c.args.sets.now c.loop-set.set-index c.set-item.result c.loop-set-test.true ∙ ap (λ s. take c.loop-set.set-index c.args.sets.now ++ s ∷ []) (sym c.set-item.is)))
    (found_more g.S.Locked.numbers c.loop-set.marks c.claim.new.marks (take c.loop-set.set-index c.args.sets.now) c.set-item.result c.loop-set.invariant (c.claim.ensures claimed))

pub returns : goal.returns
returns g c = λ all.
    let end : c.loop-set.set-index ≡ length c.args.sets.now = omega (arith, c.loop-set-test.false, c.loop-set.auto.set-index-end) in
    let found : AreFound g.S.Locked.numbers c.loop-set.marks c.args.sets.now = subst (λ sets. AreFound g.S.Locked.numbers c.loop-set.marks sets) (ap (λ k. take k c.args.sets.now) end ∙ take-length c.args.sets.now) c.loop-set.invariant in
    record { once = found.once; each = λ q lt. (found.marked q).0 (c.all_marked.ensures.0 all q lt) }
