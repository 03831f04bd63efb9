use Rattle.std.proofs.Common.{◌<◌, length, arith}
use Rattle.ioc_set.specs.SetState.{folded}
use Rattle.ioc_journaled_set.specs.Holding.{HeldView}
use Rattle.ioc_journaled_set.proofs.Replaced.{one_replaced, all_replaced}
use Rattle.ioc_journaled_set.proofs.checkpoint.fold_all.Goals as goal

pub loop-place-preserved : goal.loop-place-preserved
loop-place-preserved g c =
    let within : c.loop-place.place < length c.loop-place.sets = omega arith in
    one_replaced (λ (h : HeldView g.row.K.Denot g.row.D.Denot). h.set) (λ (h : HeldView g.row.K.Denot g.row.D.Denot). folded h.set) (λ (h : HeldView g.row.K.Denot g.row.D.Denot). Unit {0}) c.args.sets.now
    c.loop-place.place c.loop-place.sets c.index-sets-place.result c.fold.new.self within c.fold.ensures.set tt c.loop-place.invariant

pub returns : goal.returns
returns g c =
    all_replaced (λ (h : HeldView g.row.K.Denot g.row.D.Denot). h.set) (λ (h : HeldView g.row.K.Denot g.row.D.Denot). folded h.set) (λ (h : HeldView g.row.K.Denot g.row.D.Denot). Unit {0}) c.args.sets.now
    c.loop-place.place c.loop-place.sets c.loop-place.invariant (omega arith)
