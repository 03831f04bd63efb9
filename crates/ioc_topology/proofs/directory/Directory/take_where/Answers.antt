use Rattle.std.proofs.Common.{sym, subst, true, All, IfSome, Option, arith}
use Rattle.std.proofs.lemmas.List.Elements.{All-push}
use Rattle.std.specs.Fn.{FnReturnsAt}
use Rattle.ioc_topology.proofs.directory.Directory.take_where.Goals as goal

pub loop-cell-preserved-in-Some-found : goal.loop-cell-preserved-in-Some-found
loop-cell-preserved-in-Some-found g c =
    let keeps = λ (P : g.row.S.Denot → Type 0) (before : All P c.loop-cell.sets.items) (one : P c.in-Some-found.set). subst (All P) (sym c.push_reserved.ensures.items) (All-push P c.loop-cell.sets.items c.in-Some-found.set before one) in
    record {
      room = omega (arith, c.loop-cell.invariant.room, c.push_reserved.ensures.len, c.push_reserved.ensures.capacity, c.in-Some.ensures.len);
      cell_room = omega (arith, c.loop-cell.invariant.cell_room, c.push_reserved-in-Some-found.ensures.len, c.push_reserved-in-Some-found.ensures.capacity, c.in-Some.ensures.len);
      sound = keeps g.S.Locked.sound c.loop-cell.invariant.sound (subst (λ (o : Option g.row.S.Denot). IfSome o g.S.Locked.sound) c.in-Some-found.is c.in-Ok.ensures.sound);
      met = keeps (λ s. FnReturnsAt g.F.Fn c.args.test.now s true) c.loop-cell.invariant.met (subst (λ (o : Option g.row.S.Denot). IfSome o (λ s. FnReturnsAt g.F.Fn c.args.test.now s true)) c.in-Some-found.is c.in-Ok.ensures.met);
    }
