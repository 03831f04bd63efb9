use Rattle.std.proofs.Common.{◌∙◌, ap, sym, subst, List, All, IfSome, Option, arith}
use Rattle.std.specs.Vec.{vec_len, vec_capacity}
use Rattle.std.proofs.lemmas.List.Elements.{All-push}
use Rattle.ioc_topology.proofs.directory.Directory.take_all.Goals.{in-Some-found, in_default-found}
use Rattle.ioc_topology.proofs.directory.Directory.take_all.Goals as goal

pub loop-key-preserved : goal.loop-key-preserved
loop-key-preserved g c =
    let inv = c.loop-key.invariant in
    elim c.match-found.branch [
      | in-Some-found w ↦
          let len = ap vec_len w.sets-is in
          let capacity = ap vec_capacity w.sets-is in
          let cells_len = ap vec_len w.cells-is in
          let cells_capacity = ap vec_capacity w.cells-is in
          record {
            room = (omega (arith, inv.room.0, len, w.push_reserved.ensures.len), omega (arith, inv.room.1, capacity, w.push_reserved.ensures.capacity));
            cell_room = (omega (arith, inv.cell_room.0, cells_len, w.push_reserved-in-Some-found.ensures.len), omega (arith, inv.cell_room.1, cells_capacity, w.push_reserved-in-Some-found.ensures.capacity));
            sound = subst (λ (v : List g.row.S.Denot). All g.S.Locked.sound v) (sym (ap (λ v. v.items) w.sets-is ∙ w.push_reserved.ensures.items)) (All-push g.S.Locked.sound c.loop-key.sets.items w.in-Some-found.set inv.sound (subst (λ (o : Option g.row.S.Denot). IfSome o g.S.Locked.sound) w.in-Some-found.is c.in-Ok.ensures));
          }
      | in_default-found w ↦
          let len = ap vec_len w.sets-is in
          let capacity = ap vec_capacity w.sets-is in
          let cells_len = ap vec_len w.cells-is in
          let cells_capacity = ap vec_capacity w.cells-is in
          record {
            room = (omega (arith, inv.room.0, len), omega (arith, inv.room.1, capacity));
            cell_room = (omega (arith, inv.cell_room.0, cells_len), omega (arith, inv.cell_room.1, cells_capacity));
            sound = subst (λ (v : List g.row.S.Denot). All g.S.Locked.sound v) (sym (ap (λ v. v.items) w.sets-is)) inv.sound;
          }
    ]
