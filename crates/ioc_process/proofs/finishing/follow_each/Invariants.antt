use Rattle.std.proofs.Common.{◌≡◌, ◌≤◌, ◌-◌}
use Rattle.std.specs.Vec.{vec_capacity}
use Rattle.ioc_process.specs.Processing.{request, followed_each}
use Rattle.ioc_process.specs.Frames.{then_finished, remaining}
use Rattle.ioc_process.proofs.finishing.follow_each.Given as goal
use Rattle.ioc_store.specs.Given.{Answers}

abbrev pub invariant-loop-slot : goal.invariant-loop-slot
invariant-loop-slot g l =
    let k = g.S.Record.RecordKind.rules in
    let w = g.S.Store.world l.fn.store in
    record {
      world : g.S.Store.world l.store ≡ w;
      given : g.S.Store.given l.store ≡ g.S.Store.given l.fn.store;
      frames : l.frames.items ≡ l.fn.frames.items;
      room : vec_capacity l.frames ≡ vec_capacity l.fn.frames;
      onward : l.fn.first ≤ l.next;
      left : (answers : Answers) → then_finished k answers l.fn.number (followed_each k (request k answers) w l.fn.number (remaining l.fn.links l.fn.first))
          ≡ then_finished k answers l.fn.number (followed_each k (request k answers) w l.fn.number (remaining l.fn.links l.next));
    }

abbrev pub decreases-loop-slot : goal.decreases-loop-slot
decreases-loop-slot g l = 16 - l.next
