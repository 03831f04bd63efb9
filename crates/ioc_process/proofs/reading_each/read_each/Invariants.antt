use Rattle.std.proofs.Common.{◌≡◌, ◌≤◌, ◌-◌}
use Rattle.ioc_process.specs.Frames.{then_read_each, remaining}
use Rattle.ioc_process.proofs.Ready.{StaysReady}
use Rattle.ioc_process.proofs.reading_each.read_each.Given as goal
use Rattle.ioc_store.specs.Given.{Answers}

-- What is left to do leads to the same result.
abbrev pub invariant-loop-slot : goal.invariant-loop-slot
invariant-loop-slot g l =
    let k = g.S.Record.RecordKind.rules in
    let w = g.S.Store.world l.fn.store in
    let v = g.S.Store.world l.store in
    record {
      ready : StaysReady k w v l.fn.number 0;
      given : g.S.Store.given l.store ≡ g.S.Store.given l.fn.store;
      frames : l.frames ≡ l.fn.frames;
      onward : l.fn.first ≤ l.next;
      left : (answers : Answers) → then_read_each k answers l.fn.number l.fn.has_fault (remaining l.fn.inputs l.fn.first) w
          ≡ then_read_each k answers l.fn.number l.has_fault (remaining l.fn.inputs l.next) v;
    }

abbrev pub decreases-loop-slot : goal.decreases-loop-slot
decreases-loop-slot g l = 16 - l.next
