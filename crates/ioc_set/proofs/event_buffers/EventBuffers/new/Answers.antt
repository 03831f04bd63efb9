use Rattle.std.proofs.Common.{ap, ◌∙◌, arith}
use Rattle.std.specs.Ordering.{nat_cmp}
use Rattle.std.specs.FinMap.{len, len-empty}
use Rattle.ioc_set_records.specs.Contents.{Contents}
use Rattle.ioc_set.proofs.event_buffers.EventBuffers.new.Goals as goal

pub invariant_of-result : goal.invariant_of-result
invariant_of-result g c = record {
  no_record = ap (λ (m : Contents g.row.K.Denot g.row.D.Denot). len m.records) c.new-2.ensures ∙ len-empty nat_cmp g.row.K.Denot;
  none_live = c.in_ok-event.ensures.live;
  none_waits = c.in_ok-event.ensures.waiting;
  no_frame = c.new-3.ensures.items;
  no_answer = c.new-4.ensures.items;
  none_journaled = c.new-5.ensures.items;
  ended_fit = let room = c.in_ok-ended_everywhere.ensures.exact in omega (arith, room);
}
