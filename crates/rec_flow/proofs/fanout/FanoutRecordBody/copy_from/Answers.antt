use Rattle.std.proofs.Common.{rules}
use Rattle.rec_flow.specs.FanoutLaws.{same_sell, same_array}
use Rattle.rec_flow.proofs.fanout.FanoutRecordBody.copy_from.Goals as goal

pub returns : goal.returns
returns c =
    rw (same_sell c.args.self.now c.args.other.now c.requires.same_links)
    (rw (same_array c.args.self.now c.args.other.now c.tell_count.ensures c.tell_count-2.ensures c.requires.same_links)
    (search rules))
