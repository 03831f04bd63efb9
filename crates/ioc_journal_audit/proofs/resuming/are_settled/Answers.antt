use Rattle.std.proofs.Common.{length}
use Rattle.ioc_journal_audit.proofs.Restarting.{short_settled, all_settled}
use Rattle.ioc_journal_audit.proofs.resuming.are_settled.Goals as goal

pub returns : goal.returns
returns c = λ all. all_settled c.args.records.now (c.loop-rest.invariant (short_settled (length c.args.records.now) c.loop-rest.rest.now c.in_default.len_below))
