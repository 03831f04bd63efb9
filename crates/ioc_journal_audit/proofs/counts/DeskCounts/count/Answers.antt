use Rattle.std.proofs.Common.{ℕ, nat_eq, refl}
use Rattle.std.specs.HashMap.{get}
use Rattle.ioc_journal_audit.specs.Numbers.{count_in}
use Rattle.ioc_journal_audit.proofs.Counting.{one_more}
use Rattle.ioc_journal_audit.proofs.counts.DeskCounts.count.Goals as goal

pub returns : goal.returns
unfolding count_in
returns c = λ other. one_more (get nat_eq c.args.self.now.last) c.args.desk other c.args.number _ _ refl c.requires (c.in_ok-insert.ensures.updates.0 other)
