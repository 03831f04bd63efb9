use Rattle.std.proofs.Common.{nat_eq, refl}
use Rattle.std.specs.HashMap.{get}
use Rattle.ioc_journal_audit.specs.Numbers.{count_in}
use Rattle.ioc_journal_audit.proofs.Counting.{first_ones}
use Rattle.ioc_journal_audit.proofs.counts.DeskCounts.begin.Goals as goal

pub returns : goal.returns
unfolding count_in
returns c = λ other. first_ones (get nat_eq c.args.self.now.last) c.args.desk other c.args.calls _ _ refl c.requires.some c.requires.none (c.in_ok-insert.ensures.updates.0 other)
