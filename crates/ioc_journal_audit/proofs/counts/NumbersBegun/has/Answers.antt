use Rattle.std.proofs.Common.{rules}
use Rattle.ioc_journal_audit.specs.Numbers.{has_begun}
use Rattle.ioc_journal_audit.proofs.counts.NumbersBegun.has.Goals as goal

pub returns : goal.returns
unfolding has_begun
returns c = search rules
