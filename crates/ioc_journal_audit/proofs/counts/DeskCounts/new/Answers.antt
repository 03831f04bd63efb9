use Rattle.std.proofs.Common.{rules}
use Rattle.ioc_journal_audit.specs.Numbers.{count_in}
use Rattle.ioc_journal_audit.proofs.counts.DeskCounts.new.Goals as goal

pub returns : goal.returns
unfolding count_in
returns c = λ desk. search rules
