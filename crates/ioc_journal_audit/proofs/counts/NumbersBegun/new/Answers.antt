use Rattle.std.proofs.Common.{rules}
use Rattle.ioc_journal_audit.specs.Numbers.{has_begun}
use Rattle.ioc_journal_audit.proofs.Begun.{none-begun}
use Rattle.ioc_journal_audit.proofs.counts.NumbersBegun.new.Goals as goal

pub returns : goal.returns
unfolding has_begun
returns c = none-begun (record { numbers = c.new.result }) (λ m. search rules)
