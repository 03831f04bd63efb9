use Rattle.ioc_journal_audit.specs.Numbers.{has_begun}
use Rattle.ioc_journal_audit.proofs.Begun.{begun-more}
use Rattle.ioc_journal_audit.proofs.counts.NumbersBegun.insert.Goals as goal

pub returns : goal.returns
unfolding has_begun
returns c = begun-more c.args.self.now (record { numbers = c.insert.new.self }) c.args.number (λ m. c.in_ok-insert.ensures.updates.0 m)
