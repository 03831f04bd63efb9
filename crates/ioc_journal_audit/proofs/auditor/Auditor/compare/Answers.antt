use Rattle.ioc_journal_audit.proofs.Comparing.{follows}
use Rattle.ioc_journal_audit.proofs.auditor.Auditor.compare.Goals as goal

pub returns-then-is_all_played : goal.returns-then-is_all_played
returns-then-is_all_played c =
    follows c.args.self.now c.make_again.new.self c.args.line c.in_ok-made.made c.in_ok-made.ensures c.is_all_played-is_all_played.result c.is_all_played-is_all_played.ensures c.if-made.true c.if-is_all_played.true
