use Rattle.std.proofs.Common.{length}
use Rattle.ioc_dbcommon.specs.Links.{named_by_all}
use Rattle.ioc_record.specs.RecordRules.{targets}
use Rattle.rec_types.specs.Record.{record_rules}
use Rattle.ioc_journal_audit.specs.Resuming.{AllBelow}
use Rattle.ioc_journal_audit.proofs.resuming.all_lead_below.Given as goal

-- If the rest of the links lead below, all do.
abbrev pub invariant-loop-rest : goal.invariant-loop-rest
invariant-loop-rest l = AllBelow l.count (named_by_all (record_rules.link l.checked) l.rest) → AllBelow l.count (targets record_rules l.checked)

abbrev pub decreases-loop-rest : goal.decreases-loop-rest
decreases-loop-rest l = length l.rest
