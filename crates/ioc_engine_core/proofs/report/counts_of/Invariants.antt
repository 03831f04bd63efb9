use Rattle.std.proofs.Common.{◌≡◌, drop}
use Rattle.ioc_ledger.specs.Requests.{no_counts}
use Rattle.ioc_engine_core.proofs.Counts.{counted_with}
use Rattle.ioc_engine_core.proofs.report.counts_of.Given as goal

-- The counts so far with those of the remaining sets are those of all.
abbrev pub invariant-loop-held : goal.invariant-loop-held
invariant-loop-held g l = counted_with l.tally (drop l.held-index l.sets) ≡ counted_with no_counts l.sets
