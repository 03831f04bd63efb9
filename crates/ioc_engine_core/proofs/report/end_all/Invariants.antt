use Rattle.std.proofs.Common.{◌≡◌, ◌≤◌, ◌+◌, length, sum_by}
use Rattle.std.specs.Vec.{vec_capacity}
use Rattle.ioc_ledger.specs.Requests.{no_counts, FitsAll}
use Rattle.ioc_engine_core.proofs.Counts.{counted_with}
use Rattle.ioc_engine_core.proofs.Merging.{size}
use Rattle.ioc_engine_core.proofs.report.end_all.Given as goal

-- The sets so far are ended, and their shares are merged.
abbrev pub invariant-loop-set : goal.invariant-loop-set
invariant-loop-set g l = record {
  ended : l.ended.items ≡ l.yielded;
  room : length l.fn.sets.items ≤ vec_capacity l.ended;
  fits : FitsAll l.all.counts;
  parts : l.all.parts ≡ l.fn.spare.parts + sum_by size l.yielded;
  counts : l.all.counts ≡ counted_with no_counts l.yielded;
}
