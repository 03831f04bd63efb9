use Rattle.std.proofs.Common.{◌≡◌, ◌+◌, ℕ, length}
use Rattle.ioc_journal_audit.specs.Numbers.{count_in}
use Rattle.ioc_journal_audit.specs.Resuming.{calls_of}
use Rattle.ioc_journal_audit.proofs.resuming.counts_of.Given as goal

-- The calls counted so far and those of the rest are all.
abbrev pub invariant-loop-rest : goal.invariant-loop-rest
invariant-loop-rest l = (desk : ℕ) → count_in l.counts desk + calls_of l.rest desk ≡ calls_of l.desks desk

abbrev pub decreases-loop-rest : goal.decreases-loop-rest
decreases-loop-rest l = length l.rest
