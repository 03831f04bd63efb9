use Rattle.std.proofs.Common.{◌≡◌, ◌≤◌, length, reverse}
use Rattle.ioc_values.specs.Trim.{trimmed, skip_front, is_blank}
use Rattle.ioc_values.proofs.trim.trim.Given as goal

abbrev pub invariant-loop-rest : goal.invariant-loop-rest
invariant-loop-rest l = (reverse (skip_front (is_blank l.tabs) (reverse l.rest)) ≡ trimmed (is_blank l.tabs) l.text) × (length l.rest ≤ length l.text)

abbrev pub decreases-loop-rest : goal.decreases-loop-rest
decreases-loop-rest l = length l.rest
