use Rattle.std.proofs.Common.{◌≡◌, ◌≤◌, length}
use Rattle.ioc_values.specs.Trim.{skip_front, is_blank}
use Rattle.ioc_values.proofs.trim.skip_front.Given as goal

abbrev pub invariant-loop-rest : goal.invariant-loop-rest
invariant-loop-rest l = (skip_front (is_blank l.tabs) l.rest ≡ skip_front (is_blank l.tabs) l.text) × (length l.rest ≤ length l.text)

abbrev pub decreases-loop-rest : goal.decreases-loop-rest
decreases-loop-rest l = length l.rest
