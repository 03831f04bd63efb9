use Rattle.std.proofs.Common.{◌≡◌, ◌≤◌, ◌++◌, length, take, drop}
use Rattle.ioc_saved.specs.Words.{before, behind}
use Rattle.ioc_saved.proofs.words.split.Given as goal

abbrev pub invariant-loop-rest : goal.invariant-loop-rest
invariant-loop-rest l =
    (l.rest ≡ drop l.count l.bytes) × (l.count ≤ length l.bytes) × (take l.count l.bytes ++ before l.separator l.rest ≡ before l.separator l.bytes) × (behind l.separator l.rest ≡ behind l.separator l.bytes)

abbrev pub decreases-loop-rest : goal.decreases-loop-rest
decreases-loop-rest l = length l.rest
