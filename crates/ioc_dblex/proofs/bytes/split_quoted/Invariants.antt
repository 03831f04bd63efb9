use Rattle.std.proofs.Common.{◌≡◌, ◌≤◌, ◌++◌, length, take, drop, false}
use Rattle.ioc_dblex.specs.Bytes.{quoted_of, behind_quoted}
use Rattle.ioc_dblex.proofs.bytes.split_quoted.Given as goal

abbrev pub invariant-loop-rest : goal.invariant-loop-rest
invariant-loop-rest l =
    (l.rest ≡ drop l.count l.bytes) × (l.count ≤ length l.bytes) × (take l.count l.bytes ++ quoted_of l.escaped l.rest ≡ quoted_of false l.bytes) × (behind_quoted l.escaped l.rest ≡ behind_quoted false l.bytes)

abbrev pub decreases-loop-rest : goal.decreases-loop-rest
decreases-loop-rest l = length l.rest
