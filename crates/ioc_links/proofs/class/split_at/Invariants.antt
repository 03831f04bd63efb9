use Rattle.std.proofs.Common.{◌≡◌, ◌≤◌, ◌++◌, length, take, drop}
use Rattle.ioc_links.specs.Classes.{front_of, back_of}
use Rattle.ioc_links.proofs.class.split_at.Given as goal

abbrev pub invariant-loop-rest : goal.invariant-loop-rest
invariant-loop-rest l =
    (l.rest ≡ drop l.count l.bytes) × (l.count ≤ length l.bytes) × (take l.count l.bytes ++ front_of l.class l.rest ≡ front_of l.class l.bytes) × (back_of l.class l.rest ≡ back_of l.class l.bytes)

abbrev pub decreases-loop-rest : goal.decreases-loop-rest
decreases-loop-rest l = length l.rest
