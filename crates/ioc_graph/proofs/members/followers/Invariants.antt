use Rattle.std.proofs.Common.{length}
use Rattle.ioc_graph.proofs.Following.{Built}
use Rattle.ioc_graph.proofs.members.followers.Given as goal

abbrev pub invariant-loop-place : goal.invariant-loop-place
invariant-loop-place l = Built l.numbers l.next.items l.place

abbrev pub decreases-loop-place : goal.decreases-loop-place
decreases-loop-place l = l.place
