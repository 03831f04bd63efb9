use Rattle.std.proofs.Common.{◌≡◌, length}
use Rattle.ioc_site_lines.specs.Places.{is_among}
use Rattle.ioc_site_lines.proofs.stream.Stream.is_open.Given as goal

abbrev pub invariant-loop-rest : goal.invariant-loop-rest
invariant-loop-rest l = is_among l.number l.rest ≡ is_among l.number l.self.open.items

abbrev pub decreases-loop-rest : goal.decreases-loop-rest
decreases-loop-rest l = length l.rest
