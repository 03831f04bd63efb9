use Rattle.std.proofs.Common.{◌≡◌, ◌++◌, map}
use Rattle.ioc_site_lines.specs.Defining.{definitions_of, seen}
use Rattle.ioc_site_lines.proofs.Cutting.{bytes_left, left_length, defined_left}
use Rattle.ioc_site_lines.proofs.defining.parse_definitions.Given as goal

abbrev pub invariant-loop-rest : goal.invariant-loop-rest
invariant-loop-rest l = map seen l.list.items ++ defined_left (bytes_left l.rest) ≡ definitions_of l.text

abbrev pub decreases-loop-rest : goal.decreases-loop-rest
decreases-loop-rest l = left_length (bytes_left l.rest)
