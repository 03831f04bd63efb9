use Rattle.std.proofs.Common.{◌≡◌, length}
use Rattle.ioc_site_lines.specs.Columns.{column_in}
use Rattle.ioc_site_lines.proofs.line.Line.column.Given as goal

abbrev pub invariant-loop-rest : goal.invariant-loop-rest
invariant-loop-rest l = column_in l.at l.found l.rest ≡ column_in l.at 1 l.self.runs.items

abbrev pub decreases-loop-rest : goal.decreases-loop-rest
decreases-loop-rest l = length l.rest
