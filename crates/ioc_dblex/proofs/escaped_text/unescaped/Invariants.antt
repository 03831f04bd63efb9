use Rattle.std.proofs.Common.{◌≡◌, ◌++◌, false, length}
use Rattle.ioc_dblex.specs.Escapes.{unescaped_from}
use Rattle.ioc_dblex.proofs.escaped_text.unescaped.Given as goal

abbrev pub invariant-loop-rest : goal.invariant-loop-rest
invariant-loop-rest l = l.text.items ++ unescaped_from l.in_value l.escaped l.rest ≡ unescaped_from l.in_value false l.bytes

abbrev pub decreases-loop-rest : goal.decreases-loop-rest
decreases-loop-rest l = length l.rest
