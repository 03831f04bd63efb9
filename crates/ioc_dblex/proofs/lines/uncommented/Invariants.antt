use Rattle.std.proofs.Common.{◌≡◌, ◌≤◌, ◌++◌, length, take, drop}
use Rattle.ioc_dblex.specs.declared.lines.Quoting.TheVariants.{Outside}
use Rattle.ioc_dblex.specs.Lines.{uncommented}
use Rattle.ioc_dblex.proofs.lines.uncommented.Given as goal

abbrev pub invariant-loop-rest : goal.invariant-loop-rest
invariant-loop-rest l =
    (l.rest ≡ drop l.count l.line) × (l.count ≤ length l.line) × (take l.count l.line ++ uncommented l.quoting l.rest ≡ uncommented Outside l.line)

abbrev pub decreases-loop-rest : goal.decreases-loop-rest
decreases-loop-rest l = length l.rest
