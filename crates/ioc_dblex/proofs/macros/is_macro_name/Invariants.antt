use Rattle.std.proofs.Common.{◌≡◌, length}
use Rattle.ioc_dblex.specs.Macros.{all_macro_bytes}
use Rattle.ioc_dblex.proofs.macros.is_macro_name.Given as goal

abbrev pub invariant-loop-rest : goal.invariant-loop-rest
invariant-loop-rest l = all_macro_bytes l.rest ≡ all_macro_bytes l.name

abbrev pub decreases-loop-rest : goal.decreases-loop-rest
decreases-loop-rest l = length l.rest
