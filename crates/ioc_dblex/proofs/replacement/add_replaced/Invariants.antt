use Rattle.std.proofs.Common.{◌≡◌, length}
use Rattle.ioc_dblex.specs.Macros.{onto_text, replaced}
use Rattle.ioc_dblex.proofs.replacement.add_replaced.Given as goal

abbrev pub invariant-loop-rest : goal.invariant-loop-rest
invariant-loop-rest l = onto_text l.bytes.items (replaced l.macros l.rest) ≡ onto_text l.fn.bytes.items (replaced l.macros l.text)

abbrev pub decreases-loop-rest : goal.decreases-loop-rest
decreases-loop-rest l = length l.rest
