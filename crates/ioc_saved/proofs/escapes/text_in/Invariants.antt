use Rattle.std.proofs.Common.{◌≡◌, ◌≤◌, length}
use Rattle.ioc_saved.specs.declared.escapes.Escape.TheVariants.{No}
use Rattle.ioc_saved.specs.Escapes.{unescaped, limited}
use Rattle.ioc_saved.proofs.EscapesAgain.{with_front}
use Rattle.ioc_saved.proofs.escapes.text_in.Given as goal

abbrev pub invariant-loop-rest : goal.invariant-loop-rest
invariant-loop-rest l = (limited 120 (with_front l.text (unescaped l.state l.rest)) ≡ limited 120 (unescaped No l.coded)) × (length l.text ≤ 120)

abbrev pub decreases-loop-rest : goal.decreases-loop-rest
decreases-loop-rest l = length l.rest
