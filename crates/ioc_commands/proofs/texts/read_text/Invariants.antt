use Rattle.std.proofs.Common.{◌≡◌, [], true, length}
use Rattle.ioc_commands.specs.declared.texts.Escape.TheVariants.{No}
use Rattle.ioc_commands.specs.Texts.{is_begun}
use Rattle.ioc_commands.proofs.Escapes.{read_behind}
use Rattle.ioc_commands.proofs.texts.read_text.Given as goal

abbrev pub invariant-loop-rest : goal.invariant-loop-rest
invariant-loop-rest l = (read_behind l.rest l.state l.text ≡ read_behind l.bytes No []) × (is_begun l.state ≡ true)

abbrev pub decreases-loop-rest : goal.decreases-loop-rest
decreases-loop-rest l = length l.rest
