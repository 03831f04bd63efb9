use Rattle.std.proofs.Common.{◌≡◌, ◌∙◌, sym, subst, take, option_map}
use Rattle.ioc_commands.specs.declared.texts.Escape.{Escape}
use Rattle.ioc_commands.specs.declared.texts.Escape.TheVariants.{No}
use Rattle.ioc_commands.specs.Texts.{unescaped}
use Rattle.ioc_commands.proofs.Escapes.{whole_at_end, read_to_the_end, cut_short}
use Rattle.ioc_commands.proofs.texts.read_text.Goals as goal

pub returns-in-No : goal.returns-in-No
returns-in-No c = subst (λ (s : Escape). whole_at_end s c.loop-rest.text ≡ option_map (take 64) (unescaped c.args.bytes.now No)) c.in-No.is (read_to_the_end c.args.bytes.now _ c.loop-rest.text c.loop-rest.state c.in_default.len_below c.loop-rest.invariant.0)

pub returns-in_default-state : goal.returns-in_default-state
returns-in_default-state c = sym (cut_short c.loop-rest.state c.loop-rest.text c.in_default-state.not-No) ∙ read_to_the_end c.args.bytes.now _ c.loop-rest.text c.loop-rest.state c.in_default.len_below c.loop-rest.invariant.0
