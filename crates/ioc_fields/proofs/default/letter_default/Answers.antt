-- The constant NaN is the one of the rule.
use Rattle.std.proofs.Common.{◌≡◌, arith, refl}
use Rattle.std.proofs.lemmas.Grind.{common_steps}
use Rattle.std.specs.Float.Ieee.{nan, binary64, of_bits, of_fields}
use Rattle.ioc_fields.specs.Defaults.{letter_default}
use Rattle.ioc_fields.proofs.default.letter_default.Goals as goal

nan_is : of_bits binary64 0x7FF8000000000000 ≡ nan
unfolding of_bits of_fields
nan_is = refl

pub returns-then-index-lt12 : goal.returns-then-index-lt12
unfolding letter_default
returns-then-index-lt12 c = rw (c.new.ensures, nan_is) (grind (arith, common_steps, c.index.ensures))
