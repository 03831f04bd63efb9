use Rattle.std.proofs.Common.{refl}
use Rattle.std.specs.Float.Ieee.{of_bits}
use Rattle.rec_sel.proofs.choosing.no_number.Goals as goal

pub returns : goal.returns
unfolding of_bits
returns c = refl
