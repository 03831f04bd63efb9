use Rattle.std.proofs.Common.{rules}
use Rattle.rec_calc.specs.InputsLaws.{same_inputs}
use Rattle.rec_calc.proofs.inputs.Inputs.copy_from.Goals as goal

pub returns : goal.returns
returns c = rw (same_inputs c.args.self.now.links c.args.other.now.links c.tell_count.ensures c.tell_count-2.ensures c.requires) (search rules)
