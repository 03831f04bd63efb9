use Rattle.std.proofs.Common.{ap}
use Rattle.ioc_record.specs.SameLinks.{same_input}
use Rattle.rec_numeric.proofs.input.NumericInputRecordBody.copy_from.Goals as goal

pub returns : goal.returns
returns g c = ap (λ x. record { numbers = c.args.other.now.numbers; source = record { input = x } }) (same_input _ _ c.requires.same_links)
