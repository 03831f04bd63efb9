use Rattle.std.proofs.Common.{ap}
use Rattle.ioc_record.specs.SameLinks.{same_input}
use Rattle.rec_state.proofs.input.StateInputRecordBody.copy_from.Goals as goal

pub returns : goal.returns
returns g c = ap (λ x. record { fields = c.args.other.now.fields; source = record { input = x } }) (same_input _ _ c.requires.same_links)
