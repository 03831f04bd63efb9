use Rattle.std.proofs.Common.{ap}
use Rattle.ioc_record.specs.SameLinks.{same_input}
use Rattle.rec_analog.proofs.input.AiRecordBody.copy_from.Goals as goal

pub returns : goal.returns
returns c =
    ap (λ x. record { analog = c.args.other.now.analog; scale = c.args.other.now.scale; source = record { input = x }; smoothing = c.args.other.now.smoothing; initial = c.args.other.now.initial })
    (same_input _ _ c.requires.same_links)
