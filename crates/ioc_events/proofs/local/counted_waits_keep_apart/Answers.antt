use Rattle.ioc_events.proofs.Apart.{counted-apart, counted-within}
use Rattle.ioc_events.proofs.local.counted_waits_keep_apart.Goals as goal

pub returns-clause-apart : goal.returns-clause-apart
returns-clause-apart g c = λ mine w counted none. counted-apart g.K.RecordKind.rules g.met.K.RecordKind.lawful mine w counted none

pub returns-clause-within : goal.returns-clause-within
returns-clause-within g c = λ mine w event counted within not_cancel. counted-within g.K.RecordKind.rules g.met.K.RecordKind.lawful mine w event counted within not_cancel
