use Rattle.ioc_events.proofs.Stepping.{makes-told}
use Rattle.ioc_events.proofs.alone.request_present.Goals as goal

pub returns-clause-told : goal.returns-clause-told
returns-clause-told g c = λ answers begins. makes-told g.S.Record.RecordKind.rules answers _ _ _ _ _ _ (c.request_record.ensures.request answers begins)
