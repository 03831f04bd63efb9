use Rattle.std.proofs.Common.{refl}
use Rattle.ioc_record.specs.Given.{input_given}
use Rattle.ioc_events.specs.declared.event.Event.TheVariants.{Put}
use Rattle.ioc_process.specs.Answering.{accords_before}
use Rattle.ioc_process.specs.Keeping.{can_run_next, has_run_on}
use Rattle.ioc_events.proofs.Stepping.{tells-event}
use Rattle.ioc_events.proofs.events.run_put.Goals as goal

pub end_event-requires : goal.end_event-requires
end_event-requires g c = can_run_next g.S.Record.RecordKind.rules g.met.S.Record.RecordKind.lawful c.put-reply.ensures.run c.requires

pub returns-clause-step : goal.returns-clause-step
returns-clause-step g c = λ answers begins.
    tells-event g.S.Record.RecordKind.rules answers _ _ _ (Put c.args.number c.args.field (input_given c.args.given)) _ _ _ _ _ _ c.asked-asked.ensures (c.put-reply.ensures.done answers (accords_before c.end_event.ensures.run.given begins)) refl (rw c.is_refused.ensures at (c.end_event.ensures.ends answers begins)) refl

pub returns-clause-run : goal.returns-clause-run
returns-clause-run g c = has_run_on g.S.Record.RecordKind.rules c.put-reply.ensures.run c.end_event.ensures.run
