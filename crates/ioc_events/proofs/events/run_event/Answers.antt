use Rattle.std.proofs.Common.{Bool, cond, ap, sym, refl, ◌∙◌}
use Rattle.ioc_ledger.specs.Requests.{counted_completion}
use Rattle.ioc_process.specs.Answering.{accords_before}
use Rattle.ioc_process.specs.Keeping.{can_run_next, has_run_on}
use Rattle.ioc_events.proofs.Stepping.{tells-event}
use Rattle.ioc_events.proofs.events.run_event.Goals as goal

pub end_event-requires : goal.end_event-requires
end_event-requires g c = can_run_next g.S.Record.RecordKind.rules g.met.S.Record.RecordKind.lawful c.do_alone-reply.ensures.run c.requires

pub returns-then-completes-clause-step : goal.returns-then-completes-clause-step
returns-then-completes-clause-step g c = λ answers begins.
    let t = c.end_event.new.tally in
    tells-event g.S.Record.RecordKind.rules answers _ _ _ c.args.event.now _ _ _ _ t _ c.asked-asked.ensures
    (c.do_alone-reply.ensures.done answers (accords_before c.end_event.ensures.run.given begins)) refl (rw c.is_refused.ensures at (c.end_event.ensures.ends answers begins))
    (c.count_completion.ensures ∙ ap (λ (b : Bool). cond b (counted_completion t) t) (sym (sym c.completes.ensures ∙ c.if-completes.true)))

pub returns-then-completes-clause-run : goal.returns-then-completes-clause-run
returns-then-completes-clause-run g c = has_run_on g.S.Record.RecordKind.rules c.do_alone-reply.ensures.run c.end_event.ensures.run

pub returns-else-completes-clause-step : goal.returns-else-completes-clause-step
returns-else-completes-clause-step g c = λ answers begins.
    let t = c.end_event.new.tally in
    tells-event g.S.Record.RecordKind.rules answers _ _ _ c.args.event.now _ _ _ _ t _ c.asked-asked.ensures
    (c.do_alone-reply.ensures.done answers (accords_before c.end_event.ensures.run.given begins)) refl (rw c.is_refused.ensures at (c.end_event.ensures.ends answers begins))
    (ap (λ (b : Bool). cond b (counted_completion t) t) (sym (sym c.completes.ensures ∙ c.if-completes.false)))

pub returns-else-completes-clause-run : goal.returns-else-completes-clause-run
returns-else-completes-clause-run g c = has_run_on g.S.Record.RecordKind.rules c.do_alone-reply.ensures.run c.end_event.ensures.run
