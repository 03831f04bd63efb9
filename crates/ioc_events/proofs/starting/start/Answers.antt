use Rattle.std.proofs.Common.{true, refl, ap, sym, ◌∙◌}
use Rattle.ioc_dbcommon.specs.Steps.{with_put_mark}
use Rattle.ioc_events.specs.Starting.{processes}
use Rattle.ioc_process.specs.Keeping.{keeps_on, keeps-changed, has_run_kept, has_run_after, can_process_on, notified-keeps}
use Rattle.ioc_events.proofs.QuietEvents.{taken-keeps}
use Rattle.ioc_events.proofs.StartCode.{counts-told, counts-processed}
use Rattle.ioc_events.proofs.starting.start.Goals as goal

pub record-requires : goal.record-requires
record-requires g c = rw c.take_and_store.ensures.world ((taken-keeps g.S.Record.RecordKind.rules g.met.S.Record.RecordKind.lawful (g.S.Store.world c.args.store.now) c.args.waiting.now c.requires.there).has _ c.requires.there)

pub release_notification-requires : goal.release_notification-requires
release_notification-requires g c = rw c.take_and_store.ensures.world ((taken-keeps g.S.Record.RecordKind.rules g.met.S.Record.RecordKind.lawful (g.S.Store.world c.args.store.now) c.args.waiting.now c.requires.there).has _ c.requires.there)

pub mark_put-requires : goal.mark_put-requires
mark_put-requires g c = rw c.take_and_store.ensures.world ((taken-keeps g.S.Record.RecordKind.rules g.met.S.Record.RecordKind.lawful (g.S.Store.world c.args.store.now) c.args.waiting.now c.requires.there).has _ c.requires.there)

pub returns-then-not-processes-clause-started : goal.returns-then-not-processes-clause-started
returns-then-not-processes-clause-started g c = λ answers begins.
    let k = g.S.Record.RecordKind.rules in
    let x = c.args.waiting.now in
    counts-told k g.met.S.Record.RecordKind.lawful answers (g.S.Store.world c.args.store.now) _ x c.args.tally.now
    (rw (← c.take_and_store.ensures.world) (ap (λ r. processes k r x.field) (sym c.record.ensures) ∙ sym c.processes.ensures ∙ c.if-not-processes.true))
    (rw (← c.take_and_store.ensures.world) c.release_notification.ensures.world)

pub returns-then-not-processes-clause-run : goal.returns-then-not-processes-clause-run
returns-then-not-processes-clause-run g c =
    let k = g.S.Record.RecordKind.rules in
    let lawful = g.met.S.Record.RecordKind.lawful in
    let taken = taken-keeps k lawful (g.S.Store.world c.args.store.now) c.args.waiting.now c.requires.there in
    rw (c.release_notification.ensures.world, c.take_and_store.ensures.world)
    (has_run_kept k (keeps_on k taken (notified-keeps k lawful _ c.args.waiting.now.target (taken.has _ c.requires.there))) (c.release_notification.ensures.given ∙ c.take_and_store.ensures.given) c.requires.run.empty)

pub request_record-outcome-requires : goal.request_record-outcome-requires
request_record-outcome-requires g c =
    let k = g.S.Record.RecordKind.rules in
    let lawful = g.met.S.Record.RecordKind.lawful in
    let taken = taken-keeps k lawful (g.S.Store.world c.args.store.now) c.args.waiting.now c.requires.there in
    let there = taken.has _ c.requires.there in
    rw (c.mark_put.ensures.world, c.take_and_store.ensures.world)
    (can_process_on k lawful (keeps_on k taken (keeps-changed k lawful _ c.args.waiting.now.target there (with_put_mark true) (λ it. (refl, refl)))) c.requires)

pub returns-clause-started : goal.returns-clause-started
returns-clause-started g c = λ answers begins.
    let k = g.S.Record.RecordKind.rules in
    let x = c.args.waiting.now in
    counts-processed k g.met.S.Record.RecordKind.lawful answers (g.S.Store.world c.args.store.now) _ x _ c.args.tally.now _
    (rw (← c.take_and_store.ensures.world) (ap (λ r. processes k r x.field) (sym c.record.ensures) ∙ sym c.processes.ensures ∙ c.if-not-processes.false))
    (rw (c.mark_put.ensures.world, c.take_and_store.ensures.world) at (c.request_record-outcome.ensures.request answers begins))

pub returns-clause-run : goal.returns-clause-run
returns-clause-run g c =
    let k = g.S.Record.RecordKind.rules in
    let lawful = g.met.S.Record.RecordKind.lawful in
    let taken = taken-keeps k lawful (g.S.Store.world c.args.store.now) c.args.waiting.now c.requires.there in
    let there = taken.has _ c.requires.there in
    has_run_after k (keeps_on k taken (keeps-changed k lawful _ c.args.waiting.now.target there (with_put_mark true) (λ it. (refl, refl))))
    (rw (c.mark_put.ensures.world, c.take_and_store.ensures.world, c.mark_put.ensures.given, c.take_and_store.ensures.given) at c.request_record-outcome.ensures.run)
