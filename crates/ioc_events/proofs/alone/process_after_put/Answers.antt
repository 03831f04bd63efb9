use Rattle.std.proofs.Common.{true, refl, ap, sym, ◌∙◌}
use Rattle.ioc_dbcommon.specs.declared.common.Common.{Common}
use Rattle.ioc_dbcommon.specs.Steps.{with_put_mark, with_reprocess_mark}
use Rattle.ioc_events.specs.Starting.{processes}
use Rattle.ioc_process.specs.Keeping.{keeps-changed, has_run_same, has_run_kept, has_run_after, can_process_on}
use Rattle.ioc_events.proofs.Stepping.{makes-plain, makes-active, after_put-idle}
use Rattle.ioc_events.proofs.alone.process_after_put.Goals as goal

pub returns-then-not-processes-clause-after : goal.returns-then-not-processes-clause-after
returns-then-not-processes-clause-after g c = λ answers begins.
    let k = g.S.Record.RecordKind.rules in
    let lawful = g.met.S.Record.RecordKind.lawful in
    let w = g.S.Store.world c.args.store.now in
    let s = c.args.number in
    makes-plain k answers w s c.args.field c.args.tally.now (ap (λ r. processes k r c.args.field) (sym c.record-present.ensures) ∙ sym c.processes.ensures ∙ c.if-not-processes.true)

pub returns-then-not-processes-clause-run : goal.returns-then-not-processes-clause-run
returns-then-not-processes-clause-run g c = has_run_same g.S.Record.RecordKind.rules _ c.requires.run.empty

pub returns-then-common-clause-after : goal.returns-then-common-clause-after
returns-then-common-clause-after g c = λ answers begins.
    let k = g.S.Record.RecordKind.rules in
    let lawful = g.met.S.Record.RecordKind.lawful in
    let w = g.S.Store.world c.args.store.now in
    let s = c.args.number in
    rw c.mark_reprocess.ensures.world (makes-active k answers w s c.args.field c.args.tally.now _ (ap (λ r. processes k r c.args.field) (sym c.record-present.ensures) ∙ sym c.processes.ensures ∙ c.if-not-processes.false)
    (ap (λ (it : Common). it.active) (ap k.common (sym c.record-present.ensures) ∙ sym c.common.ensures) ∙ c.if-common.true) c.count.ensures)

pub returns-then-common-clause-run : goal.returns-then-common-clause-run
returns-then-common-clause-run g c =
    let k = g.S.Record.RecordKind.rules in
    let w = g.S.Store.world c.args.store.now in
    rw c.mark_reprocess.ensures.world (has_run_kept k (keeps-changed k g.met.S.Record.RecordKind.lawful w c.args.number c.requires.there (with_reprocess_mark true) (λ it. (refl, refl))) c.mark_reprocess.ensures.given c.requires.run.empty)

pub request_present-requires : goal.request_present-requires
request_present-requires g c =
    let k = g.S.Record.RecordKind.rules in
    let lawful = g.met.S.Record.RecordKind.lawful in
    let w = g.S.Store.world c.args.store.now in
    rw c.mark_put.ensures.world (can_process_on k lawful (keeps-changed k lawful w c.args.number c.requires.there (with_put_mark true) (λ it. (refl, refl))) c.requires)

pub returns-clause-after : goal.returns-clause-after
returns-clause-after g c = λ answers begins.
    let k = g.S.Record.RecordKind.rules in
    let lawful = g.met.S.Record.RecordKind.lawful in
    let w = g.S.Store.world c.args.store.now in
    let s = c.args.number in
    rw (after_put-idle k answers w s c.args.field (ap (λ r. processes k r c.args.field) (sym c.record-present.ensures) ∙ sym c.processes.ensures ∙ c.if-not-processes.false)
    (ap (λ (it : Common). it.active) (ap k.common (sym c.record-present.ensures) ∙ sym c.common.ensures) ∙ c.if-common.false)) (rw c.mark_put.ensures.world at (c.request_present.ensures.told answers begins))

pub returns-clause-run : goal.returns-clause-run
returns-clause-run g c =
    let k = g.S.Record.RecordKind.rules in
    let w = g.S.Store.world c.args.store.now in
    has_run_after k (keeps-changed k g.met.S.Record.RecordKind.lawful w c.args.number c.requires.there (with_put_mark true) (λ it. (refl, refl)))
    (rw (c.mark_put.ensures.world, c.mark_put.ensures.given) at c.request_present.ensures.run)
