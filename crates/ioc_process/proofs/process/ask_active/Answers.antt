use Rattle.std.proofs.Common.{ap, ◌∙◌, sym, arith}
use Rattle.ioc_dbcommon.specs.declared.common.Common.{Common}
use Rattle.ioc_dbcommon.specs.Steps.{blocked}
use Rattle.ioc_ledger.specs.declared.outcome.Outcome.TheVariants.{Active, Reprocess}
use Rattle.ioc_store.specs.Marks.{is_put_down, put_down, put_mark_passed}
use Rattle.ioc_store.specs.Notifying.{passed_on}
use Rattle.ioc_store.specs.StepFrames.{blocked-frame}
use Rattle.ioc_store.specs.World.{common_at, changed}
use Rattle.ioc_process.specs.Alongside.{passed-links}
use Rattle.ioc_process.specs.Bodies.{ran-turned_away}
use Rattle.ioc_process.specs.Frames.{after_turn}
use Rattle.ioc_process.specs.Keeping.{keeps-changed}
use Rattle.ioc_process.specs.Processing.{ran}
use Rattle.ioc_process.proofs.Handing.{handed, handed-active, handed-idle}
use Rattle.ioc_process.proofs.FrameSteps.{asked_ran-later, asked_ran-now}
use Rattle.ioc_process.proofs.Ready.{turns_changed}
use Rattle.ioc_process.proofs.Turning.{turns_on}
use Rattle.ioc_process.proofs.process.ask_active.Goals as goal

pub returns-then-is_put_down-clause-turn : goal.returns-then-is_put_down-clause-turn
returns-then-is_put_down-clause-turn g c = λ answers.
    let w = g.S.Store.world c.args.store.now in
    let by_put = ap (λ (it : Common). it.by_put) c.common.ensures in
    rw c.put_down.ensures.world (asked_ran-later _ g.met.S.Record.RecordKind.lawful answers w c.args.source c.args.target (ap (λ b. is_put_down b (common_at g.S.Record.RecordKind.rules w c.args.target)) (sym by_put) ∙ sym c.is_put_down.ensures ∙ c.if-is_put_down.true))

pub returns-then-is_put_down-clause-turns : goal.returns-then-is_put_down-clause-turns
returns-then-is_put_down-clause-turns g c =
    turns_changed _ g.met.S.Record.RecordKind.lawful c.args.target put_down c.put_down.ensures.world c.requires.there (λ it. (blocked-frame _).links) (blocked-frame _).active Reprocess

pub block-requires : goal.block-requires
block-requires g c =
    let lawful = g.met.S.Record.RecordKind.lawful in
    let w = g.S.Store.world c.args.store.now in
    rw (c.pass_notification.ensures.world, c.pass_put_mark.ensures.world)
    ((handed _ lawful w c.args.source c.args.target c.common.result.now.by_put c.requires.there).has _ c.requires.there)

pub returns-clause-turn : goal.returns-clause-turn
unfolding after_turn
returns-clause-turn g c = λ answers.
    let k = g.S.Record.RecordKind.rules in
    let lawful = g.met.S.Record.RecordKind.lawful in
    let w = g.S.Store.world c.args.store.now in
    let s = c.args.source in
    let t = c.args.target in
    let by_put = ap (λ (it : Common). it.by_put) c.common.ensures in
    let v = passed_on k (changed k w t (put_mark_passed c.common.result.now.by_put)) s t in
    let active = handed-active k lawful w s t c.common.result.now.by_put ∙ c.requires.is_active in
    rw (c.block.ensures.world, c.pass_notification.ensures.world, c.pass_put_mark.ensures.world)
    (asked_ran-now k lawful answers w s t (ap (λ b. is_put_down b (common_at k w t)) (sym by_put) ∙ sym c.is_put_down.ensures ∙ c.if-is_put_down.false)
    ∙ ap (λ b. ran k answers (passed_on k (changed k w t (put_mark_passed b)) s t) t) (sym by_put) ∙ ran-turned_away k lawful answers v t active)

pub returns-clause-turns : goal.returns-clause-turns
returns-clause-turns g c =
    let k = g.S.Record.RecordKind.rules in
    let lawful = g.met.S.Record.RecordKind.lawful in
    let w = g.S.Store.world c.args.store.now in
    let keeps = handed k lawful w c.args.source c.args.target c.common.result.now.by_put c.requires.there in
    turns_on k keeps (omega (arith, handed-idle k lawful w c.args.source c.args.target c.common.result.now.by_put)) (omega arith)
    (rw (c.pass_notification.ensures.world, c.pass_put_mark.ensures.world) at
    (turns_changed _ lawful {most = 0} c.args.target blocked c.block.ensures.world (rw (c.pass_notification.ensures.world, c.pass_put_mark.ensures.world) (keeps.has _ c.requires.there)) (λ it. (blocked-frame it).links) (blocked-frame _).active Active))

pub pass_notification-requires-clause-source : goal.pass_notification-requires-clause-source
pass_notification-requires-clause-source g c =
    let k = g.S.Record.RecordKind.rules in
    let lawful = g.met.S.Record.RecordKind.lawful in
    rw c.pass_put_mark.ensures.world ((keeps-changed k lawful (g.S.Store.world c.args.store.now) c.args.target c.requires.there _ (passed-links _)).has _ c.requires.source_there)

pub pass_notification-requires-clause-target : goal.pass_notification-requires-clause-target
pass_notification-requires-clause-target g c =
    let k = g.S.Record.RecordKind.rules in
    let lawful = g.met.S.Record.RecordKind.lawful in
    rw c.pass_put_mark.ensures.world ((keeps-changed k lawful (g.S.Store.world c.args.store.now) c.args.target c.requires.there _ (passed-links _)).has _ c.requires.there)
