use Rattle.std.proofs.Common.{arith}
use Rattle.ioc_dbcommon.specs.Steps.{disabled}
use Rattle.ioc_ledger.specs.declared.outcome.Outcome.TheVariants.{Disabled}
use Rattle.ioc_process.specs.Depth.{stays-changed, disabled-active, notified-idle}
use Rattle.ioc_process.specs.Keeping.{keeps-changed, keeps_on, notified-keeps}
use Rattle.ioc_process.specs.Alongside.{disabled-links}
use Rattle.ioc_process.proofs.FrameSteps.{judged-off}
use Rattle.ioc_process.proofs.Turning.{turns_ended}
use Rattle.ioc_process.proofs.disabling.leave_alone.Goals as goal
use Rattle.ioc_store.specs.Notifying.{notified}

pub returns-clause-turn : goal.returns-clause-turn
returns-clause-turn g c = λ answers.
    let k = g.S.Record.RecordKind.rules in
    let lawful = g.met.S.Record.RecordKind.lawful in
    let w = g.S.Store.world c.args.store.now in
    rw (c.disable.ensures.world, c.release_notification.ensures.world) (judged-off k lawful answers w c.args.number c.requires.off)

pub returns-clause-turns : goal.returns-clause-turns
returns-clause-turns g c =
    let k = g.S.Record.RecordKind.rules in
    let lawful = g.met.S.Record.RecordKind.lawful in
    let w = g.S.Store.world c.args.store.now in
    let s = c.args.number in
    let told = notified-keeps k lawful w s c.requires.there in
    rw (c.disable.ensures.world, c.release_notification.ensures.world) (turns_ended k (keeps_on k told (keeps-changed k lawful (notified k w s) s (told.has s c.requires.there) disabled disabled-links))
    (omega (arith, notified-idle k lawful w s, (stays-changed k lawful (notified k w s) s disabled (disabled-active _)).fewer)) Disabled)

pub disable-requires : goal.disable-requires
disable-requires g c =
    rw c.release_notification.ensures.world ((notified-keeps g.S.Record.RecordKind.rules g.met.S.Record.RecordKind.lawful (g.S.Store.world c.args.store.now) c.args.number c.requires.there).has _ c.requires.there)
