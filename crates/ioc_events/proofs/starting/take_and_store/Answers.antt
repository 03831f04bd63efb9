use Rattle.std.proofs.Common.{refl, Some}
use Rattle.ioc_dbcommon.specs.Steps.{with_notification}
use Rattle.ioc_store.specs.Worlds.{has-put}
use Rattle.ioc_process.specs.Keeping.{keeps-changed}
use Rattle.ioc_events.proofs.starting.take_and_store.Goals as goal

pub store_value-requires : goal.store_value-requires
store_value-requires g c =
    let k = g.S.Record.RecordKind.rules in
    rw c.set_notification.ensures.world ((keeps-changed k g.met.S.Record.RecordKind.lawful (g.S.Store.world c.args.store.now) c.args.waiting.now.target c.requires (with_notification (Some c.args.waiting.now.number)) (λ it. (refl, refl))).has _ c.requires)

pub rescan-requires : goal.rescan-requires
rescan-requires g c =
    let k = g.S.Record.RecordKind.rules in
    rw (c.store_value.ensures.world, c.set_notification.ensures.world)
    (has-put k _ _ _ _ ((keeps-changed k g.met.S.Record.RecordKind.lawful (g.S.Store.world c.args.store.now) c.args.waiting.now.target c.requires (with_notification (Some c.args.waiting.now.number)) (λ it. (refl, refl))).has _ c.requires))
