use Rattle.ioc_store.specs.NotifyLaws.{notified-has}
use Rattle.ioc_process.proofs.steps.finish_request.Goals as goal

pub come_to_rest-requires : goal.come_to_rest-requires
come_to_rest-requires g c =
    rw c.release_notification.ensures.world (notified-has g.S.Record.RecordKind.rules (g.S.Store.world c.args.store.now) c.args.number c.requires)
