use Rattle.ioc_store.specs.Worlds.{has-put}
use Rattle.ioc_process.proofs.outputs.place_value.Goals as goal

pub rescan-requires : goal.rescan-requires
rescan-requires g c = rw c.in-Ok.ensures.stored (has-put g.S.Record.RecordKind.rules (g.S.Store.world c.args.store.now) c.args.target.number c.args.target.number _ c.requires)
