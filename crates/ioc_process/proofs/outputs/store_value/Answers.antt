use Rattle.ioc_process.specs.Depth.{written_has}
use Rattle.ioc_process.proofs.outputs.store_value.Goals as goal

pub hand_on-requires-clause-there : goal.hand_on-requires-clause-there
hand_on-requires-clause-there g c = rw c.place_value-stored.ensures.stored.world (written_has g.S.Record.RecordKind.rules g.met.S.Record.RecordKind.lawful (g.S.Store.world c.args.store.now) c.args.target _ c.args.number c.requires.there)

pub hand_on-requires-clause-standing : goal.hand_on-requires-clause-standing
hand_on-requires-clause-standing g c = rw c.place_value-stored.ensures.stored.world (written_has g.S.Record.RecordKind.rules g.met.S.Record.RecordKind.lawful (g.S.Store.world c.args.store.now) c.args.target _ c.args.target.number c.requires.standing)
