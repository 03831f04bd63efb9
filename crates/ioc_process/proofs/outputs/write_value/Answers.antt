use Rattle.ioc_process.specs.Keeping.{wrote-has}
use Rattle.ioc_process.proofs.outputs.write_value.Goals as goal

pub passes_on-requires : goal.passes_on-requires
passes_on-requires g c = rw c.store_value-is_stored.ensures.wrote.world (wrote-has g.S.Record.RecordKind.rules g.met.S.Record.RecordKind.lawful (g.S.Store.world c.args.store.now) c.args.number c.args.target c.args.value c.args.target.number c.requires.standing)
