use Rattle.ioc_process.proofs.OneLook.{at_back, stored_back, same_back}
use Rattle.ioc_process.proofs.outputs.put_into.Goals as goal

pub returns-clause-ok : goal.returns-clause-ok
returns-clause-ok g c = rw (at_back g.S.Record.RecordKind.rules _ _ _ _ (g.met.S.Store.with_record_world c.args.store.now c.args.number c.put_by.new.record c.requires), ← c.record_mut-record.ensures.value) c.put_by.ensures.ok

pub returns-clause-stored : goal.returns-clause-stored
returns-clause-stored g c = stored_back g.S.Record.RecordKind.rules _ _ _ _ (g.met.S.Store.with_record_world c.args.store.now c.args.number c.put_by.new.record c.requires) c.put_by.result

pub returns-clause-same : goal.returns-clause-same
returns-clause-same g c = same_back g.S.Record.RecordKind.rules _ _ _ _ _ (g.met.S.Store.with_record_world c.args.store.now c.args.number c.put_by.new.record c.requires) c.record_mut-record.ensures.value c.requires c.put_by.result c.put_by.ensures.same
