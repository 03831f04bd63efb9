use Rattle.ioc_process.proofs.OneLook.{opened, changed_at}
use Rattle.ioc_process.proofs.fast_path.begin_fast.Goals as goal
use Rattle.ioc_dbcommon.specs.Steps.{unblocked}

pub returns-clause-opened : goal.returns-clause-opened
returns-clause-opened g c =
    let k = g.S.Record.RecordKind.rules in
    let w = g.S.Store.world c.args.store.now in
    let s = c.args.number in
    let opens = rw (c.record_mut.ensures.value, ← changed_at k w s unblocked) at c.open_record.ensures in
    opened k w s _ _ _ _ opens (g.met.S.Store.with_record_world c.args.store.now s _ c.requires)
