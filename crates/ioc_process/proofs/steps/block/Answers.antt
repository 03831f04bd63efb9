use Rattle.std.proofs.Common.{ap, ◌∙◌}
use Rattle.ioc_store.specs.World.{put, at, changed}
use Rattle.ioc_process.proofs.steps.block.Goals as goal

pub returns-clause-world : goal.returns-clause-world
unfolding changed
returns-clause-world g c =
    g.met.S.Store.with_record_world c.args.store.now c.args.number _ c.requires
    ∙ ap (λ it. put (g.S.Store.world c.args.store.now) c.args.number (g.S.Record.RecordKind.rules.with_common (at g.S.Record.RecordKind.rules (g.S.Store.world c.args.store.now) c.args.number) it)) (cc (c.block.ensures, c.common_mut.ensures.value))
