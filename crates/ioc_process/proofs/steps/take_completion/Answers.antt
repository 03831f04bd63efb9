use Rattle.std.proofs.Common.{ap, ◌∙◌}
use Rattle.ioc_store.specs.World.{put}
use Rattle.ioc_process.proofs.steps.take_completion.Goals as goal

pub returns-clause-world : goal.returns-clause-world
returns-clause-world g c =
    g.met.S.Store.with_record_world c.args.store.now c.args.number _ c.requires ∙ ap (put _ _) (cc (c.finish.ensures.after, c.record_mut.ensures.value))
