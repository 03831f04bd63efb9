use Rattle.std.proofs.Common.{refl, ap, ◌∙◌}
use Rattle.ioc_store.specs.OneMap.{numbered}
use Rattle.ioc_store.specs.World.{freed, cancelled}
use Rattle.ioc_store.specs.Freeing.{numbered-mapped}
use Rattle.ioc_store.proofs.one_map.OneMapStore.cancel.Goals as goal

pub returns-clause-world : goal.returns-clause-world
unfolding cancelled
returns-clause-world g c =
    rw (ap numbered c.free_all.ensures ∙ numbered-mapped (freed g.K.RecordKind.rules c.args.notification) c.args.self.now.records.items, c.forget.ensures.live, c.forget.ensures.ended, c.forget.ensures.waiting) refl
