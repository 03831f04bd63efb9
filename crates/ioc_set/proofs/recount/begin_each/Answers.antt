use Rattle.std.proofs.Common.{◌∙◌, sym, arith}
use Rattle.ioc_set.proofs.Recounts.{begun-room}
use Rattle.ioc_set.proofs.recount.begin_each.Goals as goal

pub admit-requires : goal.admit-requires
admit-requires c =
    begun-room c.args.numbers.now c.loop-live.live-index c.live-item.result c.loop-live.into.live.live c.args.into.now.live.live c.loop-live.into.ended.items
    (omega arith) c.live-item.is (sym c.is_live.ensures ∙ c.if-not-is_live.true) c.loop-live.invariant.0 c.requires.fits c.loop-live.invariant.1.0
