use Rattle.std.proofs.Common.{refl, ap}
use Rattle.std.specs.Cmp.{booleans_Decides}
use Rattle.ioc_events.specs.Calls.{called}
use Rattle.ioc_events.specs.declared.event.Call.TheVariants as call
use Rattle.ioc_journal_audit.proofs.Redone.{decides_live}
use Rattle.ioc_journal_audit.proofs.redo.redo_is_live.Goals as goal

pub returns : goal.returns
unfolding called
returns g c = λ frames empty. record {
  world = refl;
  call = ap (call.IsLive c.args.number) c.is_live-is_live.ensures;
  agrees = decides_live c.args.number _ _ _ _ c.is_live-is_live.ensures (booleans_Decides c.is_live-is_live.result c.args.live);
  playing = refl;
  empty = empty;
  room = refl;
}
