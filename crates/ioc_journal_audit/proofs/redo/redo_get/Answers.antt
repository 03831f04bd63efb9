use Rattle.std.proofs.Common.{refl, ap}
use Rattle.ioc_events.specs.Calls.{called}
use Rattle.ioc_events.specs.declared.event.Call.TheVariants as call
use Rattle.ioc_journal_audit.proofs.Redone.{decides_get}
use Rattle.ioc_journal_audit.proofs.redo.redo_get.Goals as goal

pub returns : goal.returns
unfolding called
returns g c = λ frames empty. record {
  world = refl;
  call = ap (call.Get c.args.number c.args.field) c.run_get-shown.ensures;
  agrees = decides_get c.args.number c.args.field _ _ _ _ c.run_get-shown.ensures c.are_same_texts.ensures;
  playing = refl;
  empty = empty;
  room = refl;
}
