use Rattle.std.proofs.Common.{arith}
use Rattle.ioc_engine_core.proofs.Requests.{served_none, served_on}
use Rattle.ioc_engine_core.proofs.engine.EngineCore.request_each.Goals as goal

pub loop-place-init : goal.loop-place-init
loop-place-init g c = record {
  served = served_none c.args.desk.now.account;
  most = omega arith;
  room = c.in-Ok.ensures.capacity;
}

pub loop-place-preserved : goal.loop-place-preserved
loop-place-preserved g c =
    let i = c.loop-place.invariant in
    let one = c.request_counted-requested.ensures in
    let most = i.most in
    let more = one.most in
    record {
      served = served_on c.loop-place.requested c.request_counted-requested.result c.args.desk.now.account c.loop-place.desk.account c.request_counted-requested.new.desk.account i.served one.served;
      most = omega (arith, most, more);
      room = one.room;
    }
