use Rattle.std.proofs.Common.{refl, arith, ◌≤◌, length}
use Rattle.std.proofs.lemmas.List.{drop_all}
use Rattle.ioc_events.proofs.events.count_started.Goals as goal

pub returns-then-asked-start : goal.returns-then-asked-start
returns-then-asked-start g c =
    let calls = (g.S.Store.world c.args.store.now).calls in
    let is = c.asked.ensures in
    let le = c.if-asked-start.true in
    let past : length calls ≤ c.args.start = omega arith in
    rw (drop_all c.args.start calls past) refl
