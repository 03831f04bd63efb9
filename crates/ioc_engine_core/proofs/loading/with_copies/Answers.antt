use Rattle.std.proofs.Common.{◌≡◌, ◌++◌, List, None, length, map, drop, sym, ap, ◌∙◌, subst, arith}
use Rattle.std.specs.Prelude.{All}
use Rattle.std.specs.Vec.Iter.{into_iter_items}
use Rattle.ioc_set_records.specs.declared.loaded.Loaded.{Loaded}
use Rattle.ioc_engine_core.specs.Loading.{HaveDevices}
use Rattle.ioc_engine_core.proofs.Copies.{one_kept, all_kept, one_fewer, all_taken, each_at, first_left, fewer_left}
use Rattle.ioc_engine_core.proofs.loading.with_copies.Goals as goal

pub unreachable-requires : goal.unreachable-requires
unreachable-requires g c =
    let k = c.loop.left.rest.ok in
    omega (arith, c.in_default.ensures.cases.0, c.loop.invariant.many, c.loop-test.true)

pub loop-preserved : goal.loop-preserved
loop-preserved g c =
    let all = c.loop.all.items in
    let x : Loaded g.row.K.Denot g.row.D.Denot = record { fields = c.in-Some.fields; base = c.in_ok-base.base; device = c.next_device-device.result } in
    let left = into_iter_items c.loop.left in
    let after = into_iter_items c.next.new.self in
    let items = c.in_ok-push.ensures.items in
    record {
      many = let e = one_fewer left after c.in-Some.fields c.in-Some.ensures.items in omega (arith, e, c.loop.invariant.many);
      copies = subst (λ l. All (λ (y : Loaded g.row.K.Denot g.row.D.Denot). y.base ≡ y.fields) l) (sym items) (all_kept (λ (y : Loaded g.row.K.Denot g.row.D.Denot). y.base ≡ y.fields) all x c.loop.invariant.copies c.in_ok-base.ensures);
      beside = subst (λ (l : List (Loaded g.row.K.Denot g.row.D.Denot)). into_iter_items c.next_device-device.new.beside ≡ drop (length l) c.args.devices.items) (sym items)
          (fewer_left all x (into_iter_items c.loop.beside) (into_iter_items c.next_device-device.new.beside) c.args.devices.items c.loop.invariant.beside c.next_device-device.ensures.left);
      devices = subst (λ (l : List (Loaded g.row.K.Denot g.row.D.Denot)). HaveDevices l c.args.devices.items) (sym items)
          (each_at (λ (y : Loaded g.row.K.Denot g.row.D.Denot). y.device) None all x c.args.devices.items c.loop.invariant.devices
          (c.next_device-device.ensures.first ∙ first_left (length all) (into_iter_items c.loop.beside) c.args.devices.items None c.loop.invariant.beside));
      records = ap (λ l. map (λ (y : Loaded g.row.K.Denot g.row.D.Denot). y.fields) l ++ after) items ∙ one_kept (λ (y : Loaded g.row.K.Denot g.row.D.Denot). y.fields) all x left after c.args.records.items c.in-Some.ensures.items c.loop.invariant.records;
    }

pub returns-clause-records : goal.returns-clause-records
returns-clause-records g c =
    let left = into_iter_items c.loop.left in
    let none : length left ≡ 0 = omega (arith, c.loop.invariant.many, c.loop-test.false) in
    all_taken (map (λ (y : Loaded g.row.K.Denot g.row.D.Denot). y.fields) c.loop.all.items) left c.args.records.items none c.loop.invariant.records
