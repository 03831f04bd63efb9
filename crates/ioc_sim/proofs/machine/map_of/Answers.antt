use Rattle.std.specs.Global.{Vec}
use Rattle.std.specs.Vec.{vec_capacity}
use Rattle.std.specs.FinMap.{len}
use Rattle.std.proofs.Common.{List, Option, ◌≤◌, map, ap, sym, subst, ◌∙◌}
use Rattle.std.proofs.lemmas.Result.{IfOk-weaker}
use Rattle.ioc_device.specs.declared.Answer.{Answer}
use Rattle.rec_types.specs.Record.{Record, record_rules}
use Rattle.ioc_store.specs.OneMap.{world_of}
use Rattle.ioc_store.specs.declared.one_map.OneMap.{OneMap}
use Rattle.ioc_sim.specs.Machine.{first_queue}
use Rattle.ioc_sim.proofs.Closing.{first_is, was_ok}
use Rattle.ioc_sim.proofs.machine.map_of.Goals as goal

pub returns-clause-world : goal.returns-clause-world
returns-clause-world c =
    IfOk-weaker c.with_first.result _ _ (λ m is. ap world_of is.0
    ∙ first_is c.new-map.result c.args.records c.new-map.ensures.records (c.new-map.ensures.live ∙ c.in_ok-event.ensures.live) (c.new-map.ensures.waiting ∙ c.in_ok-event.ensures.waiting) c.new-map.ensures.fresh) c.with_first.ensures

pub returns-clause-devices : goal.returns-clause-devices
returns-clause-devices c =
    IfOk-weaker c.with_first.result _ _ (λ m is. ap (λ (o : OneMap Record (List Answer)). o.devices.items) is.0
    ∙ ap (λ (v : Vec (Option (List Answer))). v.items) c.new-map.ensures.devices ∙ c.in_ok-devices.ensures ∙ ap (map (first_queue record_rules)) c.as_slice.ensures.value) c.with_first.ensures

pub returns-clause-empty : goal.returns-clause-empty
returns-clause-empty c = IfOk-weaker c.with_first.result _ _ (λ m is. was_ok c.frames-room.result m.1 _ is.1 c.frames-room.ensures.empty) c.with_first.ensures

pub returns-clause-room : goal.returns-clause-room
returns-clause-room c =
    IfOk-weaker c.with_first.result _ _ (λ m is. subst (λ (o : OneMap Record (List Answer)). len (world_of o).records ≤ vec_capacity m.1) (sym is.0) (was_ok c.frames-room.result m.1 _ is.1 c.frames-room.ensures.room)) c.with_first.ensures
