use Rattle.std.proofs.Common.{◌∙◌, [], refl, ap}
use Rattle.std.specs.FinMap.{len}
use Rattle.ioc_set_records.specs.Contents.{Contents}
use Rattle.ioc_store.specs.Given.{Given}
use Rattle.ioc_store.specs.Scanning.{rewired}
use Rattle.ioc_store.specs.World.{World, begun_at}
use Rattle.ioc_set.specs.declared.attached.Attached.{Attached}
use Rattle.ioc_set.specs.Attached.{attached_in}
use Rattle.ioc_set.specs.Resting.{resting}
use Rattle.ioc_set.proofs.AttachedLaws.{bases_alike, devices_alike}
use Rattle.ioc_set.proofs.DidLaws.{starts}
use Rattle.ioc_events.proofs.Rewired.{rewired-leaves}
use Rattle.ioc_set.proofs.Rescans.{came_to, live_begun, waiting_begun}
use Rattle.ioc_set.proofs.linking.rescan_on.Goals as goal

pub invariant_of-buffers : goal.invariant_of-buffers
invariant_of-buffers g c =
    let k = g.K.RecordKind.rules in
    let rs = c.args.members.now.records in
    let buffers = c.args.buffers.now in
    let w = begun_at c.args.moment (resting rs [] []) in
    let start = c.begin_at.ensures.world ∙ starts (record { members = c.swap.new.x; event = buffers.store.event }) rs [] [] c.args.moment (ap (λ (m : Contents g.row.K.Denot g.row.D.Denot). m.records) c.swap.ensures.x_after) buffers.none_live buffers.none_waits in
    let is = c.rewire.ensures.world ∙ ap (λ (v : World g.row.K.Denot). rewired k c.args.before v c.args.number) start in
    record {
      no_record = ap (λ (m : Contents g.row.K.Denot g.row.D.Denot). len m.records) (c.swap-2.ensures.y_after ∙ c.swap.ensures.y_after) ∙ buffers.no_record;
      none_live = ap (λ (v : World g.row.K.Denot). v.live) is ∙ (rewired-leaves k c.args.before w c.args.number).live ∙ live_begun c.args.moment rs;
      none_waits = ap (λ (v : World g.row.K.Denot). v.waiting) is ∙ (rewired-leaves k c.args.before w c.args.number).waiting ∙ waiting_begun c.args.moment rs;
      no_frame = buffers.no_frame;
      no_answer = buffers.no_answer;
      none_journaled = buffers.none_journaled;
      ended_fit = buffers.ended_fit;
    }

pub returns-clause-left : goal.returns-clause-left
returns-clause-left g c =
    let k = g.K.RecordKind.rules in
    let rs = c.args.members.now.records in
    let buffers = c.args.buffers.now in
    let start = c.begin_at.ensures.world ∙ starts (record { members = c.swap.new.x; event = buffers.store.event }) rs [] [] c.args.moment (ap (λ (m : Contents g.row.K.Denot g.row.D.Denot). m.records) c.swap.ensures.x_after) buffers.none_live buffers.none_waits in
    came_to c.rewire.new.store (record { members = c.swap-2.new.y; event = c.rewire.new.store.event }) c.swap-2.new.x (rewired k c.args.before (begun_at c.args.moment (resting rs [] [])) c.args.number)
    c.swap-2.ensures.x_after refl (c.rewire.ensures.world ∙ ap (λ (v : World g.row.K.Denot). rewired k c.args.before v c.args.number) start)

pub returns-clause-devices : goal.returns-clause-devices
returns-clause-devices g c =
    let same = ap (λ (m : Contents g.row.K.Denot g.row.D.Denot). attached_in m) c.swap-2.ensures.x_after
    ∙ ap (λ (x : Given (Attached g.row.K.Denot g.row.D.Denot)). x.devices) c.rewire.ensures.given
    ∙ ap (λ (m : Contents g.row.K.Denot g.row.D.Denot). attached_in m) (c.begin_at.ensures.members ∙ c.swap.ensures.x_after) in
    devices_alike c.args.members.now c.swap-2.new.x same c.devices_are_owned.ensures.devices c.devices_are_owned.ensures.base c.devices_are_owned-2.ensures.devices c.devices_are_owned-2.ensures.base

pub returns-clause-base : goal.returns-clause-base
returns-clause-base g c =
    let same = ap (λ (m : Contents g.row.K.Denot g.row.D.Denot). attached_in m) c.swap-2.ensures.x_after
    ∙ ap (λ (x : Given (Attached g.row.K.Denot g.row.D.Denot)). x.devices) c.rewire.ensures.given
    ∙ ap (λ (m : Contents g.row.K.Denot g.row.D.Denot). attached_in m) (c.begin_at.ensures.members ∙ c.swap.ensures.x_after) in
    bases_alike c.args.members.now c.swap-2.new.x same
