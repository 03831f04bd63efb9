use Rattle.std.proofs.Common.{◌∙◌, List, ap, subst, sym, arith}
use Rattle.std.specs.Prelude.{IsSome}
use Rattle.std.specs.FinMap.{get}
use Rattle.ioc_notify.specs.declared.live_numbers.Live.{Live}
use Rattle.ioc_notify.specs.declared.waiting_lists.Waiting.{Waiting}
use Rattle.ioc_set_records.specs.Contents.{Contents, Records}
use Rattle.ioc_store.specs.World.{World, begun_at}
use Rattle.ioc_store.specs.Scanning.{rewired}
use Rattle.ioc_set.specs.SetState.{SetState}
use Rattle.ioc_set.specs.Resting.{resting}
use Rattle.ioc_set.specs.Puts.{Puts}
use Rattle.ioc_set.specs.Linking.{AreHeld}
use Rattle.ioc_set.specs.Sound.{CountsAddUp}
use Rattle.ioc_set.specs.Doing.{held_by, with_kept}
use Rattle.ioc_set.specs.SetStore.{world_of}
use Rattle.ioc_set.proofs.EmptyHistory.{begun_now}
use Rattle.ioc_set.proofs.AwaitedSums.{awaited-rescanned}
use Rattle.ioc_set.proofs.Linked.{empty_history_is_sound, rescanned_part, rescanned_held, rescanned_like}
use Rattle.ioc_set.proofs.Rescans.{rewired_beside}
use Rattle.ioc_set.proofs.lock_set.LockSet.rescan.Goals as goal

pub clear_history-requires : goal.clear_history-requires
clear_history-requires g c =
    let inside = c.self.inside in
    let there = subst (λ (h : SetState g.row.K.Denot g.row.D.Denot). IsSome (get h.records c.args.number)) (sym c.self.view_is) c.requires.there in
    let few = c.are_few.ensures in
    let fewer = c.held_records_are_sound.ensures.fewer (held_by inside.members inside.puts inside.base_tally inside.tally inside.history.items) c.self.invariant.0 in
    record {
      like = rescanned_like g.K.RecordKind.rules g.met.K.RecordKind.lawful inside.members c.rescan_on.new.members c.args.before c.args.moment c.args.number there
          (ap (λ (w : World g.row.K.Denot). w.records) c.rescan_on.ensures.left) c.rescan_on.ensures.base c.self.invariant.1;
      fits = omega (arith, few, fewer);
    }

pub invariant_of-self : goal.invariant_of-self
invariant_of-self g c =
    let k = g.K.RecordKind.rules in
    let lawful = g.met.K.RecordKind.lawful in
    let inside = c.self.inside in
    let there = subst (λ (h : SetState g.row.K.Denot g.row.D.Denot). IsSome (get h.records c.args.number)) (sym c.self.view_is) c.requires.there in
    let held = c.held_records_are_sound.ensures.held (held_by inside.members inside.puts inside.base_tally inside.tally inside.history.items) c.self.invariant.0 in
    let with_empty_history = ap (λ (m : Contents g.row.K.Denot g.row.D.Denot). m.records) c.clear_history.ensures.members in
    let is = with_empty_history ∙ ap (λ (w : World g.row.K.Denot). w.records) c.rescan_on.ensures.left in
    let then = rescanned_held k lawful inside.members.records c.clear_history.new.members.records c.args.before c.args.moment c.args.number there is inside.puts.live inside.puts.waiting held in
    let live = ap (λ (p : Puts). p.live) c.clear_history.ensures.puts in
    let waiting = ap (λ (p : Puts). p.waiting) c.clear_history.ensures.puts in
    empty_history_is_sound k c.held_records_are_sound.ensures.sound c.clear_history.new.members c.clear_history.new.puts c.clear_history.new.base_tally inside.tally c.clear_history.new.history.items
    (begun_now inside.puts c.clear_history.new.puts c.clear_history.ensures.puts)
    (ap (λ (m : Contents g.row.K.Denot g.row.D.Denot). m.base) c.clear_history.ensures.members ∙ sym with_empty_history) c.clear_history.ensures.tally c.clear_history.ensures.history
    (rescanned_part k lawful inside.members.records c.clear_history.new.members.records c.args.before c.args.moment c.args.number there is c.self.invariant.0.part)
    (subst (λ (l : List Live). AreHeld k c.clear_history.new.members.records l c.clear_history.new.puts.waiting) (sym live)
    (subst (λ (w : List Waiting). AreHeld k c.clear_history.new.members.records inside.puts.live w) (sym waiting) then))
    c.are_few-2.ensures
    (subst (CountsAddUp inside.tally) (sym (awaited-rescanned k lawful inside.members.records c.clear_history.new.members.records c.args.before c.args.moment c.args.number there is)) c.self.invariant.0.counts)

pub returns-clause-left : goal.returns-clause-left
returns-clause-left g c =
    let k = g.K.RecordKind.rules in
    let inside = c.self.inside in
    let before = c.args.self.now in
    let with_empty_history = ap (λ (m : Contents g.row.K.Denot g.row.D.Denot). m.records) c.clear_history.ensures.members in
    ap (λ (rs : Records g.row.K.Denot). with_kept rs before.live before.waiting (world_of c.rescan_on.new.buffers.store)) with_empty_history
    ∙ rewired_beside k c.args.moment c.args.number c.args.before before.live before.waiting inside.members.records c.rescan_on.new.members.records (world_of c.rescan_on.new.buffers.store) c.rescan_on.ensures.left
    ∙ ap (λ (h : SetState g.row.K.Denot g.row.D.Denot). rewired k c.args.before (begun_at c.args.moment (resting h.records before.live before.waiting)) c.args.number) c.self.view_is
