use Rattle.std.proofs.Common.{◌≡◌, ◌∷◌, [], reverse, length, refl, ap, subst, ◌∙◌, arith}
use Rattle.std.proofs.lemmas.List.{length-reverse}
use Rattle.ioc_process.specs.Frames.{turn_of, called_by, Goes, after_turn}
use Rattle.ioc_process.proofs.FrameWork.{work-called, work-went_on}
use Rattle.ioc_process.proofs.FrameTurns.{begun_now, newest_reverse, reverse_push, length_opened, next_opens, all_stand, all_opened, all_forward}
use Rattle.ioc_process.proofs.FrameLoop.{goes_here, goes-called, goes-went_on, all-keep}
use Rattle.ioc_process.specs.Answering.{begins_same, begins_on, accords_before}
use Rattle.ioc_process.specs.Keeping.{keeps_all, keeps_on, closed_on}
use Rattle.ioc_process.proofs.process.run_frames.Goals as goal

pub loop-next-init : goal.loop-next-init
loop-next-init g c =
    let k = g.S.Record.RecordKind.rules in
    let lawful = g.met.S.Record.RecordKind.lawful in
    let w = g.S.Store.world c.args.store.now in
    let frames = c.args.frames.now.items in
    let turn = turn_of frames c.args.first in
    let opened = all_opened [] frames turn c.requires.opens.frames in
    record {
      goes = λ answers begins. subst (λ d. Goes c.args.tally.now c.args.tally.now (after_turn k answers w turn) d) (begun_now k answers w frames c.args.first c.requires.opens) (goes_here c.args.tally.now _);
      given = begins_same refl;
      keeps = keeps_all k w;
      closed = c.requires.closed;
      stands = rw opened (all_stand w [] turn c.requires.stands tt);
      some_open = rw (← c.requires.opens.next, opened) (next_opens [] turn);
      few = omega arith;
      room = refl;
    }

pub begin_next-next-requires-clause-stands : goal.begin_next-next-requires-clause-stands
begin_next-next-requires-clause-stands g c = all_forward _ c.loop-next.frames.items c.loop-next.invariant.stands

pub loop-next-preserved-in-Requests : goal.loop-next-preserved-in-Requests
loop-next-preserved-in-Requests g c =
    let k = g.S.Record.RecordKind.rules in
    let lawful = g.met.S.Record.RecordKind.lawful in
    let i = c.loop-next.invariant in
    let came = c.begin_next-next.ensures.takes in
    let turn = turn_of c.begin_next-next.new.frames.items c.begin_next-next.result in
    let opened = all_opened c.loop-next.frames.items c.begin_next-next.new.frames.items turn came.opens.frames in
    record {
      goes = λ answers begins. rw (← came.opens.next, opened)
          (goes-called k lawful answers c.args.tally.now c.loop-next.tally _ (g.S.Store.world c.loop-next.store) _ (reverse c.loop-next.frames.items) turn
          (rw c.in-Requests.is at (i.goes answers (accords_before c.begin_next-next.ensures.given begins)))
          (ap (λ frame. called_by k answers (g.S.Store.world c.loop-next.store) frame) (newest_reverse c.loop-next.frames.items) ∙ c.begin_next-next.ensures.turn answers begins));
      given = begins_on i.given c.begin_next-next.ensures.given;
      keeps = keeps_on k i.keeps came.turns.keeps;
      closed = closed_on _ lawful came.turns.keeps i.closed;
      stands = rw opened (all_stand _ _ turn came.turns.stands (all-keep k _ _ _ came.turns.keeps i.stands));
      some_open = rw (← came.opens.next, opened) (next_opens _ turn);
      few = omega (arith, i.few, came.turns.fewer, ap length came.opens.frames, length_opened c.loop-next.frames.items turn, c.loop-next.frames.ok.0, c.begin_next-next.new.frames.ok.0);
      room = came.room ∙ i.room;
    }

pub loop-next-smaller-in-Requests : goal.loop-next-smaller-in-Requests
loop-next-smaller-in-Requests g c =
    let i = c.loop-next.invariant in
    let came = c.begin_next-next.ensures.takes in
    let turn = turn_of c.begin_next-next.new.frames.items c.begin_next-next.result in
    rw (← came.opens.next, all_opened c.loop-next.frames.items c.begin_next-next.new.frames.items turn came.opens.frames, c.in-Requests.is)
    (work-called _ (reverse c.loop-next.frames.items) turn
    (omega (arith, i.few, came.turns.fewer, length-reverse c.loop-next.frames.items, c.loop-next.frames.ok.0)) came.turns.left)

pub loop-next-preserved : goal.loop-next-preserved
loop-next-preserved g c =
    let k = g.S.Record.RecordKind.rules in
    let lawful = g.met.S.Record.RecordKind.lawful in
    let i = c.loop-next.invariant in
    let came = c.go_on.ensures in
    let below = c.pop.new.self.items in
    let turn = turn_of c.go_on.new.frames.items c.go_on.result in
    let taken : reverse c.loop-next.frames.items ≡ c.in-Some.frame ∷ reverse below = ap reverse c.in-Some.ensures.items ∙ reverse_push below c.in-Some.frame in
    let opened = all_opened below c.go_on.new.frames.items turn came.opens.frames in
    record {
      goes = λ answers begins. rw (← came.opens.next, opened)
          (goes-went_on k lawful answers c.args.tally.now c.loop-next.tally _ (g.S.Store.world c.loop-next.store) _ (reverse below) turn c.in-Some.frame c.in-Ends.outcome _ c.count.ensures
          (rw (c.in-Ends.is, taken) at (i.goes answers (accords_before came.given begins))) (came.turn answers begins));
      given = begins_on i.given came.given;
      keeps = keeps_on k i.keeps came.turns.keeps;
      closed = closed_on _ lawful came.turns.keeps i.closed;
      stands = rw opened (all_stand _ _ turn came.turns.stands (all-keep k _ _ (reverse below) came.turns.keeps (rw taken at i.stands).1));
      some_open = rw (← came.opens.next, opened) (next_opens _ turn);
      few = omega (arith, i.few, came.turns.fewer, ap length came.opens.frames, length_opened below turn, c.in-Some.ensures.len, c.go_on.new.frames.ok.0, c.pop.new.self.ok.0);
      room = came.room ∙ c.pop.ensures.capacity ∙ i.room;
    }

pub loop-next-smaller : goal.loop-next-smaller
loop-next-smaller g c =
    let came = c.go_on.ensures in
    let below = c.pop.new.self.items in
    let turn = turn_of c.go_on.new.frames.items c.go_on.result in
    let taken : reverse c.loop-next.frames.items ≡ c.in-Some.frame ∷ reverse below = ap reverse c.in-Some.ensures.items ∙ reverse_push below c.in-Some.frame in
    rw (← came.opens.next, all_opened below c.go_on.new.frames.items turn came.opens.frames, c.in-Ends.is, taken)
    (work-went_on _ (reverse below) c.in-Some.frame c.in-Ends.outcome turn came.turns.left)
