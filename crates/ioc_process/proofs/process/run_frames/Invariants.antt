use Rattle.std.proofs.Common.{◌≡◌, ◌+◌, ◌≤◌, reverse}
use Rattle.std.specs.Prelude.{vec_len}
use Rattle.std.specs.Vec.{vec_capacity}
use Rattle.ioc_store.specs.World.{idle, IsClosed, Keeps}
use Rattle.ioc_store.specs.Given.{Begins}
use Rattle.ioc_process.specs.Runs.{ForAnswers}
use Rattle.ioc_process.specs.Frames.{Goes, AllStand, after_turn, turn_of, then_frames}
use Rattle.ioc_process.proofs.FrameTurns.{NextOpens, now}
use Rattle.ioc_process.proofs.FrameWork.{work}
use Rattle.ioc_process.proofs.process.run_frames.Given as goal

abbrev pub invariant-loop-next : goal.invariant-loop-next
invariant-loop-next g l =
    let k = g.S.Record.RecordKind.rules in
    let w = g.S.Store.world l.store in
    let w0 = g.S.Store.world l.fn.store in
    record {
      goes : ForAnswers (g.S.Store.given l.store) (λ answers.
          Goes l.fn.tally l.tally (after_turn k answers w0 (turn_of l.fn.frames.items l.fn.first)) (then_frames k answers (now k answers w (reverse l.frames.items) l.next) (reverse l.frames.items)));
      given : Begins g.S.Device.Device.gives (g.S.Store.given l.fn.store) (g.S.Store.given l.store);
      keeps : Keeps k w0 w;
      closed : IsClosed k w;
      stands : AllStand w (reverse l.frames.items);
      some_open : NextOpens (reverse l.frames.items) l.next;
      few : vec_len l.frames + idle k w ≤ vec_len l.fn.frames + idle k w0;
      room : vec_capacity l.frames ≡ vec_capacity l.fn.frames;
    }

abbrev pub decreases-loop-next : goal.decreases-loop-next
decreases-loop-next g l = work (vec_len l.fn.frames + idle g.S.Record.RecordKind.rules (g.S.Store.world l.fn.store)) (reverse l.frames.items) l.next
