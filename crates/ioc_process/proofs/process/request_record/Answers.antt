use Rattle.std.proofs.Common.{length, refl, ap, ◌∙◌, arith}
use Rattle.ioc_store.specs.declared.frames.Next.TheVariants.{Requests}
use Rattle.ioc_process.specs.Frames.{turn_of, after_turn}
use Rattle.ioc_process.specs.Answering.{begins_on, accords_before}
use Rattle.ioc_store.specs.Worlds.{idle_few}
use Rattle.ioc_process.specs.Keeping.{keeps_on, closed_on}
use Rattle.ioc_process.proofs.FrameTurns.{length_opened}
use Rattle.ioc_process.proofs.process.request_record.Goals as goal

pub begin_request-requires : goal.begin_request-requires
begin_request-requires g c = record {
  there = c.requires.there;
  closed = c.requires.run.closed;
  room = omega (arith, c.requires.run.room, idle_few g.S.Record.RecordKind.rules (g.S.Store.world c.args.store.now), ap length c.requires.run.empty, c.args.frames.now.ok.0);
}

pub run_frames-outcome-requires-clause-closed : goal.run_frames-outcome-requires-clause-closed
run_frames-outcome-requires-clause-closed g c = closed_on _ g.met.S.Record.RecordKind.lawful c.in-Requests.ensures.takes.turns.keeps c.requires.run.closed

pub run_frames-outcome-requires-clause-room : goal.run_frames-outcome-requires-clause-room
run_frames-outcome-requires-clause-room g c =
    let takes = c.in-Requests.ensures.takes in
    let turn = turn_of c.begin_request.new.frames.items Requests in
    omega (
      arith,
      c.requires.run.room,
      idle_few g.S.Record.RecordKind.rules (g.S.Store.world c.args.store.now),
      takes.turns.fewer,
      ap length takes.opens.frames,
      length_opened c.args.frames.now.items turn,
      ap length c.requires.run.empty,
      c.begin_request.new.frames.ok.0,
      takes.room,
    )

pub returns-in-Requests-clause-request : goal.returns-in-Requests-clause-request
returns-in-Requests-clause-request g c = λ answers begins.
    let run = c.run_frames-outcome.ensures.done answers begins in
    rw (c.in-Requests.ensures.turn answers (accords_before c.run_frames-outcome.ensures.run.given begins))
    (record { world = run.world; outcome = run.outcome; tally = rw (← run.tally, ← run.outcome) c.count-in-Requests.ensures })

pub returns-in-Requests-clause-run : goal.returns-in-Requests-clause-run
returns-in-Requests-clause-run g c =
    let run = c.run_frames-outcome.ensures.run in
    let began = c.in-Requests.ensures in
    record {
      keeps = keeps_on g.S.Record.RecordKind.rules began.takes.turns.keeps run.keeps;
      given = begins_on began.given run.given;
      empty = run.empty;
      room = run.room ∙ began.takes.room;
    }

pub returns-in-Ends-clause-request : goal.returns-in-Ends-clause-request
unfolding after_turn
returns-in-Ends-clause-request g c = λ answers begins.
    rw (c.in-Ends.ensures.turn answers begins) (record { world = refl; outcome = refl; tally = c.count.ensures })
