use Rattle.std.proofs.Common.{ℕ, length, refl, ap, sym, ◌∙◌, arith}
use Rattle.ioc_values.specs.declared.value.Finished.{Finished}
use Rattle.ioc_record.specs.RecordRules.{RecordRules}
use Rattle.ioc_record.specs.Laws.{IsLawful}
use Rattle.ioc_store.specs.World.{World, Has, at, put, changed, Keeps}
use Rattle.ioc_store.specs.Marks.{resumed}
use Rattle.ioc_process.specs.Processing.{Ran, resumed_with}
use Rattle.ioc_ledger.specs.Requests.{counted}
use Rattle.ioc_process.specs.Frames.{turn_of}
use Rattle.ioc_process.specs.Answering.{begins_on, accords_before}
use Rattle.ioc_store.specs.Worlds.{idle_few}
use Rattle.ioc_process.specs.Keeping.{keeps-put, keeps_on, closed_on, resumed-keeps}
use Rattle.ioc_store.specs.StepFrames.{links-finished}
use Rattle.ioc_process.specs.Bodies.{last_output_stands}
use Rattle.ioc_process.proofs.FrameTurns.{length_opened}
use Rattle.ioc_process.proofs.FrameSteps.{resumed-idle}
use Rattle.ioc_process.proofs.Turning.{some_idle}
use Rattle.ioc_process.proofs.process.complete_record.Goals as goal

module _ {R : Type 0} (k : RecordRules R) (lawful : IsLawful k) (w : World R) (s : ℕ) (x : Finished) where
  -- The record has resumed.
  abbrev back : World R
  back = changed k w s resumed

  -- It has taken what its device returned.
  abbrev taken : World R
  taken = put back s (k.finished (at k back s) x)

  taken-keeps : Has w s → Keeps k back taken
  taken-keeps there = keeps-put k back s ((resumed-keeps k lawful w s there).has _ there) _ (links-finished k lawful (at k back s) x)

  both-keep : Has w s → Keeps k w taken
  both-keep there = keeps_on k (resumed-keeps k lawful w s there) (taken-keeps there)

pub take_completion-requires : goal.take_completion-requires
take_completion-requires g c =
    rw c.resume.ensures.world ((resumed-keeps _ g.met.S.Record.RecordKind.lawful _ c.args.number c.requires.there).has _ c.requires.there)

pub put_out-next-requires : goal.put_out-next-requires
put_out-next-requires g c =
    let k = g.S.Record.RecordKind.rules in
    let lawful = g.met.S.Record.RecordKind.lawful in
    let w = g.S.Store.world c.args.store.now in
    let s = c.args.number in
    let x = c.args.finished in
    let is = rw c.resume.ensures.world at c.take_completion.ensures.world in
    let output = rw c.resume.ensures.world at c.take_completion.ensures.output in
    let keeps = both-keep k lawful w s x c.requires.there in
    let idle = resumed-idle k lawful w s x in
    let closed = closed_on k lawful (resumed-keeps k lawful w s c.requires.there) c.requires.run.closed in
    record {
      ready = record {
        there = rw is (keeps.has _ c.requires.there);
        closed = rw is (closed_on k lawful keeps c.requires.run.closed);
        is_idle = rw is idle;
        room = omega (arith, c.requires.run.room, some_idle k lawful (taken k lawful w s x) s idle, idle_few k (taken k lawful w s x), keeps.count, ap length c.requires.run.empty, c.args.frames.now.ok.0);
      };
      standing = λ t v wanted. rw is ((taken-keeps k lawful w s x c.requires.there).has _ (last_output_stands k lawful (back k lawful w s x) s x closed t v (sym output ∙ wanted)));
    }

pub run_frames-requires-clause-closed : goal.run_frames-requires-clause-closed
run_frames-requires-clause-closed g c =
    let lawful = g.met.S.Record.RecordKind.lawful in
    let came = rw (c.take_completion.ensures.world, c.resume.ensures.world) at c.put_out-next.ensures.takes.turns in
    closed_on _ lawful came.keeps (closed_on _ lawful (both-keep _ lawful _ c.args.number c.args.finished c.requires.there) c.requires.run.closed)

pub run_frames-requires-clause-room : goal.run_frames-requires-clause-room
run_frames-requires-clause-room g c =
    let k = g.S.Record.RecordKind.rules in
    let lawful = g.met.S.Record.RecordKind.lawful in
    let w = g.S.Store.world c.args.store.now in
    let came = rw (c.take_completion.ensures.world, c.resume.ensures.world) at c.put_out-next.ensures.takes.turns in
    let turn = turn_of c.put_out-next.new.frames.items c.put_out-next.result in
    omega (
      arith,
      c.requires.run.room,
      idle_few k (taken k lawful w c.args.number c.args.finished),
      (both-keep k lawful w c.args.number c.args.finished c.requires.there).count,
      came.fewer,
      ap length c.put_out-next.ensures.takes.opens.frames,
      length_opened c.args.frames.now.items turn,
      ap length c.requires.run.empty,
      c.put_out-next.new.frames.ok.0,
      c.put_out-next.ensures.takes.room,
    )

pub returns-clause-done : goal.returns-clause-done
unfolding resumed_with
returns-clause-done g c = λ answers begins.
    let run = c.run_frames.ensures.done answers begins in
    let turn = rw (c.take_completion.ensures.output, c.take_completion.ensures.world, c.resume.ensures.world) at (c.put_out-next.ensures.turn answers (accords_before c.run_frames.ensures.run.given begins)) in
    record {
      world = run.world ∙ ap (λ (r : Ran _). r.world) (sym turn);
      outcome = refl;
      tally = run.tally ∙ ap (λ (r : Ran _). counted c.args.tally.now r.requests) (sym turn);
    }

pub returns-clause-run : goal.returns-clause-run
returns-clause-run g c =
    let k = g.S.Record.RecordKind.rules in
    let came = rw (c.take_completion.ensures.world, c.resume.ensures.world) at c.put_out-next.ensures.takes.turns in
    let run = c.run_frames.ensures.run in
    record {
      keeps = keeps_on k (both-keep k g.met.S.Record.RecordKind.lawful _ c.args.number c.args.finished c.requires.there) (keeps_on k came.keeps run.keeps);
      given = rw (c.take_completion.ensures.given, c.resume.ensures.given) at (begins_on c.put_out-next.ensures.given run.given);
      empty = run.empty;
      room = run.room ∙ c.put_out-next.ensures.takes.room;
    }
