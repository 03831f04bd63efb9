use Rattle.std.proofs.Common.{ap, sym, ◌∙◌, arith}
use Rattle.ioc_process.specs.Answering.{begins_same}
use Rattle.ioc_process.specs.Processing.{processed, read_link}
use Rattle.ioc_process.proofs.FrameSteps.{after_reading-calls, after_reading-plain}
use Rattle.ioc_process.proofs.FrameTurns.{turn_pushed}
use Rattle.ioc_process.proofs.Ready.{takes_more, takes_pushed}
use Rattle.ioc_process.proofs.reading.begin_reading.Goals as goal

pub returns-then-passes_on : goal.returns-then-passes_on
unfolding read_link
returns-then-passes_on g c =
    let lawful = g.met.S.Record.RecordKind.lawful in
    record {
      turn = λ answers begins. rw (c.in-Standing.is, c.open_frame.ensures.items, turn_pushed, c.open_frame.ensures.world) (after_reading-calls _ lawful answers _ _ c.in-Standing.target (sym c.passes_on.ensures ∙ c.if-passes_on.true) c.requires.ready.is_idle);
      given = begins_same c.open_frame.ensures.given;
      takes = takes_pushed _ lawful _ c.open_frame.ensures.world c.open_frame.ensures.items c.open_frame.ensures.room c.requires.ready (c.requires.standing _ c.in-Standing.is) (omega arith);
    }

pub returns-else-passes_on-clause-turn : goal.returns-else-passes_on-clause-turn
unfolding read_link
returns-else-passes_on-clause-turn g c = λ answers begins.
    rw c.in-Standing.is (ap (λ d. processed d) (after_reading-plain _ g.met.S.Record.RecordKind.lawful answers _ c.args.number c.in-Standing.target (sym c.passes_on.ensures ∙ c.if-passes_on.false)) ∙ c.take_value.ensures.turn answers begins)

pub returns-else-passes_on-clause-takes : goal.returns-else-passes_on-clause-takes
returns-else-passes_on-clause-takes g c = takes_more _ (omega arith) c.take_value.ensures.takes
