use Rattle.std.proofs.Common.{refl, sym, ◌∙◌}
use Rattle.ioc_process.specs.Answering.{begins_same}
use Rattle.ioc_process.proofs.FrameSteps.{judged-on}
use Rattle.ioc_process.proofs.FrameTurns.{opens_none}
use Rattle.ioc_process.proofs.disabling.judge.Goals as goal

pub returns-then-is_disabled-clause-turn : goal.returns-then-is_disabled-clause-turn
returns-then-is_disabled-clause-turn g c = λ answers begins. rw c.leave_alone.ensures.ends (c.leave_alone.ensures.turn answers)

pub returns-then-is_disabled-clause-given : goal.returns-then-is_disabled-clause-given
returns-then-is_disabled-clause-given g c = begins_same c.leave_alone.ensures.given

pub returns-then-is_disabled-clause-takes : goal.returns-then-is_disabled-clause-takes
returns-then-is_disabled-clause-takes g c = rw c.leave_alone.ensures.ends (record { turns = c.leave_alone.ensures.turns; opens = opens_none _ _ _ refl; room = refl })

pub returns-else-is_disabled-clause-turn : goal.returns-else-is_disabled-clause-turn
returns-else-is_disabled-clause-turn g c = λ answers begins.
    let k = g.S.Record.RecordKind.rules in
    let lawful = g.met.S.Record.RecordKind.lawful in
    let w = g.S.Store.world c.args.store.now in
    let s = c.args.number in
    judged-on k lawful answers w s (sym c.is_disabled.ensures ∙ c.if-is_disabled.false) ∙ c.begin_body.ensures.turn answers begins
