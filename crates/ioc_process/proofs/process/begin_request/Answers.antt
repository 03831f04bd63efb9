use Rattle.std.proofs.Common.{refl, ap, ◌∙◌, sym, arith}
use Rattle.ioc_dbcommon.specs.declared.common.Common.{Common}
use Rattle.ioc_dbcommon.specs.Steps.{blocked}
use Rattle.ioc_ledger.specs.declared.outcome.Outcome.TheVariants.{Active}
use Rattle.ioc_process.specs.Frames.{after_turn}
use Rattle.ioc_store.specs.StepFrames.{blocked-frame}
use Rattle.ioc_process.specs.Bodies.{ran-turned_away, ran-idle}
use Rattle.ioc_process.specs.Answering.{begins_same}
use Rattle.ioc_process.proofs.FrameTurns.{opens_none}
use Rattle.ioc_process.proofs.Ready.{turns_changed}
use Rattle.ioc_process.proofs.Turning.{some_idle}
use Rattle.ioc_process.proofs.process.begin_request.Goals as goal

pub begin_idle-requires : goal.begin_idle-requires
begin_idle-requires g c =
    let k = g.S.Record.RecordKind.rules in
    let inactive = ap (λ (it : Common). it.active) (sym c.common.ensures) ∙ c.if-common.false in
    record {
      there = c.requires.there;
      closed = c.requires.closed;
      is_idle = inactive;
      room = omega (arith, c.requires.room, some_idle k g.met.S.Record.RecordKind.lawful (g.S.Store.world c.args.store.now) c.args.number inactive);
    }

pub returns-then-common-clause-turn : goal.returns-then-common-clause-turn
unfolding after_turn
returns-then-common-clause-turn g c = λ answers begins.
    let k = g.S.Record.RecordKind.rules in
    let lawful = g.met.S.Record.RecordKind.lawful in
    let w = g.S.Store.world c.args.store.now in
    let s = c.args.number in
    rw c.block.ensures.world (ran-turned_away k lawful answers w s (ap (λ (it : Common). it.active) (sym c.common.ensures) ∙ c.if-common.true))

pub returns-then-common-clause-given : goal.returns-then-common-clause-given
returns-then-common-clause-given g c = begins_same c.block.ensures.given

pub returns-then-common-clause-takes : goal.returns-then-common-clause-takes
returns-then-common-clause-takes g c = record {
  turns = turns_changed _ g.met.S.Record.RecordKind.lawful c.args.number blocked c.block.ensures.world c.requires.there (λ it. (blocked-frame it).links) (blocked-frame _).active Active;
  opens = opens_none _ _ _ refl;
  room = refl;
}

pub returns-else-common-clause-turn : goal.returns-else-common-clause-turn
returns-else-common-clause-turn g c = λ answers begins.
    let k = g.S.Record.RecordKind.rules in
    let lawful = g.met.S.Record.RecordKind.lawful in
    let w = g.S.Store.world c.args.store.now in
    let s = c.args.number in
    ran-idle k lawful answers w s (ap (λ (it : Common). it.active) (sym c.common.ensures) ∙ c.if-common.false) ∙ c.begin_idle.ensures.turn answers begins
