use Rattle.std.proofs.Common.{refl, ap, ◌∙◌, sym, arith}
use Rattle.ioc_dbcommon.specs.declared.common.Common.{Common}
use Rattle.ioc_process.specs.Answering.{begins_same}
use Rattle.ioc_process.specs.Keeping.{keeps_all}
use Rattle.ioc_process.proofs.FrameTurns.{opens_none}
use Rattle.ioc_process.proofs.Turning.{turns_on}
use Rattle.ioc_process.proofs.process.begin_called.Goals as goal

pub ask_active-requires : goal.ask_active-requires
ask_active-requires g c =
    record { there = c.requires.there; source_there = c.requires.source_there; is_active = ap (λ (it : Common). it.active) (sym c.common.ensures) ∙ c.if-common.true }

pub ask_idle-requires : goal.ask_idle-requires
ask_idle-requires g c = record { calls = c.requires; is_idle = ap (λ (it : Common). it.active) (sym c.common.ensures) ∙ c.if-common.false }

pub returns-then-common-clause-turn : goal.returns-then-common-clause-turn
returns-then-common-clause-turn g c = λ answers begins. c.ask_active.ensures.turn answers

pub returns-then-common-clause-given : goal.returns-then-common-clause-given
returns-then-common-clause-given g c = begins_same c.ask_active.ensures.given

pub returns-then-common-clause-takes : goal.returns-then-common-clause-takes
returns-then-common-clause-takes g c = record {
  turns = turns_on _ (keeps_all _ _) (omega arith) (omega arith) c.ask_active.ensures.turns;
  opens = opens_none _ _ _ refl;
  room = refl;
}
