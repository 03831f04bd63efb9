use Rattle.std.proofs.Common.{ap, sym, ◌∙◌, arith}
use Rattle.ioc_dbcommon.specs.declared.body.Want.TheVariants.{ReadInputs}
use Rattle.ioc_process.specs.Answering.{begins_same}
use Rattle.ioc_process.specs.Bodies.{choice_stands}
use Rattle.ioc_process.proofs.FrameTurns.{turn_pushed}
use Rattle.ioc_process.proofs.InputSteps.{body-inputs, inputs-unused, inputs-nowhere, inputs-plain, inputs-request}
use Rattle.ioc_process.proofs.Needs.{needs-inputs}
use Rattle.ioc_process.proofs.Ready.{takes_more, takes_pushed}
use Rattle.ioc_process.proofs.reading_each.begin_inputs.Goals as goal

pub returns-in-Unused-clause-turn : goal.returns-in-Unused-clause-turn
returns-in-Unused-clause-turn g c = λ answers begins.
    let k = g.S.Record.RecordKind.rules in
    let lawful = g.met.S.Record.RecordKind.lawful in
    let w = g.S.Store.world c.args.store.now in
    let s = c.args.number in
    body-inputs k lawful answers w s _ (needs-inputs _ c.requires.wants ∙ ap ReadInputs (sym c.wanted_link.ensures ∙ c.in-Unused.is))
    ∙ inputs-unused k lawful answers w s ∙ c.read_chosen.ensures.turn answers begins

pub returns-in-Unused-clause-takes : goal.returns-in-Unused-clause-takes
returns-in-Unused-clause-takes g c = takes_more _ (omega arith) c.read_chosen.ensures.takes

pub returns-in-OwnDevice-clause-turn : goal.returns-in-OwnDevice-clause-turn
returns-in-OwnDevice-clause-turn g c = λ answers begins.
    let k = g.S.Record.RecordKind.rules in
    let lawful = g.met.S.Record.RecordKind.lawful in
    let w = g.S.Store.world c.args.store.now in
    let s = c.args.number in
    body-inputs k lawful answers w s _ (needs-inputs _ c.requires.wants ∙ ap ReadInputs (sym c.wanted_link.ensures))
    ∙ inputs-nowhere k lawful answers w s _ c.in-OwnDevice.is ∙ c.choose_nowhere.ensures.turn answers begins

pub returns-in-OwnDevice-clause-takes : goal.returns-in-OwnDevice-clause-takes
returns-in-OwnDevice-clause-takes g c = takes_more _ (omega arith) c.choose_nowhere.ensures.takes

pub passes_on-requires : goal.passes_on-requires
passes_on-requires g c =
    choice_stands g.S.Record.RecordKind.rules g.met.S.Record.RecordKind.lawful _ _ _ c.requires.ready.closed (needs-inputs _ c.requires.wants ∙ ap ReadInputs (sym c.wanted_link.ensures)) c.in-Standing.target c.in-Standing.is

pub choose-requires : goal.choose-requires
choose-requires g c =
    let k = g.S.Record.RecordKind.rules in
    let lawful = g.met.S.Record.RecordKind.lawful in
    let w = g.S.Store.world c.args.store.now in
    let s = c.args.number in
    record {
      ready = c.requires.ready;
      standing = choice_stands k lawful w s _ c.requires.ready.closed (needs-inputs _ c.requires.wants ∙ ap ReadInputs (sym c.wanted_link.ensures)) c.in-Standing.target c.in-Standing.is;
    }

pub returns-then-passes_on : goal.returns-then-passes_on
returns-then-passes_on g c =
    let k = g.S.Record.RecordKind.rules in
    let lawful = g.met.S.Record.RecordKind.lawful in
    let w = g.S.Store.world c.args.store.now in
    let s = c.args.number in
    let wants = needs-inputs _ c.requires.wants ∙ ap ReadInputs (sym c.wanted_link.ensures ∙ c.in-Standing.is) in
    record {
      turn = λ answers begins. rw (c.open_frame.ensures.items, turn_pushed, c.open_frame.ensures.world)
          (body-inputs k lawful answers w s _ wants ∙ inputs-request k lawful answers w s c.in-Standing.target (sym c.passes_on.ensures ∙ c.if-passes_on.true) c.requires.ready.is_idle);
      given = begins_same c.open_frame.ensures.given;
      takes = takes_pushed _ lawful _ c.open_frame.ensures.world c.open_frame.ensures.items c.open_frame.ensures.room c.requires.ready
          (choice_stands k lawful w s _ c.requires.ready.closed (needs-inputs _ c.requires.wants ∙ ap ReadInputs (sym c.wanted_link.ensures)) c.in-Standing.target c.in-Standing.is) (omega arith);
    }

pub returns-else-passes_on-clause-turn : goal.returns-else-passes_on-clause-turn
returns-else-passes_on-clause-turn g c = λ answers begins.
    let k = g.S.Record.RecordKind.rules in
    let lawful = g.met.S.Record.RecordKind.lawful in
    let w = g.S.Store.world c.args.store.now in
    let s = c.args.number in
    body-inputs k lawful answers w s _ (needs-inputs _ c.requires.wants ∙ ap ReadInputs (sym c.wanted_link.ensures ∙ c.in-Standing.is))
    ∙ inputs-plain k lawful answers w s c.in-Standing.target (sym c.passes_on.ensures ∙ c.if-passes_on.false) ∙ c.choose.ensures.turn answers begins

pub returns-else-passes_on-clause-takes : goal.returns-else-passes_on-clause-takes
returns-else-passes_on-clause-takes g c = takes_more _ (omega arith) c.choose.ensures.takes
