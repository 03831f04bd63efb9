use Rattle.std.proofs.Common.{◌+◌, ◌-◌, ◌∷◌, true, refl, ap, sym, ◌∙◌, arith}
use Rattle.ioc_dbcommon.specs.Steps.{with_active}
use Rattle.ioc_store.specs.World.{changed}
use Rattle.ioc_store.specs.declared.frames.Next.TheVariants.{Requests}
use Rattle.ioc_process.specs.Answering.{begins_same}
use Rattle.ioc_process.specs.Frames.{then_read_each, remaining}
use Rattle.ioc_process.specs.Ready.{TakesTurn}
use Rattle.ioc_process.proofs.FrameSteps.{remaining-chosen, remaining-other, remaining-none, none_of, slot_below}
use Rattle.ioc_process.proofs.FrameTurns.{turn_pushed}
use Rattle.ioc_process.proofs.InputSteps.{input_slot_stands, slot_place, each-ends, each-kept, each-requests}
use Rattle.ioc_process.proofs.Ready.{ready_then, is_ready, takes_ready_at, takes_pushed}
use Rattle.ioc_process.proofs.reading_each.read_each.Goals as goal

pub read_one-requires : goal.read_one-requires
read_one-requires g c = record { there = c.loop-slot.invariant.ready.there; closed = c.loop-slot.invariant.ready.closed }

pub loop-slot-preserved-in-Kept : goal.loop-slot-preserved-in-Kept
loop-slot-preserved-in-Kept g c =
    let k = g.S.Record.RecordKind.rules in
    let lawful = g.met.S.Record.RecordKind.lawful in
    let s = c.args.number in
    let i = c.loop-slot.invariant in
    let v = g.S.Store.world c.loop-slot.store in
    let inputs = c.args.inputs in
    let hf = c.loop-slot.has_fault in
    let chosen = remaining-chosen k lawful inputs c.loop-slot.next c.in-Some.slot (sym c.from_index.ensures ∙ c.in-Some.is) (sym c.is_chosen.ensures ∙ c.if-is_chosen.true) in
    let step = rw c.in-Kept.is at c.read_one.ensures.step in
    record {
      ready = ready_then k lawful i.ready refl c.read_one.ensures.keeps c.read_one.ensures.stays;
      given = c.read_one.ensures.given ∙ i.given;
      frames = i.frames;
      onward = omega (arith, i.onward);
      left = λ answers. i.left answers ∙ ap (λ slots. then_read_each k answers s hf slots v) chosen
          ∙ each-kept k lawful answers v _ s hf _ c.in-Some.slot (remaining inputs (c.loop-slot.next + 1)) step;
    }

pub loop-slot-preserved : goal.loop-slot-preserved
loop-slot-preserved g c =
    let k = g.S.Record.RecordKind.rules in
    let lawful = g.met.S.Record.RecordKind.lawful in
    let s = c.args.number in
    let i = c.loop-slot.invariant in
    let v = g.S.Store.world c.loop-slot.store in
    let inputs = c.args.inputs in
    let hf = c.loop-slot.has_fault in
    let other = remaining-other k lawful inputs c.loop-slot.next c.in-Some.slot (sym c.from_index.ensures ∙ c.in-Some.is) (sym c.is_chosen.ensures ∙ c.if-is_chosen.false) in
    record {
      ready = i.ready;
      given = i.given;
      frames = i.frames;
      onward = omega (arith, i.onward);
      left = λ answers. i.left answers ∙ ap (λ slots. then_read_each k answers s hf slots v) other;
    }

pub returns-in-Asks-clause-turn : goal.returns-in-Asks-clause-turn
returns-in-Asks-clause-turn g c = λ answers begins.
    let k = g.S.Record.RecordKind.rules in
    let lawful = g.met.S.Record.RecordKind.lawful in
    let s = c.args.number in
    let i = c.loop-slot.invariant in
    let v = g.S.Store.world c.loop-slot.store in
    let inputs = c.args.inputs in
    let hf = c.loop-slot.has_fault in
    let chosen = remaining-chosen k lawful inputs c.loop-slot.next c.in-Some.slot (sym c.from_index.ensures ∙ c.in-Some.is) (sym c.is_chosen.ensures ∙ c.if-is_chosen.true) in
    let step = rw c.in-Asks.is at c.read_one.ensures.step in
    let place = slot_place c.loop-slot.next c.in-Some.slot (sym c.from_index.ensures ∙ c.in-Some.is) in
    rw (c.open_frame.ensures.items, turn_pushed, c.open_frame.ensures.world, step.0)
    (i.left answers ∙ ap (λ slots. then_read_each k answers s hf slots v) (chosen ∙ ap (λ n. c.in-Some.slot ∷ remaining inputs (n + 1)) (sym place))
    ∙ each-requests k lawful answers v s inputs hf c.in-Some.slot c.in-Asks.target step.1 step.2 i.ready.is_idle)

pub returns-in-Asks-clause-given : goal.returns-in-Asks-clause-given
returns-in-Asks-clause-given g c = begins_same (c.open_frame.ensures.given ∙ c.read_one.ensures.given ∙ c.loop-slot.invariant.given)

pub returns-in-Asks-clause-takes : goal.returns-in-Asks-clause-takes
returns-in-Asks-clause-takes g c =
    let k = g.S.Record.RecordKind.rules in
    let lawful = g.met.S.Record.RecordKind.lawful in
    let s = c.args.number in
    let i = c.loop-slot.invariant in
    let v = g.S.Store.world c.loop-slot.store in
    let inputs = c.args.inputs in
    let hf = c.loop-slot.has_fault in
    let step = rw c.in-Asks.is at c.read_one.ensures.step in
    let stands = input_slot_stands k lawful v s c.in-Some.slot i.ready.closed c.in-Asks.target step.1 in
    let place = slot_place c.loop-slot.next c.in-Some.slot (sym c.from_index.ensures ∙ c.in-Some.is) in
    let ready = is_ready k i.ready (rw i.frames c.requires.ready.room) in
    let pushed : TakesTurn k v (g.S.Store.world c.open_frame.new.store) ((16 - c.args.first) + 17) c.loop-slot.frames c.open_frame.new.frames Requests =
    takes_pushed k lawful _ (c.open_frame.ensures.world ∙ ap (λ u. changed k u s (with_active true)) step.0) c.open_frame.ensures.items c.open_frame.ensures.room ready stands
    (omega (arith, place, i.onward, slot_below c.loop-slot.next c.in-Some.slot (sym c.from_index.ensures ∙ c.in-Some.is))) in
    takes_ready_at k i.frames i.ready (omega arith) pushed

pub finish_body-requires : goal.finish_body-requires
finish_body-requires g c = record { ready = is_ready g.S.Record.RecordKind.rules c.loop-slot.invariant.ready (rw c.loop-slot.invariant.frames c.requires.ready.room) }

pub returns-clause-turn : goal.returns-clause-turn
returns-clause-turn g c = λ answers begins.
    let k = g.S.Record.RecordKind.rules in
    let lawful = g.met.S.Record.RecordKind.lawful in
    let s = c.args.number in
    let i = c.loop-slot.invariant in
    let v = g.S.Store.world c.loop-slot.store in
    let inputs = c.args.inputs in
    let hf = c.loop-slot.has_fault in
    let none = remaining-none k lawful inputs c.loop-slot.next (sym c.from_index.ensures ∙ none_of c.from_index.result (λ x is. c.in_default.not-Some x is)) in
    i.left answers ∙ ap (λ slots. then_read_each k answers s hf slots v) none ∙ each-ends k lawful answers v s hf ∙ rw c.came_of.ensures at (c.finish_body.ensures.turn answers begins)

pub returns-clause-given : goal.returns-clause-given
returns-clause-given g c = rw c.loop-slot.invariant.given at c.finish_body.ensures.given

pub returns-clause-takes : goal.returns-clause-takes
returns-clause-takes g c =
    let i = c.loop-slot.invariant in
    takes_ready_at g.S.Record.RecordKind.rules i.frames i.ready (omega (arith, i.onward)) c.finish_body.ensures.takes
