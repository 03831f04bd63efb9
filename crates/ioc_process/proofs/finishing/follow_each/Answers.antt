use Rattle.std.proofs.Common.{◌+◌, Bool, ℕ, true, cond, ap, sym, ◌∙◌, arith}
use Rattle.ioc_store.specs.Links.{link_at}
use Rattle.ioc_process.specs.Processing.{request, followed_each, processed}
use Rattle.ioc_process.specs.Frames.{then_finished, remaining}
use Rattle.ioc_store.specs.Worlds.{room-active}
use Rattle.ioc_process.specs.Keeping.{keeps-active}
use Rattle.ioc_process.specs.Bodies.{slot_stands}
use Rattle.ioc_process.proofs.FrameSteps.{then_finished-none, remaining-chosen, remaining-other, remaining-none, each-none, each-calls, passive_there, slot_below, none_of}
use Rattle.ioc_process.proofs.FrameTurns.{turn_pushed, opens_pushed}
use Rattle.ioc_process.proofs.Turning.{turns_calls}
use Rattle.ioc_process.proofs.finishing.follow_each.Goals as goal

pub passive_target-requires : goal.passive_target-requires
passive_target-requires g c =
    let k = g.S.Record.RecordKind.rules in
    let lawful = g.met.S.Record.RecordKind.lawful in
    let w = g.S.Store.world c.args.store.now in
    let s = c.args.number in
    let i = c.loop-slot.invariant in
    let links = c.args.links in
    rw (c.link_at-link.ensures, i.world) (slot_stands k lawful w s c.in-Some.slot c.requires.ready.closed)

pub returns-in-Some-passive_target-clause-turn : goal.returns-in-Some-passive_target-clause-turn
returns-in-Some-passive_target-clause-turn g c = λ answers.
    let k = g.S.Record.RecordKind.rules in
    let lawful = g.met.S.Record.RecordKind.lawful in
    let w = g.S.Store.world c.args.store.now in
    let s = c.args.number in
    let i = c.loop-slot.invariant in
    let links = c.args.links in
    let named = rw (c.link_at-link.ensures, i.world) at (sym c.passive_target.ensures ∙ c.in-Some-passive_target.is) in
    let chosen = remaining-chosen k lawful links c.loop-slot.next c.in-Some.slot (sym c.from_index.ensures ∙ c.in-Some.is) (sym c.is_chosen.ensures ∙ c.if-is_chosen.true) in
    rw (c.open_frame.ensures.items, turn_pushed, c.open_frame.ensures.world, i.world)
    (ap (λ d. processed d) (i.left answers ∙ ap (λ slots. then_finished k answers s (followed_each k (request k answers) w s slots)) chosen)
    ∙ each-calls k lawful answers w s links (c.loop-slot.next + 1) c.in-Some.slot c.in-Some-passive_target.target c.requires.ready.is_idle named)

pub returns-in-Some-passive_target-clause-takes : goal.returns-in-Some-passive_target-clause-takes
returns-in-Some-passive_target-clause-takes g c =
    let k = g.S.Record.RecordKind.rules in
    let lawful = g.met.S.Record.RecordKind.lawful in
    let w = g.S.Store.world c.args.store.now in
    let s = c.args.number in
    let i = c.loop-slot.invariant in
    let links = c.args.links in
    let named = rw (c.link_at-link.ensures, i.world) at (sym c.passive_target.ensures ∙ c.in-Some-passive_target.is) in
    let keeps = keeps-active k lawful w s c.requires.ready.there true in
    record {
      turns = rw (c.open_frame.ensures.items, turn_pushed, c.open_frame.ensures.world, i.world)
          (turns_calls k _ keeps (omega (arith, room-active k lawful w s, ap {A = Bool} {B = ℕ} (λ b. cond b 1 0) c.requires.ready.is_idle))
          (record { source_there = keeps.has _ c.requires.ready.there; requested_there = keeps.has _ (passive_there k lawful w (link_at k w s c.in-Some.slot) c.in-Some-passive_target.target (slot_stands k lawful w s c.in-Some.slot c.requires.ready.closed) named) })
          (omega (arith, i.onward, slot_below c.loop-slot.next c.in-Some.slot (sym c.from_index.ensures ∙ c.in-Some.is))));
      opens = opens_pushed _ _ _ (rw i.frames at c.open_frame.ensures.items);
      room = c.open_frame.ensures.room ∙ i.room;
    }

pub loop-slot-preserved-in_default-passive_target : goal.loop-slot-preserved-in_default-passive_target
loop-slot-preserved-in_default-passive_target g c =
    let k = g.S.Record.RecordKind.rules in
    let lawful = g.met.S.Record.RecordKind.lawful in
    let w = g.S.Store.world c.args.store.now in
    let s = c.args.number in
    let i = c.loop-slot.invariant in
    let links = c.args.links in
    let none = rw (c.link_at-link.ensures, i.world) at (sym c.passive_target.ensures ∙ none_of c.passive_target.result (λ x is. c.in_default-passive_target.not-Some x is)) in
    let chosen = remaining-chosen k lawful links c.loop-slot.next c.in-Some.slot (sym c.from_index.ensures ∙ c.in-Some.is) (sym c.is_chosen.ensures ∙ c.if-is_chosen.true) in
    record {
      world = i.world;
      given = i.given;
      frames = i.frames;
      room = i.room;
      onward = omega (arith, i.onward);
      left = λ answers. i.left answers ∙ ap (λ slots. then_finished k answers s (followed_each k (request k answers) w s slots)) chosen
          ∙ ap (then_finished k answers s) (each-none k lawful answers w s c.in-Some.slot (remaining links (c.loop-slot.next + 1)) none);
    }

pub loop-slot-preserved : goal.loop-slot-preserved
loop-slot-preserved g c =
    let k = g.S.Record.RecordKind.rules in
    let lawful = g.met.S.Record.RecordKind.lawful in
    let w = g.S.Store.world c.args.store.now in
    let s = c.args.number in
    let i = c.loop-slot.invariant in
    let links = c.args.links in
    let other = remaining-other k lawful links c.loop-slot.next c.in-Some.slot (sym c.from_index.ensures ∙ c.in-Some.is) (sym c.is_chosen.ensures ∙ c.if-is_chosen.false) in
    record {
      world = i.world;
      given = i.given;
      frames = i.frames;
      room = i.room;
      onward = omega (arith, i.onward);
      left = λ answers. i.left answers ∙ ap (λ slots. then_finished k answers s (followed_each k (request k answers) w s slots)) other;
    }

pub returns-clause-turn : goal.returns-clause-turn
unfolding followed_each
returns-clause-turn g c = λ answers.
    let k = g.S.Record.RecordKind.rules in
    let lawful = g.met.S.Record.RecordKind.lawful in
    let w = g.S.Store.world c.args.store.now in
    let s = c.args.number in
    let i = c.loop-slot.invariant in
    let links = c.args.links in
    let none = remaining-none k lawful links c.loop-slot.next (sym c.from_index.ensures ∙ none_of c.from_index.result (λ x is. c.in_default.not-Some x is)) in
    ap (λ d. processed d) (i.left answers ∙ ap (λ slots. then_finished k answers s (followed_each k (request k answers) w s slots)) none
    ∙ then_finished-none k lawful answers w s) ∙ (rw i.world at (c.finish.ensures.turn answers))
