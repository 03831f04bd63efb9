use Rattle.std.proofs.Common.{refl, ℕ, Option, true, ap, ◌∙◌, sym, arith}
use Rattle.ioc_store.specs.Links.{passive_record}
use Rattle.ioc_ledger.specs.declared.outcome.Outcome.TheVariants.{Processed}
use Rattle.ioc_process.specs.Keeping.{keeps-active, keeps_on, closed_on}
use Rattle.ioc_process.specs.Bodies.{forward_stands}
use Rattle.ioc_process.proofs.FrameSteps.{ready, ready-keeps, ready-called, ready-ended, passive_there, finished-calls, finished-ends, unnamed_ends, rested-keeps}
use Rattle.ioc_process.proofs.Needs.{named_there}
use Rattle.ioc_process.proofs.FrameTurns.{turn_pushed, opens_pushed, opens_none}
use Rattle.ioc_process.proofs.Turning.{turns_calls, turns_ended}
use Rattle.ioc_process.proofs.finishing.finish.Goals as goal

pub passive_record-requires : goal.passive_record-requires
passive_record-requires g c =
    let k = g.S.Record.RecordKind.rules in
    let lawful = g.met.S.Record.RecordKind.lawful in
    let w = g.S.Store.world c.args.store.now in
    let s = c.args.number in
    let closed = closed_on k lawful (ready-keeps k lawful w s c.requires.ready.there) c.requires.ready.closed in
    rw (c.in-Some.ensures.named, c.in-Some.ensures.world) (named_there (ready k lawful w s) _ (forward_stands k lawful (ready k lawful w s) s closed))

pub open_frame-requires-clause-there : goal.open_frame-requires-clause-there
open_frame-requires-clause-there g c =
    let k = g.S.Record.RecordKind.rules in
    let lawful = g.met.S.Record.RecordKind.lawful in
    let w = g.S.Store.world c.args.store.now in
    let s = c.args.number in
    rw c.in-Some.ensures.world ((ready-keeps k lawful w s c.requires.ready.there).has _ c.requires.ready.there)

pub finish_request-requires : goal.finish_request-requires
finish_request-requires g c =
    let k = g.S.Record.RecordKind.rules in
    let lawful = g.met.S.Record.RecordKind.lawful in
    let w = g.S.Store.world c.args.store.now in
    let s = c.args.number in
    rw c.in-Some.ensures.world ((ready-keeps k lawful w s c.requires.ready.there).has _ c.requires.ready.there)

pub returns-in-Some-passive_record-clause-turn : goal.returns-in-Some-passive_record-clause-turn
returns-in-Some-passive_record-clause-turn g c = λ answers.
    let k = g.S.Record.RecordKind.rules in
    let lawful = g.met.S.Record.RecordKind.lawful in
    let w = g.S.Store.world c.args.store.now in
    let s = c.args.number in
    rw (c.open_frame.ensures.items, turn_pushed, c.open_frame.ensures.world, c.in-Some.ensures.world)
    (finished-calls k lawful answers w s c.in-Some-passive_record.target (ap (λ (o : Option ℕ). passive_record k (ready k lawful w s) o) (sym c.in-Some.ensures.named) ∙ rw c.in-Some.ensures.world at (sym c.passive_record.ensures ∙ c.in-Some-passive_record.is)))

pub returns-in-Some-passive_record-clause-takes : goal.returns-in-Some-passive_record-clause-takes
returns-in-Some-passive_record-clause-takes g c =
    let k = g.S.Record.RecordKind.rules in
    let lawful = g.met.S.Record.RecordKind.lawful in
    let w = g.S.Store.world c.args.store.now in
    let s = c.args.number in
    let first = ready-keeps k lawful w s c.requires.ready.there in
    let active = keeps-active k lawful (ready k lawful w s) s (first.has _ c.requires.ready.there) true in
    let keeps = keeps_on k first active in
    let closed = closed_on k lawful first c.requires.ready.closed in
    let named = ap (λ (o : Option ℕ). passive_record k (ready k lawful w s) o) (sym c.in-Some.ensures.named) ∙ rw c.in-Some.ensures.world at (sym c.passive_record.ensures ∙ c.in-Some-passive_record.is) in
    record {
      turns = rw (c.open_frame.ensures.items, turn_pushed, c.open_frame.ensures.world, c.in-Some.ensures.world)
          (turns_calls k _ keeps (omega (arith, ready-called k lawful w s c.requires.ready.is_idle))
          (record { source_there = keeps.has _ c.requires.ready.there; requested_there = active.has _ (passive_there k lawful (ready k lawful w s) _ c.in-Some-passive_record.target (forward_stands k lawful _ s closed) named) })
          (omega arith));
      opens = opens_pushed _ _ _ c.open_frame.ensures.items;
      room = c.open_frame.ensures.room;
    }

pub returns-in-None-clause-turn : goal.returns-in-None-clause-turn
returns-in-None-clause-turn g c = λ answers.
    let k = g.S.Record.RecordKind.rules in
    let lawful = g.met.S.Record.RecordKind.lawful in
    let w = g.S.Store.world c.args.store.now in
    let s = c.args.number in
    rw (c.finish_request.ensures.world, c.in-Some.ensures.world)
    (finished-ends k lawful answers w s (ap (λ (o : Option ℕ). passive_record k (ready k lawful w s) o) (sym c.in-Some.ensures.named) ∙ rw c.in-Some.ensures.world at (sym c.passive_record.ensures ∙ c.in-None.is)))

pub returns-in-None-clause-takes : goal.returns-in-None-clause-takes
returns-in-None-clause-takes g c =
    let k = g.S.Record.RecordKind.rules in
    let lawful = g.met.S.Record.RecordKind.lawful in
    let w = g.S.Store.world c.args.store.now in
    let s = c.args.number in
    let first = ready-keeps k lawful w s c.requires.ready.there in
    record {
      turns = rw (c.finish_request.ensures.world, c.in-Some.ensures.world)
          (turns_ended k (keeps_on k first (rested-keeps k lawful _ s (first.has _ c.requires.ready.there))) (omega (arith, ready-ended k lawful w s c.requires.ready.is_idle)) Processed);
      opens = opens_none _ _ _ refl;
      room = refl;
    }

pub returns-in_default-clause-turn : goal.returns-in_default-clause-turn
returns-in_default-clause-turn g c = λ answers.
    let k = g.S.Record.RecordKind.rules in
    let lawful = g.met.S.Record.RecordKind.lawful in
    let w = g.S.Store.world c.args.store.now in
    let s = c.args.number in
    rw c.in_default.ensures.world (finished-ends k lawful answers w s (unnamed_ends k (ready k lawful w s) _ (sym c.in_default.ensures.named)))

pub returns-in_default-clause-takes : goal.returns-in_default-clause-takes
returns-in_default-clause-takes g c =
    let k = g.S.Record.RecordKind.rules in
    let lawful = g.met.S.Record.RecordKind.lawful in
    let w = g.S.Store.world c.args.store.now in
    let s = c.args.number in
    let first = ready-keeps k lawful w s c.requires.ready.there in
    record {
      turns = rw c.in_default.ensures.world
          (turns_ended k (keeps_on k first (rested-keeps k lawful _ s (first.has _ c.requires.ready.there))) (omega (arith, ready-ended k lawful w s c.requires.ready.is_idle)) Processed);
      opens = opens_none _ _ _ refl;
      room = refl;
    }
