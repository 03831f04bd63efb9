use Rattle.std.proofs.Common.{ap, ◌∙◌, sym, refl, arith}
use Rattle.ioc_ledger.specs.declared.outcome.Outcome.TheVariants.{Processed}
use Rattle.ioc_store.specs.Given.{answers_of, listed}
use Rattle.ioc_process.specs.Processing.{request, completed, input, read_device, processed}
use Rattle.ioc_process.specs.Frames.{after_turn}
use Rattle.ioc_process.specs.Frames.{Ended}
use Rattle.ioc_process.specs.Answering.{listed-accords, begins_on, accords_before, read_device-requests}
use Rattle.ioc_process.specs.Depth.{read_device-reads}
use Rattle.ioc_process.specs.Keeping.{closed_on}
use Rattle.ioc_process.proofs.FrameSteps.{body-input, after_reading-came, after_reading-none}
use Rattle.ioc_process.proofs.FrameTurns.{opens_none}
use Rattle.ioc_process.proofs.Needs.{needs-device}
use Rattle.ioc_process.proofs.Turning.{turns_on, turns_ended}
use Rattle.ioc_process.proofs.reading.begin_asking.Goals as goal

pub finish_body-requires : goal.finish_body-requires
finish_body-requires g c =
    let keeps = c.in-Some.ensures.keeps in
    record {
      ready = record {
        there = keeps.has _ c.requires.ready.there;
        closed = closed_on _ g.met.S.Record.RecordKind.lawful keeps c.requires.ready.closed;
        is_idle = (c.in-Some.ensures.stays refl).active ∙ c.requires.ready.is_idle;
        room = c.requires.ready.room;
      };
    }

pub returns-in-Some-clause-turn : goal.returns-in-Some-clause-turn
unfolding input
returns-in-Some-clause-turn g c = λ answers begins.
    let k = g.S.Record.RecordKind.rules in
    let w = g.S.Store.world c.args.store.now in
    let device = c.in-Some.ensures.read answers (accords_before c.finish_body.ensures.given begins) in
    ap (λ d. processed d) (body-input k g.met.S.Record.RecordKind.lawful answers _ _ _ (needs-device _ c.requires.wants)
    ∙ after_reading-came k g.met.S.Record.RecordKind.lawful answers c.args.number (read_device k answers w c.args.number) c.in-Some.got (sym device.came) (read_device-requests k answers w c.args.number)
    ∙ ap (λ v. completed k answers (request k answers) v c.args.number c.in-Some.got) (sym device.world))
    ∙ c.finish_body.ensures.turn answers begins

pub returns-in-None-clause-turn : goal.returns-in-None-clause-turn
unfolding input
returns-in-None-clause-turn g c = λ answers begins.
    let k = g.S.Record.RecordKind.rules in
    let w = g.S.Store.world c.args.store.now in
    let device = c.in-None.ensures.read answers begins in
    ap (λ d. processed d) (body-input k g.met.S.Record.RecordKind.lawful answers _ _ _ (needs-device _ c.requires.wants))
    ∙ after_reading-none k g.met.S.Record.RecordKind.lawful answers c.args.number (read_device k answers w c.args.number) (sym device.came) (read_device-requests k answers w c.args.number)
    ∙ ap (λ v. after_turn k answers v (Ended Processed)) (sym device.world)

pub returns-in-Some-clause-takes : goal.returns-in-Some-clause-takes
returns-in-Some-clause-takes g c = record {
  turns = turns_on _ c.in-Some.ensures.keeps (omega (arith, (c.in-Some.ensures.stays refl).fewer)) (omega arith) c.finish_body.ensures.takes.turns;
  opens = c.finish_body.ensures.takes.opens;
  room = c.finish_body.ensures.takes.room;
}

pub returns-in-None-clause-takes : goal.returns-in-None-clause-takes
returns-in-None-clause-takes g c =
    let k = g.S.Record.RecordKind.rules in
    let calls = (g.S.Store.given c.ask_device.new.store).calls in
    let given = listed (answers_of calls) in
    let device = c.in-None.ensures.read given (listed-accords calls) in
    let reads = read_device-reads k g.met.S.Record.RecordKind.lawful given (g.S.Store.world c.args.store.now) c.args.number in
    record { turns = turns_ended k c.in-None.ensures.keeps (rw device.world (omega (arith, reads.fewer))) Processed; opens = opens_none _ _ _ refl; room = refl }

pub returns-in-Some-clause-given : goal.returns-in-Some-clause-given
returns-in-Some-clause-given g c = begins_on c.in-Some.ensures.given c.finish_body.ensures.given
