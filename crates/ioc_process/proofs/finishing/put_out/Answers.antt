use Rattle.std.proofs.Common.{true, ap, sym, ◌∙◌, refl, arith}
use Rattle.ioc_ledger.specs.Requests.{None}
use Rattle.ioc_ledger.specs.declared.outcome.Outcome.TheVariants.{Processed}
use Rattle.ioc_store.specs.Given.{answers_of, listed}
use Rattle.ioc_store.specs.declared.outbox.OutboxItem.TheVariants.{Post}
use Rattle.ioc_process.specs.Processing.{request, finished, write_device, put_out, processed}
use Rattle.ioc_process.specs.Frames.{then_finished, after_turn, Ended}
use Rattle.ioc_process.specs.Answering.{listed-accords, write_device-requests, begins_same}
use Rattle.ioc_process.specs.Depth.{sent-stays, write_device-outs}
use Rattle.ioc_process.specs.Keeping.{sent-keeps, closed_on}
use Rattle.ioc_process.proofs.FrameSteps.{then_finished-none, output-on, output-waits, remaining-all}
use Rattle.ioc_process.proofs.Turning.{turns_ended}
use Rattle.ioc_process.proofs.FrameTurns.{opens_none}
use Rattle.ioc_process.proofs.Ready.{ready_by, is_ready, takes_ready}
use Rattle.ioc_process.proofs.finishing.put_out.Goals as goal

pub finish-requires-then-write_device : goal.finish-requires-then-write_device
finish-requires-then-write_device g c =
    let keeps = c.write_device.ensures.keeps in
    record {
      ready = record {
        there = keeps.has _ c.requires.ready.there;
        closed = closed_on _ g.met.S.Record.RecordKind.lawful keeps c.requires.ready.closed;
        is_idle = (c.write_device.ensures.stays c.if-write_device.true).active ∙ c.requires.ready.is_idle;
        room = c.requires.ready.room;
      };
    }

pub finish-requires-in-PostEvent : goal.finish-requires-in-PostEvent
finish-requires-in-PostEvent g c =
    let k = g.S.Record.RecordKind.rules in
    let lawful = g.met.S.Record.RecordKind.lawful in
    let w = g.S.Store.world c.args.store.now in
    let item = Post c.in-PostEvent.name in
    let stays = ready_by k lawful c.send.ensures.world (sent-keeps k lawful item w) (sent-stays k lawful item w c.args.number) c.requires.ready.there c.requires.ready.closed c.requires.ready.is_idle in
    record { ready = is_ready k stays c.requires.ready.room }

pub returns-in-NoOutput-clause-turn : goal.returns-in-NoOutput-clause-turn
unfolding put_out
returns-in-NoOutput-clause-turn g c = λ answers begins.
    let k = g.S.Record.RecordKind.rules in
    let lawful = g.met.S.Record.RecordKind.lawful in
    let w = g.S.Store.world c.args.store.now in
    rw c.in-NoOutput.is (ap (λ d. processed d) (output-on k lawful answers c.args.number (record { world = w; requests = None; goes_on = true }) refl
    ∙ then_finished-none k lawful answers w c.args.number) ∙ c.finish.ensures.turn answers)

pub returns-in-WriteLink-clause-turn : goal.returns-in-WriteLink-clause-turn
unfolding put_out
returns-in-WriteLink-clause-turn g c = λ answers begins.
    let k = g.S.Record.RecordKind.rules in
    let lawful = g.met.S.Record.RecordKind.lawful in
    let w = g.S.Store.world c.args.store.now in
    rw c.in-WriteLink.is (ap (λ d. processed d) (output-on k lawful answers c.args.number _ refl) ∙ c.write_link.ensures.turn answers)

pub returns-then-write_device-clause-turn : goal.returns-then-write_device-clause-turn
unfolding put_out
returns-then-write_device-clause-turn g c = λ answers begins.
    let k = g.S.Record.RecordKind.rules in
    let lawful = g.met.S.Record.RecordKind.lawful in
    let w = g.S.Store.world c.args.store.now in
    let v = c.in-WriteDevice.value in
    let out = c.write_device.ensures.out answers (rw c.finish-then-write_device.ensures.given at begins) in
    rw c.in-WriteDevice.is (ap (λ d. processed d) (output-on k lawful answers c.args.number (write_device k answers w c.args.number v) (sym out.goes_on ∙ c.if-write_device.true)
    ∙ ap (λ r. then_finished k answers c.args.number (record { world = (write_device k answers w c.args.number v).world; requests = r })) (write_device-requests k answers w c.args.number v)
    ∙ then_finished-none k lawful answers (write_device k answers w c.args.number v).world c.args.number
    ∙ ap (λ u. finished k (request k answers) u c.args.number) (sym out.world))
    ∙ c.finish-then-write_device.ensures.turn answers)

pub returns-else-write_device-clause-turn : goal.returns-else-write_device-clause-turn
unfolding put_out
returns-else-write_device-clause-turn g c = λ answers begins.
    let k = g.S.Record.RecordKind.rules in
    let lawful = g.met.S.Record.RecordKind.lawful in
    let w = g.S.Store.world c.args.store.now in
    let v = c.in-WriteDevice.value in
    let out = c.write_device.ensures.out answers begins in
    rw c.in-WriteDevice.is (output-waits k lawful answers c.args.number (write_device k answers w c.args.number v) (sym out.goes_on ∙ c.if-write_device.false) (write_device-requests k answers w c.args.number v)
    ∙ ap (λ u. after_turn k answers u (Ended Processed)) (sym out.world))

pub returns-else-write_device-clause-takes : goal.returns-else-write_device-clause-takes
returns-else-write_device-clause-takes g c =
    let k = g.S.Record.RecordKind.rules in
    let lawful = g.met.S.Record.RecordKind.lawful in
    let w = g.S.Store.world c.args.store.now in
    let calls = (g.S.Store.given c.write_device.new.store).calls in
    let out = c.write_device.ensures.out (listed (answers_of calls)) (listed-accords calls) in
    record { turns = turns_ended k c.write_device.ensures.keeps (rw out.world (omega (arith, (write_device-outs k lawful (listed (answers_of calls)) w c.args.number c.in-WriteDevice.value).fewer))) Processed; opens = opens_none _ _ _ refl; room = refl }

pub returns-in-FollowLinks-clause-turn : goal.returns-in-FollowLinks-clause-turn
unfolding put_out
returns-in-FollowLinks-clause-turn g c = λ answers begins.
    let k = g.S.Record.RecordKind.rules in
    let lawful = g.met.S.Record.RecordKind.lawful in
    let w = g.S.Store.world c.args.store.now in
    rw (c.in-FollowLinks.is, ← remaining-all k lawful) (ap (λ d. processed d) (output-on k lawful answers c.args.number _ refl) ∙ c.follow_each.ensures.turn answers)

pub returns-in-PostEvent-clause-turn : goal.returns-in-PostEvent-clause-turn
unfolding put_out
returns-in-PostEvent-clause-turn g c = λ answers begins.
    let k = g.S.Record.RecordKind.rules in
    let lawful = g.met.S.Record.RecordKind.lawful in
    let w = g.S.Store.world c.args.store.now in
    rw c.in-PostEvent.is (ap (λ d. processed d) (output-on k lawful answers c.args.number _ refl ∙ then_finished-none k lawful answers _ c.args.number)
    ∙ (rw c.send.ensures.world at (c.finish-in-PostEvent.ensures.turn answers)))

pub returns-in-PostEvent-clause-takes : goal.returns-in-PostEvent-clause-takes
returns-in-PostEvent-clause-takes g c =
    let k = g.S.Record.RecordKind.rules in
    let lawful = g.met.S.Record.RecordKind.lawful in
    let w = g.S.Store.world c.args.store.now in
    let item = Post c.in-PostEvent.name in
    let stays = ready_by k lawful c.send.ensures.world (sent-keeps k lawful item w) (sent-stays k lawful item w c.args.number) c.requires.ready.there c.requires.ready.closed c.requires.ready.is_idle in
    takes_ready k stays (omega arith) c.finish-in-PostEvent.ensures.takes

pub returns-in-NoOutput-clause-given : goal.returns-in-NoOutput-clause-given
returns-in-NoOutput-clause-given g c = begins_same c.finish.ensures.given

pub returns-in-WriteLink-clause-given : goal.returns-in-WriteLink-clause-given
returns-in-WriteLink-clause-given g c = begins_same c.write_link.ensures.given

pub returns-in-FollowLinks-clause-given : goal.returns-in-FollowLinks-clause-given
returns-in-FollowLinks-clause-given g c = begins_same c.follow_each.ensures.given

pub returns-in-PostEvent-clause-given : goal.returns-in-PostEvent-clause-given
returns-in-PostEvent-clause-given g c = begins_same (c.finish-in-PostEvent.ensures.given ∙ c.send.ensures.given)
