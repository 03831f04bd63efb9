use Rattle.std.proofs.Common.{◌∙◌, refl, arith}
use Rattle.ioc_dbcommon.specs.Steps.{with_put_mark}
use Rattle.ioc_process.proofs.Handing.{handed_to-keeps, handed_to-fewer, handed_to-inactive, handed_to-ran}
use Rattle.ioc_process.specs.Keeping.{keeps-changed, closed_on}
use Rattle.ioc_process.proofs.Turning.{turns_on, some_idle}
use Rattle.ioc_process.proofs.process.ask_idle.Goals as goal

pub pass_notification-requires-clause-source : goal.pass_notification-requires-clause-source
pass_notification-requires-clause-source g c =
    let k = g.S.Record.RecordKind.rules in
    let lawful = g.met.S.Record.RecordKind.lawful in
    rw c.set_put_mark.ensures.world ((keeps-changed k lawful (g.S.Store.world c.args.store.now) c.args.target c.requires.calls.there (with_put_mark _) (λ it. (refl, refl))).has _ c.requires.calls.source_there)

pub pass_notification-requires-clause-target : goal.pass_notification-requires-clause-target
pass_notification-requires-clause-target g c =
    let k = g.S.Record.RecordKind.rules in
    let lawful = g.met.S.Record.RecordKind.lawful in
    rw c.set_put_mark.ensures.world ((keeps-changed k lawful (g.S.Store.world c.args.store.now) c.args.target c.requires.calls.there (with_put_mark _) (λ it. (refl, refl))).has _ c.requires.calls.there)

pub begin_idle-requires : goal.begin_idle-requires
begin_idle-requires g c =
    let k = g.S.Record.RecordKind.rules in
    let lawful = g.met.S.Record.RecordKind.lawful in
    let w = g.S.Store.world c.args.store.now in
    let keeps = handed_to-keeps k lawful w c.args.source c.args.target c.requires.is_idle c.requires.calls.there in
    rw (c.pass_notification.ensures.world, c.set_put_mark.ensures.world, c.common.ensures) (record {
      there = keeps.has _ c.requires.calls.there;
      closed = closed_on k lawful keeps c.requires.calls.closed;
      is_idle = handed_to-inactive k lawful w c.args.source c.args.target c.requires.is_idle;
      room = omega (arith, c.requires.calls.room, some_idle k lawful w c.args.target c.requires.is_idle);
    })

pub returns-clause-turn : goal.returns-clause-turn
returns-clause-turn g c = λ answers begins.
    let k = g.S.Record.RecordKind.rules in
    let lawful = g.met.S.Record.RecordKind.lawful in
    let w = g.S.Store.world c.args.store.now in
    handed_to-ran k lawful w c.args.source c.args.target c.requires.is_idle answers
    ∙ (rw (c.pass_notification.ensures.world, c.set_put_mark.ensures.world, c.common.ensures) at (c.begin_idle.ensures.turn answers begins))

pub returns-clause-given : goal.returns-clause-given
returns-clause-given g c = rw (c.pass_notification.ensures.given, c.set_put_mark.ensures.given) at c.begin_idle.ensures.given

pub returns-clause-takes : goal.returns-clause-takes
returns-clause-takes g c =
    let k = g.S.Record.RecordKind.rules in
    let lawful = g.met.S.Record.RecordKind.lawful in
    let w = g.S.Store.world c.args.store.now in
    let takes = c.begin_idle.ensures.takes in
    record {
      turns =
          turns_on k (handed_to-keeps k lawful w c.args.source c.args.target c.requires.is_idle c.requires.calls.there) (omega (arith, handed_to-fewer k lawful w c.args.source c.args.target c.requires.is_idle)) (omega arith)
          (rw (c.pass_notification.ensures.world, c.set_put_mark.ensures.world, c.common.ensures) at takes.turns);
      opens = takes.opens;
      room = takes.room;
    }
