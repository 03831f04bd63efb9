use Rattle.std.proofs.Common.{arith}
use Rattle.ioc_process.specs.Frames.{resumed_reading}
use Rattle.ioc_process.proofs.InputSteps.{input_read-keeps, input_read-stays}
use Rattle.ioc_process.proofs.Ready.{ready_by, is_ready, takes_ready}
use Rattle.ioc_process.proofs.reading_each.go_on_reading.Goals as goal

pub read_each-requires : goal.read_each-requires
read_each-requires g c =
    let k = g.S.Record.RecordKind.rules in
    let lawful = g.met.S.Record.RecordKind.lawful in
    let w = g.S.Store.world c.args.store.now in
    let s = c.args.number in
    let ready = ready_by k lawful c.read_input.ensures.world (input_read-keeps k lawful w s c.args.target c.args.left.slot c.requires.ready.closed c.requires.ready.there c.requires.standing) (input_read-stays k lawful w s c.args.target c.args.left.slot) c.requires.ready.there c.requires.ready.closed c.requires.ready.is_idle in
    record { ready = is_ready k ready c.requires.ready.room }

pub returns-clause-turn : goal.returns-clause-turn
unfolding resumed_reading
returns-clause-turn g c = λ answers begins.
    let k = g.S.Record.RecordKind.rules in
    let lawful = g.met.S.Record.RecordKind.lawful in
    let w = g.S.Store.world c.args.store.now in
    let s = c.args.number in
    rw (← c.read_input.ensures.world, ← c.read_input.ensures.fault, ← c.index.ensures.number) (c.read_each.ensures.turn answers begins)

pub returns-clause-given : goal.returns-clause-given
returns-clause-given g c = rw c.read_input.ensures.given at c.read_each.ensures.given

pub returns-clause-takes : goal.returns-clause-takes
returns-clause-takes g c =
    let k = g.S.Record.RecordKind.rules in
    let lawful = g.met.S.Record.RecordKind.lawful in
    let w = g.S.Store.world c.args.store.now in
    let s = c.args.number in
    let ready = ready_by k lawful c.read_input.ensures.world (input_read-keeps k lawful w s c.args.target c.args.left.slot c.requires.ready.closed c.requires.ready.there c.requires.standing) (input_read-stays k lawful w s c.args.target c.args.left.slot) c.requires.ready.there c.requires.ready.closed c.requires.ready.is_idle in
    takes_ready k ready (omega (arith, c.index.ensures.number)) c.read_each.ensures.takes
