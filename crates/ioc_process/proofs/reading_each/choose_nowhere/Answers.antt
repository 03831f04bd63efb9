use Rattle.std.proofs.Common.{arith}
use Rattle.ioc_process.specs.Depth.{faulted-stays}
use Rattle.ioc_process.specs.Keeping.{faulted-keeps}
use Rattle.ioc_process.proofs.Ready.{ready_by, is_ready, takes_ready}
use Rattle.ioc_process.proofs.reading_each.choose_nowhere.Goals as goal

pub read_chosen-requires : goal.read_chosen-requires
read_chosen-requires g c =
    let k = g.S.Record.RecordKind.rules in
    let lawful = g.met.S.Record.RecordKind.lawful in
    let w = g.S.Store.world c.args.store.now in
    let s = c.args.number in
    let ready = ready_by k lawful c.fault_link-got.ensures.world (faulted-keeps k lawful w s c.requires.ready.there) (faulted-stays k lawful w s) c.requires.ready.there c.requires.ready.closed c.requires.ready.is_idle in
    record { ready = is_ready k ready c.requires.ready.room }

pub returns-clause-turn : goal.returns-clause-turn
returns-clause-turn g c = λ answers begins. rw (← c.fault_link-got.ensures.world, ← c.fault_link-got.ensures.came) (c.read_chosen.ensures.turn answers begins)

pub returns-clause-given : goal.returns-clause-given
returns-clause-given g c = rw c.fault_link-got.ensures.given at c.read_chosen.ensures.given

pub returns-clause-takes : goal.returns-clause-takes
returns-clause-takes g c =
    let k = g.S.Record.RecordKind.rules in
    let lawful = g.met.S.Record.RecordKind.lawful in
    let w = g.S.Store.world c.args.store.now in
    let s = c.args.number in
    let ready = ready_by k lawful c.fault_link-got.ensures.world (faulted-keeps k lawful w s c.requires.ready.there) (faulted-stays k lawful w s) c.requires.ready.there c.requires.ready.closed c.requires.ready.is_idle in
    takes_ready k ready (omega arith) c.read_chosen.ensures.takes
