use Rattle.std.proofs.Common.{arith}
use Rattle.ioc_process.specs.Depth.{faulted-stays}
use Rattle.ioc_process.specs.Keeping.{faulted-keeps}
use Rattle.ioc_process.proofs.Ready.{ready_by, is_ready, takes_ready}
use Rattle.ioc_process.proofs.disabling.judge_faulted.Goals as goal

pub judge-requires : goal.judge-requires
judge-requires g c =
    let lawful = g.met.S.Record.RecordKind.lawful in
    let w = g.S.Store.world c.args.store.now in
    let stays = ready_by _ lawful c.fault_link.ensures.world (faulted-keeps _ lawful w c.args.number c.requires.ready.there) (faulted-stays _ lawful w c.args.number) c.requires.ready.there c.requires.ready.closed c.requires.ready.is_idle in
    record { ready = is_ready _ stays c.requires.ready.room }

pub returns-clause-turn : goal.returns-clause-turn
returns-clause-turn g c = λ answers begins. rw (← c.fault_link.ensures.world) (c.judge.ensures.turn answers begins)

pub returns-clause-given : goal.returns-clause-given
returns-clause-given g c = rw c.fault_link.ensures.given at c.judge.ensures.given

pub returns-clause-takes : goal.returns-clause-takes
returns-clause-takes g c =
    let lawful = g.met.S.Record.RecordKind.lawful in
    let w = g.S.Store.world c.args.store.now in
    let stays = ready_by _ lawful c.fault_link.ensures.world (faulted-keeps _ lawful w c.args.number c.requires.ready.there) (faulted-stays _ lawful w c.args.number) c.requires.ready.there c.requires.ready.closed c.requires.ready.is_idle in
    takes_ready _ stays (omega arith) c.judge.ensures.takes
