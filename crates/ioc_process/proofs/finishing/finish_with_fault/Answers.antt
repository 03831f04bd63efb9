use Rattle.std.proofs.Common.{sym, ◌∙◌, arith}
use Rattle.ioc_process.specs.Depth.{faulted-stays}
use Rattle.ioc_process.specs.Keeping.{faulted-keeps}
use Rattle.ioc_process.proofs.Turning.{faulted_is}
use Rattle.ioc_process.proofs.Ready.{ready_by, is_ready, takes_ready}
use Rattle.ioc_process.proofs.finishing.finish_with_fault.Goals as goal

pub finish-requires : goal.finish-requires
finish-requires g c =
    let k = g.S.Record.RecordKind.rules in
    let lawful = g.met.S.Record.RecordKind.lawful in
    let w = g.S.Store.world c.args.store.now in
    let stays = ready_by k lawful (c.raise.ensures.world ∙ sym (faulted_is k w c.args.number)) (faulted-keeps k lawful w c.args.number c.requires.ready.there) (faulted-stays k lawful w c.args.number) c.requires.ready.there c.requires.ready.closed c.requires.ready.is_idle in
    record { ready = is_ready k stays c.requires.ready.room }

pub returns-clause-turn : goal.returns-clause-turn
returns-clause-turn g c = λ answers.
    rw (faulted_is g.S.Record.RecordKind.rules, ← c.raise.ensures.world) (c.finish.ensures.turn answers)

pub returns-clause-takes : goal.returns-clause-takes
returns-clause-takes g c =
    let k = g.S.Record.RecordKind.rules in
    let lawful = g.met.S.Record.RecordKind.lawful in
    let w = g.S.Store.world c.args.store.now in
    let stays = ready_by k lawful (c.raise.ensures.world ∙ sym (faulted_is k w c.args.number)) (faulted-keeps k lawful w c.args.number c.requires.ready.there) (faulted-stays k lawful w c.args.number) c.requires.ready.there c.requires.ready.closed c.requires.ready.is_idle in
    takes_ready k stays (omega arith) c.finish.ensures.takes
