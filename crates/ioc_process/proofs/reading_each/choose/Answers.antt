use Rattle.std.proofs.Common.{ap, ◌∙◌, arith}
use Rattle.ioc_process.specs.Processing.{read_at}
use Rattle.ioc_process.proofs.FrameSteps.{read_at-stays, read_at-keeps, came_read}
use Rattle.ioc_process.proofs.InputSteps.{came-chosen}
use Rattle.ioc_process.proofs.Ready.{ready_by, is_ready, takes_ready}
use Rattle.ioc_process.proofs.reading_each.choose.Goals as goal

pub read_chosen-requires : goal.read_chosen-requires
read_chosen-requires g c =
    let k = g.S.Record.RecordKind.rules in
    let lawful = g.met.S.Record.RecordKind.lawful in
    let w = g.S.Store.world c.args.store.now in
    let s = c.args.number in
    let came = came_read k lawful k.input_kind w _ s c.args.target _ _ (c.input_kind-kind.ensures ∙ ap k.input_kind c.record.ensures) c.read_value-got.ensures.read in
    let keeps = read_at-keeps k lawful k.input_kind w s c.args.target c.requires.ready.closed c.requires.ready.there c.requires.standing in
    let ready = ready_by k lawful came.world keeps (read_at-stays k lawful k.input_kind w s c.args.target) c.requires.ready.there c.requires.ready.closed c.requires.ready.is_idle in
    record { ready = is_ready k ready c.requires.ready.room }

pub returns-clause-turn : goal.returns-clause-turn
returns-clause-turn g c = λ answers begins.
    let k = g.S.Record.RecordKind.rules in
    let lawful = g.met.S.Record.RecordKind.lawful in
    let w = g.S.Store.world c.args.store.now in
    let s = c.args.number in
    let came = came_read k lawful k.input_kind w _ s c.args.target _ _ (c.input_kind-kind.ensures ∙ ap k.input_kind c.record.ensures) c.read_value-got.ensures.read in
    came-chosen k lawful answers _ s _ (read_at k k.input_kind w s c.args.target) _ came (c.read_chosen.ensures.turn answers begins)

pub returns-clause-given : goal.returns-clause-given
returns-clause-given g c = rw c.read_value-got.ensures.given at c.read_chosen.ensures.given

pub returns-clause-takes : goal.returns-clause-takes
returns-clause-takes g c =
    let k = g.S.Record.RecordKind.rules in
    let lawful = g.met.S.Record.RecordKind.lawful in
    let w = g.S.Store.world c.args.store.now in
    let s = c.args.number in
    let came = came_read k lawful k.input_kind w _ s c.args.target _ _ (c.input_kind-kind.ensures ∙ ap k.input_kind c.record.ensures) c.read_value-got.ensures.read in
    let keeps = read_at-keeps k lawful k.input_kind w s c.args.target c.requires.ready.closed c.requires.ready.there c.requires.standing in
    let ready = ready_by k lawful came.world keeps (read_at-stays k lawful k.input_kind w s c.args.target) c.requires.ready.there c.requires.ready.closed c.requires.ready.is_idle in
    takes_ready k ready (omega arith) c.read_chosen.ensures.takes
