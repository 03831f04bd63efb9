use Rattle.std.proofs.Common.{Bool, ap, sym, ◌∙◌, arith}
use Rattle.ioc_fields.specs.declared.field_no.OwnField.TheVariants.{Seln}
use Rattle.ioc_process.specs.Depth.{kept-stays}
use Rattle.ioc_process.specs.Frames.{remaining, then_read_each}
use Rattle.ioc_process.proofs.InputSteps.{kept-keeps, chosen-read}
use Rattle.ioc_process.proofs.Ready.{ready_by, is_ready, takes_ready}
use Rattle.ioc_process.proofs.reading_each.read_chosen.Goals as goal

pub record-requires : goal.record-requires
record-requires g c =
    rw c.keep.ensures.world ((kept-keeps g.S.Record.RecordKind.rules g.met.S.Record.RecordKind.lawful (g.S.Store.world c.args.store.now) c.args.number Seln c.args.got.now c.requires.ready.there).has _ c.requires.ready.there)

pub read_each-requires : goal.read_each-requires
read_each-requires g c =
    let k = g.S.Record.RecordKind.rules in
    let lawful = g.met.S.Record.RecordKind.lawful in
    let w = g.S.Store.world c.args.store.now in
    let s = c.args.number in
    let ready = ready_by k lawful c.keep.ensures.world (kept-keeps k lawful w s Seln c.args.got.now c.requires.ready.there) (kept-stays k lawful w s Seln c.args.got.now) c.requires.ready.there c.requires.ready.closed c.requires.ready.is_idle in
    record { ready = is_ready k ready c.requires.ready.room }

pub returns-clause-turn : goal.returns-clause-turn
returns-clause-turn g c = λ answers begins.
    let k = g.S.Record.RecordKind.rules in
    let lawful = g.met.S.Record.RecordKind.lawful in
    let w = g.S.Store.world c.args.store.now in
    let s = c.args.number in
    let inputs = c.inputs-inputs.ensures ∙ ap (λ r. k.inputs r c.args.got.now) c.record.ensures in
    chosen-read k lawful answers w _ s _ c.args.got.now c.keep.ensures.world inputs
    ∙ ap (λ (b : Bool). then_read_each k answers s b (remaining c.inputs-inputs.result 0) (g.S.Store.world c.keep.new.store)) (sym c.is_fault.ensures)
    ∙ c.read_each.ensures.turn answers begins

pub returns-clause-given : goal.returns-clause-given
returns-clause-given g c = rw c.keep.ensures.given at c.read_each.ensures.given

pub returns-clause-takes : goal.returns-clause-takes
returns-clause-takes g c =
    let k = g.S.Record.RecordKind.rules in
    let lawful = g.met.S.Record.RecordKind.lawful in
    let w = g.S.Store.world c.args.store.now in
    let s = c.args.number in
    let ready = ready_by k lawful c.keep.ensures.world (kept-keeps k lawful w s Seln c.args.got.now c.requires.ready.there) (kept-stays k lawful w s Seln c.args.got.now) c.requires.ready.there c.requires.ready.closed c.requires.ready.is_idle in
    takes_ready k ready (omega arith) c.read_each.ensures.takes
