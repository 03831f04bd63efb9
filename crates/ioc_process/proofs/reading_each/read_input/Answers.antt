use Rattle.std.proofs.Common.{refl, ap, ◌∙◌}
use Rattle.ioc_dbcommon.specs.declared.body.InputKind.TheVariants as input-kind
use Rattle.ioc_store.specs.Inputs.{is_fault}
use Rattle.ioc_process.proofs.FrameSteps.{came_read}
use Rattle.ioc_process.proofs.InputSteps.{read_at-has, came-kept}
use Rattle.ioc_process.proofs.reading_each.read_input.Goals as goal

pub keep-requires : goal.keep-requires
keep-requires g c =
    let k = g.S.Record.RecordKind.rules in
    let lawful = g.met.S.Record.RecordKind.lawful in
    let w = g.S.Store.world c.args.store.now in
    let s = c.args.number in
    let came = came_read k lawful (λ _. input-kind.Double) w _ s c.args.target _ _ refl c.read_value-got.ensures.read in
    rw came.world (read_at-has k lawful w s c.args.target c.requires.there)

pub returns-clause-world : goal.returns-clause-world
returns-clause-world g c =
    let k = g.S.Record.RecordKind.rules in
    let lawful = g.met.S.Record.RecordKind.lawful in
    let w = g.S.Store.world c.args.store.now in
    let s = c.args.number in
    let came = came_read k lawful (λ _. input-kind.Double) w _ s c.args.target _ _ refl c.read_value-got.ensures.read in
    (came-kept k lawful _ _ s c.args.slot _ w c.args.target came c.keep.ensures.world).0

pub returns-clause-fault : goal.returns-clause-fault
returns-clause-fault g c =
    let k = g.S.Record.RecordKind.rules in
    let lawful = g.met.S.Record.RecordKind.lawful in
    let w = g.S.Store.world c.args.store.now in
    let s = c.args.number in
    let came = came_read k lawful (λ _. input-kind.Double) w _ s c.args.target _ _ refl c.read_value-got.ensures.read in
    c.is_fault.ensures ∙ ap is_fault (came-kept k lawful _ _ s c.args.slot _ w c.args.target came c.keep.ensures.world).1
