use Rattle.std.proofs.Common.{sym, ◌∙◌}
use Rattle.ioc_process.specs.Depth.{faulted-stays, stays_here}
use Rattle.ioc_process.specs.Keeping.{faulted-keeps, keeps_all}
use Rattle.ioc_process.proofs.InputSteps.{input_slot_stands, input_read-keeps, input_read-stays, kept-unused, kept-nowhere, kept-plain}
use Rattle.ioc_process.proofs.reading_each.read_one.Goals as goal

pub passes_on-requires : goal.passes_on-requires
passes_on-requires g c =
    input_slot_stands g.S.Record.RecordKind.rules g.met.S.Record.RecordKind.lawful (g.S.Store.world c.args.store.now) c.args.number c.args.slot c.requires.closed c.in-Standing.target (sym c.input_at.ensures ∙ c.in-Standing.is)

pub read_input-requires : goal.read_input-requires
read_input-requires g c =
    record { there = c.requires.there; standing = input_slot_stands g.S.Record.RecordKind.rules g.met.S.Record.RecordKind.lawful (g.S.Store.world c.args.store.now) c.args.number c.args.slot c.requires.closed c.in-Standing.target (sym c.input_at.ensures ∙ c.in-Standing.is) }

pub returns-in-Unused-clause-step : goal.returns-in-Unused-clause-step
returns-in-Unused-clause-step g c = kept-unused g.S.Record.RecordKind.rules g.met.S.Record.RecordKind.lawful _ _ _ (sym c.input_at.ensures ∙ c.in-Unused.is)

pub returns-in-Unused-clause-keeps : goal.returns-in-Unused-clause-keeps
returns-in-Unused-clause-keeps g c = keeps_all g.S.Record.RecordKind.rules _

pub returns-in-Unused-clause-stays : goal.returns-in-Unused-clause-stays
returns-in-Unused-clause-stays g c = stays_here g.S.Record.RecordKind.rules _ _

pub returns-in-OwnDevice-clause-step : goal.returns-in-OwnDevice-clause-step
returns-in-OwnDevice-clause-step g c = rw c.fault_link.ensures.world (kept-nowhere g.S.Record.RecordKind.rules g.met.S.Record.RecordKind.lawful _ _ _ _ c.input_at.ensures c.in-OwnDevice.is)

pub returns-in-OwnDevice-clause-keeps : goal.returns-in-OwnDevice-clause-keeps
returns-in-OwnDevice-clause-keeps g c = rw c.fault_link.ensures.world (faulted-keeps g.S.Record.RecordKind.rules g.met.S.Record.RecordKind.lawful _ _ c.requires.there)

pub returns-in-OwnDevice-clause-stays : goal.returns-in-OwnDevice-clause-stays
returns-in-OwnDevice-clause-stays g c = rw c.fault_link.ensures.world (faulted-stays g.S.Record.RecordKind.rules g.met.S.Record.RecordKind.lawful _ _)

pub returns-else-passes_on-clause-step : goal.returns-else-passes_on-clause-step
returns-else-passes_on-clause-step g c =
    rw (c.read_input.ensures.world, c.read_input.ensures.fault)
    (kept-plain g.S.Record.RecordKind.rules g.met.S.Record.RecordKind.lawful _ _ _ c.in-Standing.target (sym c.input_at.ensures ∙ c.in-Standing.is) (sym c.passes_on.ensures ∙ c.if-passes_on.false))

pub returns-else-passes_on-clause-keeps : goal.returns-else-passes_on-clause-keeps
returns-else-passes_on-clause-keeps g c =
    let stands = input_slot_stands g.S.Record.RecordKind.rules g.met.S.Record.RecordKind.lawful (g.S.Store.world c.args.store.now) c.args.number c.args.slot c.requires.closed c.in-Standing.target (sym c.input_at.ensures ∙ c.in-Standing.is) in
    rw c.read_input.ensures.world (input_read-keeps g.S.Record.RecordKind.rules g.met.S.Record.RecordKind.lawful _ _ _ _ c.requires.closed c.requires.there stands)

pub returns-else-passes_on-clause-stays : goal.returns-else-passes_on-clause-stays
returns-else-passes_on-clause-stays g c = rw c.read_input.ensures.world (input_read-stays g.S.Record.RecordKind.rules g.met.S.Record.RecordKind.lawful _ _ _ _)
