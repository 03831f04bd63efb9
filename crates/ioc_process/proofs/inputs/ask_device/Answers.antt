use Rattle.std.proofs.Common.{ap, sym, ◌∙◌}
use Rattle.ioc_device.specs.declared.Ask.TheVariants.{Read as Read-ask}
use Rattle.ioc_store.specs.Given.{Given}
use Rattle.ioc_store.specs.World.{Keeps, called}
use Rattle.ioc_process.specs.Answering.{by_world, answer-given, read_device-asked, read_device-not_asked, can_ask-more, stays_if_read, begins_call, begins_same}
use Rattle.ioc_process.specs.Depth.{read_device-reads}
use Rattle.ioc_process.specs.Keeping.{read_device-keeps}
use Rattle.ioc_process.proofs.inputs.ask_device.Goals as goal

pub receive-requires-clause-more : goal.receive-requires-clause-more
receive-requires-clause-more g c = λ _.
    rw c.ask-answer.ensures.world (can_ask-more g.S.Record.RecordKind.rules _ (g.S.Store.world c.args.store.now) c.args.number (sym c.can_ask.ensures ∙ c.if-can_ask.true))

pub returns-then-can_ask-clause-read : goal.returns-then-can_ask-clause-read
returns-then-can_ask-clause-read g c = λ answers begins.
    let w = g.S.Store.world c.args.store.now in
    let next = rw (g.met.S.Store.calls_given c.args.store.now) at (answer-given _ _ answers (record { target = c.args.number; ask = Read-ask; answer = c.ask-answer.result }) (ap (λ (x : Given _). x.calls) c.receive.ensures.given ∙ c.ask-answer.ensures.calls) begins) in
    rw (read_device-asked g.S.Record.RecordKind.rules answers w c.args.number _ (sym c.can_ask.ensures ∙ c.if-can_ask.true) next, ← c.ask-answer.ensures.world) c.receive.ensures.received

pub returns-then-can_ask-clause-keeps : goal.returns-then-can_ask-clause-keeps
returns-then-can_ask-clause-keeps g c =
    by_world g.S.Record.RecordKind.rules _ _ _ (Keeps _ _) (λ a b. (returns-then-can_ask-clause-read g c a b).world)
    (λ a. read_device-keeps _ g.met.S.Record.RecordKind.lawful a _ _ c.requires)

pub returns-then-can_ask-clause-stays : goal.returns-then-can_ask-clause-stays
returns-then-can_ask-clause-stays g c =
    stays_if_read g.S.Record.RecordKind.rules _ _ _ _ _ _ (returns-then-can_ask-clause-read g c) (λ a. read_device-reads _ g.met.S.Record.RecordKind.lawful a _ _)

pub returns-else-can_ask-clause-read : goal.returns-else-can_ask-clause-read
returns-else-can_ask-clause-read g c = λ answers begins.
    rw (read_device-not_asked g.S.Record.RecordKind.rules answers (g.S.Store.world c.args.store.now) c.args.number (sym c.can_ask.ensures ∙ c.if-can_ask.false)) c.receive-else-can_ask.ensures.received

pub returns-else-can_ask-clause-keeps : goal.returns-else-can_ask-clause-keeps
returns-else-can_ask-clause-keeps g c =
    by_world g.S.Record.RecordKind.rules _ _ _ (Keeps _ _) (λ a b. (returns-else-can_ask-clause-read g c a b).world)
    (λ a. read_device-keeps _ g.met.S.Record.RecordKind.lawful a _ _ c.requires)

pub returns-else-can_ask-clause-stays : goal.returns-else-can_ask-clause-stays
returns-else-can_ask-clause-stays g c =
    stays_if_read g.S.Record.RecordKind.rules _ _ _ _ _ _ (returns-else-can_ask-clause-read g c) (λ a. read_device-reads _ g.met.S.Record.RecordKind.lawful a _ _)

pub receive-requires-clause-there : goal.receive-requires-clause-there
unfolding called
receive-requires-clause-there g c = rw c.ask-answer.ensures.world c.requires

pub returns-then-can_ask-clause-given : goal.returns-then-can_ask-clause-given
returns-then-can_ask-clause-given g c = rw c.receive.ensures.given (begins_call (record { target = c.args.number; ask = Read-ask; answer = c.ask-answer.result }) c.ask-answer.ensures.calls c.ask-answer.ensures.moment c.ask-answer.ensures.gives)

pub returns-else-can_ask-clause-given : goal.returns-else-can_ask-clause-given
returns-else-can_ask-clause-given g c = begins_same c.receive-else-can_ask.ensures.given
