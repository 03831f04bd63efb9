use Rattle.std.proofs.Common.{ap, sym, ◌∙◌}
use Rattle.ioc_device.specs.declared.Ask.TheVariants.{Write as Write-ask}
use Rattle.ioc_store.specs.Given.{Given}
use Rattle.ioc_store.specs.World.{Keeps, called}
use Rattle.ioc_process.specs.Answering.{by_world, answer-given, write_device-asked, write_device-not_asked, can_ask-more, stays_if_out, begins_call, begins_same}
use Rattle.ioc_process.specs.Depth.{write_device-outs}
use Rattle.ioc_process.specs.Keeping.{write_device-keeps}
use Rattle.ioc_process.proofs.outputs.write_device.Goals as goal

pub acknowledge-requires-clause-there : goal.acknowledge-requires-clause-there
unfolding called
acknowledge-requires-clause-there g c = rw c.ask-answer.ensures.world c.requires

pub acknowledge-requires-clause-more : goal.acknowledge-requires-clause-more
acknowledge-requires-clause-more g c = λ _.
    rw c.ask-answer.ensures.world (can_ask-more g.S.Record.RecordKind.rules _ (g.S.Store.world c.args.store.now) c.args.number (sym c.can_ask.ensures ∙ c.if-can_ask.true))

pub returns-then-can_ask-clause-out : goal.returns-then-can_ask-clause-out
returns-then-can_ask-clause-out g c = λ answers begins.
    let w = g.S.Store.world c.args.store.now in
    let next = rw (g.met.S.Store.calls_given c.args.store.now) at (answer-given _ _ answers (record { target = c.args.number; ask = Write-ask c.args.value; answer = c.ask-answer.result }) (ap (λ (x : Given _). x.calls) c.acknowledge.ensures.given ∙ c.ask-answer.ensures.calls) begins) in
    rw (write_device-asked g.S.Record.RecordKind.rules answers w c.args.number c.args.value _ (sym c.can_ask.ensures ∙ c.if-can_ask.true) next, ← c.ask-answer.ensures.world) c.acknowledge.ensures.out

pub returns-then-can_ask-clause-keeps : goal.returns-then-can_ask-clause-keeps
returns-then-can_ask-clause-keeps g c =
    by_world g.S.Record.RecordKind.rules _ _ _ (Keeps _ _) (λ a b. (returns-then-can_ask-clause-out g c a b).world)
    (λ a. write_device-keeps _ g.met.S.Record.RecordKind.lawful a _ _ c.requires c.args.value)

pub returns-then-can_ask-clause-given : goal.returns-then-can_ask-clause-given
returns-then-can_ask-clause-given g c = rw c.acknowledge.ensures.given (begins_call (record { target = c.args.number; ask = Write-ask c.args.value; answer = c.ask-answer.result }) c.ask-answer.ensures.calls c.ask-answer.ensures.moment c.ask-answer.ensures.gives)

pub returns-then-can_ask-clause-stays : goal.returns-then-can_ask-clause-stays
returns-then-can_ask-clause-stays g c =
    stays_if_out g.S.Record.RecordKind.rules _ _ _ _ _ _ (returns-then-can_ask-clause-out g c) (λ a. write_device-outs _ g.met.S.Record.RecordKind.lawful a _ _ c.args.value)

pub returns-else-can_ask-clause-out : goal.returns-else-can_ask-clause-out
returns-else-can_ask-clause-out g c = λ answers begins.
    rw (write_device-not_asked g.S.Record.RecordKind.rules answers (g.S.Store.world c.args.store.now) c.args.number c.args.value (sym c.can_ask.ensures ∙ c.if-can_ask.false)) c.acknowledge-else-can_ask.ensures.out

pub returns-else-can_ask-clause-keeps : goal.returns-else-can_ask-clause-keeps
returns-else-can_ask-clause-keeps g c =
    by_world g.S.Record.RecordKind.rules _ _ _ (Keeps _ _) (λ a b. (returns-else-can_ask-clause-out g c a b).world)
    (λ a. write_device-keeps _ g.met.S.Record.RecordKind.lawful a _ _ c.requires c.args.value)

pub returns-else-can_ask-clause-stays : goal.returns-else-can_ask-clause-stays
returns-else-can_ask-clause-stays g c =
    stays_if_out g.S.Record.RecordKind.rules _ _ _ _ _ _ (returns-else-can_ask-clause-out g c) (λ a. write_device-outs _ g.met.S.Record.RecordKind.lawful a _ _ c.args.value)

pub returns-else-can_ask-clause-given : goal.returns-else-can_ask-clause-given
returns-else-can_ask-clause-given g c = begins_same c.acknowledge-else-can_ask.ensures.given
