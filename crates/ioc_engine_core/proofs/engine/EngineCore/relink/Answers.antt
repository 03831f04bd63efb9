use Rattle.std.proofs.Common.{◌≡◌, ℕ, Option, sym, subst}
use Rattle.std.specs.Prelude.{IfOk, IfErr}
use Rattle.ioc_set.specs.SetStore.{world_of}
use Rattle.ioc_journal.specs.Account.{DeskView}
use Rattle.ioc_topology.specs.Change.{AreLent}
use Rattle.ioc_set.specs.declared.link_change.LinkChange.{LinkChange}
use Rattle.ioc_journaled_set.specs.Holding.{numbers_of}
use Rattle.ioc_engine_core.specs.Linked.{other_of, WasLinked, LinkWasRefused}
use Rattle.ioc_engine_core.proofs.engine.EngineCore.relink.Goals as goal

pub change_lent-changed-requires-clause-base_link : goal.change_lent-changed-requires-clause-base_link
change_lent-changed-requires-clause-base_link g c = subst (λ (x : LinkChange). x.base_link ≡ x.link) (sym c.loop.invariant.1) c.requires.base_link

pub change_lent-changed-requires-clause-lent : goal.change_lent-changed-requires-clause-lent
change_lent-changed-requires-clause-lent g c =
    let first = c.deref_mut-first.result.now in
    let second = c.deref_mut-second.result.now in
    let spare = c.deref_mut-spare.result.now in
    subst (λ (x : LinkChange). AreLent numbers_of x.number (other_of x.link) first second spare) (sym c.loop.invariant.1)
    (subst (λ (o : Option ℕ). AreLent numbers_of c.args.change.number o first second spare) c.record_named-other.ensures (c.are_lent.ensures.0 c.if-are_lent.true))

pub returns-then-are_lent-clause-changed : goal.returns-then-are_lent-clause-changed
returns-then-are_lent-clause-changed g c =
    let then = c.change_lent-changed.new in
    let world = world_of then.desk.buffers.store in
    let change = c.args.change in
    subst (λ (x : LinkChange). IfOk c.change_lent-changed.result (λ r. (moment : ℕ) × g.C.Clock.gives c.args.clock.now moment × WasLinked g.row.D.Denot g.K.RecordKind.rules g.B.JournalName.base x.number x.field x.link c.args.desk.now.account moment r.reply r.moved then.desk.account world)) c.loop.invariant.1
    (subst (λ (d : DeskView). IfOk c.change_lent-changed.result (λ r. (moment : ℕ) × g.C.Clock.gives c.args.clock.now moment × WasLinked g.row.D.Denot g.K.RecordKind.rules g.B.JournalName.base change.number change.field change.link d moment r.reply r.moved then.desk.account world)) c.loop.invariant.0
    c.change_lent-changed.ensures.changed)

pub returns-then-are_lent-clause-refused : goal.returns-then-are_lent-clause-refused
returns-then-are_lent-clause-refused g c =
    subst (λ (x : LinkChange). IfErr c.change_lent-changed.result (LinkWasRefused g.row.D.Denot g.K.RecordKind.rules g.B.JournalName.base c.args.self.now.count x.number x.field x.link)) c.loop.invariant.1
    c.change_lent-changed.ensures.refused
