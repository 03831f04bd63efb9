use Rattle.std.proofs.Common.{ℕ, sym, subst, ⊎_elim}
use Rattle.std.specs.Prelude.{IfOk}
use Rattle.rec_types.specs.Record.{record_rules}
use Rattle.ioc_set.specs.SetStore.{world_of}
use Rattle.ioc_journal.specs.Account.{DeskView}
use Rattle.ioc_engine_core.specs.Served.{WasBegun}
use Rattle.ioc_engine.specs.Refusals.{IsPutError}
use Rattle.ioc_engine.proofs.TypeRefusals.{ok_then, err_then, begun-can, refused-put}
use Rattle.ioc_engine.proofs.engine.Engine.begin_put.Goals as goal

pub returns-clause-begun : goal.returns-clause-begun
returns-clause-begun g c =
    let then = c.put_notify-told.new in
    let Begun : ℕ → ℕ → DeskView → Type 0 = λ limit n d. IfOk c.put_notify-told.result (λ x. (moment : ℕ) × g.C.Clock.gives c.args.self.now.clock moment × WasBegun g.row.D.Denot record_rules g.B.JournalName.base g.D.Device.gives limit n d moment c.args.channel.field c.args.given x.0 then.desk.account (world_of then.desk.buffers.store)) in
    let limit = c.args.self.now.core.history in
    subst (λ (d : DeskView). Begun limit c.args.channel.number d) c.begin.ensures.account (subst (λ (n : ℕ). Begun limit n c.begin.new.self.account) c.record.ensures c.put_notify-told.ensures.begun)

pub returns-clause-refused_by_type : goal.returns-clause-refused_by_type
returns-clause-refused_by_type g c =
    let base = g.B.JournalName.base in
    err_then _ _ c.put_notify-told.result
    (λ e. ⊎_elim (λ full. subst (IsPutError base c.args.channel) (sym full.0) tt) (λ why. refused-put base c.args.channel c.types_stay.ensures.held c.record.result c.record.ensures c.args.self.now.core.count e why))
    c.put_notify-told.ensures.refused

pub returns-clause-can_be_put : goal.returns-clause-can_be_put
returns-clause-can_be_put g c =
    ok_then _ _ c.put_notify-told.result (λ x was. begun-can g.B.JournalName.base c.args.channel c.types_stay.ensures.held c.record.result c.record.ensures was.2)
    c.put_notify-told.ensures.begun
