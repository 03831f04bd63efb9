use Rattle.std.proofs.Common.{◌≡◌, ℕ, false, sym, ◌∙◌, arith}
use Rattle.ioc_dbcommon.specs.declared.body.Got.{Got}
use Rattle.ioc_record.specs.RecordRules.{RecordRules}
use Rattle.ioc_record.specs.Laws.{IsLawful}
use Rattle.ioc_store.specs.World.{World, Has, at, common_at, put, IsClosed}
use Rattle.ioc_process.specs.Answering.{begins_same}
use Rattle.ioc_process.specs.Depth.{taken-stays}
use Rattle.ioc_process.specs.Keeping.{keeps-taken}
use Rattle.ioc_process.specs.Bodies.{output_stands}
use Rattle.ioc_process.proofs.FrameSteps.{completed-taken}
use Rattle.ioc_process.proofs.Needs.{completed-nothing}
use Rattle.ioc_process.proofs.Ready.{StaysReady, ready_by, is_ready, takes_ready}
use Rattle.ioc_process.proofs.finishing.finish_body.Goals as goal

module _ {R : Type 0} (k : RecordRules R) (lawful : IsLawful k) where
  -- A record that has taken its input is ready.
  took-ready : {w v : World R} {s : ℕ} (got : Got) → v ≡ put w s (k.taken (at k w s) got) → Has w s → IsClosed k w → (common_at k w s).active ≡ false → StaysReady k w v s 0
  took-ready {w = w} {s = s} got is there closed inactive = ready_by k lawful is (keeps-taken k lawful w s there got) (taken-stays k lawful w s got) there closed inactive

pub put_out-requires : goal.put_out-requires
put_out-requires g c =
    let lawful = g.met.S.Record.RecordKind.lawful in
    let ready = took-ready _ lawful c.args.got.now c.take.ensures.world c.requires.ready.there c.requires.ready.closed c.requires.ready.is_idle in
    record {
      ready = is_ready _ ready c.requires.ready.room;
      standing = λ t v is. ready.keeps.has _ (output_stands _ lawful _ c.args.number c.args.got.now c.requires.ready.closed t v (sym (c.take.ensures.output c.if-take.true) ∙ is));
    }

pub finish-requires : goal.finish-requires
finish-requires g c =
    let ready = took-ready _ g.met.S.Record.RecordKind.lawful c.args.got.now c.take.ensures.world c.requires.ready.there c.requires.ready.closed c.requires.ready.is_idle in
    record { ready = is_ready _ ready c.requires.ready.room }

pub returns-then-take-clause-turn : goal.returns-then-take-clause-turn
returns-then-take-clause-turn g c = λ answers begins.
    completed-taken _ g.met.S.Record.RecordKind.lawful answers _ c.args.number c.args.got.now _ (sym (c.take.ensures.output c.if-take.true)) (rw c.take.ensures.world at (c.put_out.ensures.turn answers begins))

pub returns-then-take-clause-given : goal.returns-then-take-clause-given
returns-then-take-clause-given g c = rw c.take.ensures.given at c.put_out.ensures.given

pub returns-then-take-clause-takes : goal.returns-then-take-clause-takes
returns-then-take-clause-takes g c =
    takes_ready _ (took-ready _ g.met.S.Record.RecordKind.lawful c.args.got.now c.take.ensures.world c.requires.ready.there c.requires.ready.closed c.requires.ready.is_idle) (omega arith) c.put_out.ensures.takes

pub returns-else-take-clause-turn : goal.returns-else-take-clause-turn
returns-else-take-clause-turn g c = λ answers begins.
    completed-nothing _ g.met.S.Record.RecordKind.lawful answers _ c.args.number c.args.got.now (sym c.take.ensures.puts_out ∙ c.if-take.false) (rw c.take.ensures.world at (c.finish.ensures.turn answers))

pub returns-else-take-clause-given : goal.returns-else-take-clause-given
returns-else-take-clause-given g c = begins_same (c.finish.ensures.given ∙ c.take.ensures.given)

pub returns-else-take-clause-takes : goal.returns-else-take-clause-takes
returns-else-take-clause-takes g c =
    takes_ready _ (took-ready _ g.met.S.Record.RecordKind.lawful c.args.got.now c.take.ensures.world c.requires.ready.there c.requires.ready.closed c.requires.ready.is_idle) (omega arith) c.finish.ensures.takes
