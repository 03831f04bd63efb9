use Rattle.std.proofs.Common.{Bool, ℕ, cond, ap, arith}
use Rattle.ioc_store.specs.Worlds.{room-active}
use Rattle.ioc_process.specs.Depth.{request-fewer}
use Rattle.ioc_process.proofs.rules.requests_nest_within_idle.Goals as goal

pub returns-clause-source : goal.returns-clause-source
returns-clause-source g c = λ w s idle. omega (arith, room-active g.K.RecordKind.rules g.met.K.RecordKind.lawful w s, ap {A = Bool} {B = ℕ} (λ b. cond b 1 0) idle)

pub returns-clause-none_more : goal.returns-clause-none_more
returns-clause-none_more g c = λ answers w s. request-fewer g.K.RecordKind.rules g.met.K.RecordKind.lawful answers w s
