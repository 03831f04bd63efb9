use Rattle.std.proofs.Common.{◌≡◌, subst}
use Rattle.ioc_events.specs.Step.{shown}
use Rattle.ioc_set.specs.SetState.{SetState, now_of}
use Rattle.ioc_set.proofs.lock_set.LockSet.get.Goals as goal

pub returns : goal.returns
returns g c =
    subst (λ (h : SetState g.row.K.Denot g.row.D.Denot). c.text_in.result ≡ shown g.K.RecordKind.rules (now_of h) c.args.number c.args.field) c.self.view_is (c.text_in.ensures c.self.inside.puts.live c.self.inside.puts.waiting)
