use Rattle.std.proofs.Common.{sym, subst}
use Rattle.ioc_store.specs.World.{Has}
use Rattle.ioc_set.specs.SetState.{SetState, now_of}
use Rattle.ioc_set.proofs.NoCalls.{put_there}
use Rattle.ioc_set.proofs.lock_set.LockSet.no_call.Goals as goal

pub record-requires : goal.record-requires
record-requires g c =
    subst (λ (h : SetState g.row.K.Denot g.row.D.Denot). Has (now_of h) c.in-Put.record) (sym c.self.view_is)
    (put_there (now_of c.args.self.now) c.args.event.now c.in-Put.record c.in-Put.field c.requires.there c.in-Put.is)
