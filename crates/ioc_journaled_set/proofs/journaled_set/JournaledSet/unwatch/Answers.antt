use Rattle.std.proofs.Common.{[], sym, subst}
use Rattle.ioc_watched.specs.Watched.{AreFresh, watched_by}
use Rattle.ioc_journaled_set.proofs.Fresh.{unwatched_fresh}
use Rattle.ioc_journaled_set.proofs.journaled_set.JournaledSet.unwatch.Goals as goal

pub invariant_of-self : goal.invariant_of-self
invariant_of-self g c =
    (c.self.invariant.0, c.self.invariant.1, subst (λ ws. AreFresh g.K.RecordKind.rules g.B.JournalName.base c.self.inside.set.records ws) (sym c.remove_from.ensures) (unwatched_fresh g.K.RecordKind.rules g.B.JournalName.base c.self.inside.set.records (watched_by c.self.inside.watched) c.args.number [] c.self.invariant.2))
