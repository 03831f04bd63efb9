use Rattle.std.proofs.Common.{ap, sym, subst}
use Rattle.ioc_watched.specs.Watched.{AreFresh, watched_by}
use Rattle.ioc_journaled_set.specs.Holding.{HeldView, watching}
use Rattle.ioc_journaled_set.proofs.journaled_set.JournaledSet.keep_watched.Goals as goal

pub invariant_of-self : goal.invariant_of-self
invariant_of-self g c =
    (c.self.invariant.0, c.self.invariant.1, subst (λ (v : HeldView g.row.K.Denot g.row.D.Denot). AreFresh g.K.RecordKind.rules g.B.JournalName.base v.set.records (watched_by c.args.list)) (sym c.self.view_is) c.requires.fresh)

pub returns : goal.returns
returns g c = ap (λ (v : HeldView g.row.K.Denot g.row.D.Denot). watching v.set v.seen (watched_by c.args.list)) c.self.view_is
