use Rattle.std.proofs.Common.{ap, subst, ◌∙◌}
use Rattle.ioc_watched.specs.Watched.{AreFresh, watched_by}
use Rattle.ioc_journaled_set.specs.Holding.{HeldView, held_view, watching, seen_by}
use Rattle.ioc_journaled_set.proofs.Fresh.{none_fresh}
use Rattle.ioc_journaled_set.proofs.journaled_set.JournaledSet.take_watched.Goals as goal

pub invariant_of-self : goal.invariant_of-self
invariant_of-self g c = (c.self.invariant.0, c.self.invariant.1, none_fresh g.K.RecordKind.rules g.B.JournalName.base c.self.inside.set.records _ (ap (λ o. watched_by o) c.take.ensures.after))

pub returns-clause-list : goal.returns-clause-list
returns-clause-list g c = ap (λ o. watched_by o) c.take.ensures.value ∙ ap (λ (v : HeldView g.row.K.Denot g.row.D.Denot). v.watched) c.self.view_is

pub returns-clause-fresh : goal.returns-clause-fresh
returns-clause-fresh g c = subst (λ (v : HeldView g.row.K.Denot g.row.D.Denot). AreFresh g.K.RecordKind.rules g.B.JournalName.base v.set.records v.watched) c.self.view_is c.self.invariant.2

pub returns-clause-rest : goal.returns-clause-rest
returns-clause-rest g c =
    ap (λ o. watching c.self.inside.set (seen_by c.self.inside.pass) (watched_by o)) c.take.ensures.after ∙ ap (λ (v : HeldView g.row.K.Denot g.row.D.Denot). held_view v.set v.seen) c.self.view_is
