use Rattle.std.proofs.Common.{List, ap, sym, subst, get_or, arith, ◌∙◌}
use Rattle.ioc_watched.specs.Watched.{AreFresh, WatchedRecord, watched_by}
use Rattle.ioc_journaled_set.specs.Holding.{HeldView}
use Rattle.ioc_journaled_set.proofs.journaled_set.JournaledSet.keep_changed.Given.{Over}
use Rattle.ioc_journaled_set.proofs.journaled_set.JournaledSet.keep_changed.Goals.{After-deref_mut}
use Rattle.ioc_journaled_set.proofs.journaled_set.JournaledSet.keep_changed.Goals as goal

-- The list is fresh of the base of the set.
before : (g : Over) (c : After-deref_mut g) → AreFresh g.K.RecordKind.rules g.B.JournalName.base c.self.inside.set.base.records c.deref_mut.result.now
before g c =
    subst (λ (ws : List WatchedRecord). AreFresh g.K.RecordKind.rules g.B.JournalName.base c.self.inside.set.base.records ws) (ap (λ o. watched_by o) c.in-Some.is ∙ sym c.deref_mut.ensures.value)
    (subst (λ (v : HeldView g.row.K.Denot g.row.D.Denot). AreFresh g.K.RecordKind.rules g.B.JournalName.base v.set.base.records (watched_by c.args.list)) (sym c.self.view_is) c.requires.fresh)

pub mark_changed-requires : goal.mark_changed-requires
mark_changed-requires g c =
    let at = (goal.at.mark_changed-requires g c).After-deref_mut in
    record { here = λ i d below. let one = before g at i d below in sym (c.has_its_base.ensures (get_or c.deref_mut.result.now i d).number) ∙ one.here }

pub keep_watched-requires : goal.keep_watched-requires
keep_watched-requires g c = record { fresh = λ i d below. absurd (omega arith) }

pub keep_watched-requires-2 : goal.keep_watched-requires-2
keep_watched-requires-2 g c =
    let at = (goal.at.keep_watched-requires-2 g c).After-deref_mut in
    record { fresh = subst (λ (v : HeldView g.row.K.Denot g.row.D.Denot). AreFresh g.K.RecordKind.rules g.B.JournalName.base v.set.records c.mark_changed.new.self) c.self.view_is (c.mark_changed.ensures.fresh g.B.JournalName.base (before g at)) }
