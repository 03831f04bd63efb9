use Rattle.std.proofs.Common.{List, ap, sym, subst, ◌∙◌}
use Rattle.std.specs.Prelude.{Contains}
use Rattle.ioc_watched.specs.Watched.{AreFresh, IsWatched, WatchedRecord, watched_by}
use Rattle.ioc_journaled_set.specs.Holding.{HeldView, numbers_of}
use Rattle.ioc_journaled_set.proofs.Keys.{key_there}
use Rattle.ioc_journaled_set.proofs.journaled_set.JournaledSet.keep_marked.Goals as goal

pub keep_watched-requires-2 : goal.keep_watched-requires-2
keep_watched-requires-2 g c = record { fresh = subst (λ (v : HeldView g.row.K.Denot g.row.D.Denot). AreFresh g.K.RecordKind.rules g.B.JournalName.base v.set.records c.mark_in.new.self) c.self.view_is (c.mark_in.ensures.fresh g.K.RecordKind.rules g.B.JournalName.base) }

pub returns-clause-watched : goal.returns-clause-watched
returns-clause-watched g c n there watched =
    let given = c.keep_watched-2.ensures in
    subst (λ (v : HeldView g.row.K.Denot g.row.D.Denot). IsWatched n v.watched) (sym given)
    (c.mark_in.ensures.all n (subst (λ (ws : List WatchedRecord). IsWatched n ws) (ap (λ o. watched_by o) c.in-Some.is ∙ sym c.deref_mut.ensures.value) watched)
    (key_there c.self.inside.set.records n (subst (λ (v : HeldView g.row.K.Denot g.row.D.Denot). Contains (numbers_of v) n) (sym c.self.view_is) (subst (λ (v : HeldView g.row.K.Denot g.row.D.Denot). Contains (numbers_of v) n) given there))))
