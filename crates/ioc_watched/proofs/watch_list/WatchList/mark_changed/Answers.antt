use Rattle.std.proofs.Common.{List, sym, subst}
use Rattle.std.specs.Prelude.{All, IsTrue}
use Rattle.std.specs.FinMap.{contains_key}
use Rattle.ioc_watched.specs.Watched.{WatchedRecord, AreFresh, StayWatched}
use Rattle.ioc_watched.proofs.Marks.{stay_watched, fresh_then}
use Rattle.ioc_watched.proofs.watch_list.WatchList.mark_changed.Goals as goal

pub mark_each-requires : goal.mark_each-requires
mark_each-requires g c = record { here = subst (λ (ws : List WatchedRecord). All (λ (w : WatchedRecord). IsTrue (contains_key c.args.set.now.records w.number)) ws) (sym c.self.view_is) c.requires.here }

pub returns-clause-stay : goal.returns-clause-stay
returns-clause-stay g c =
    subst (λ (ws : List WatchedRecord). StayWatched ws c.mark_each.new.records.items) c.self.view_is
    (stay_watched g.K.RecordKind.rules c.args.set.now.base.records c.args.set.now.records c.self.inside.records.items c.mark_each.new.records.items c.mark_each.ensures)

pub returns-clause-fresh : goal.returns-clause-fresh
returns-clause-fresh g c base fresh =
    let k = g.K.RecordKind.rules in
    let now = c.args.set.now.records in
    let before = c.args.set.now.base.records in
    let ws = c.self.inside.records.items in
    fresh_then k before now ws c.mark_each.new.records.items c.mark_each.ensures base
    (subst (λ (l : List WatchedRecord). All (λ (w : WatchedRecord). IsTrue (contains_key now w.number)) l) (sym c.self.view_is) c.requires.here)
    (subst (λ (l : List WatchedRecord). AreFresh k base before l) (sym c.self.view_is) fresh)
