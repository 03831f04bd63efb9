use Rattle.std.proofs.Common.{Bool, rules, sym, ap, subst, ◌∙◌}
use Rattle.std.specs.List.{filter}
use Rattle.std.specs.FinMap.{contains_key}
use Rattle.std.proofs.lemmas.Fn.{filter_same}
use Rattle.ioc_watched.specs.Watched.{WatchedRecord, IsWatched, AreFresh}
use Rattle.ioc_watched.proofs.Marks.{marked_on, marked_fresh}
use Rattle.ioc_watched.proofs.watch_list.WatchList.mark_in.Goals as goal

pub returns-clause-all : goal.returns-clause-all
returns-clause-all g c n watched has =
    let test : WatchedRecord → Bool = λ w. contains_key c.args.set.now.records w.number in
    let kept = filter_same _ test _ (λ x b f k. search rules) _ _ c.retain.ensures.filtered ∙ ap (filter test) c.mark_all.ensures in
    subst (λ ws. IsWatched n ws) (sym kept) (marked_on c.args.set.now.records c.self.inside.records.items n (subst (λ ws. IsWatched n ws) (sym c.self.view_is) watched) has)

pub returns-clause-fresh : goal.returns-clause-fresh
returns-clause-fresh g c k base =
    let test : WatchedRecord → Bool = λ w. contains_key c.args.set.now.records w.number in
    let kept = filter_same _ test _ (λ x b f k. search rules) _ _ c.retain.ensures.filtered ∙ ap (filter test) c.mark_all.ensures in
    subst (λ ws. AreFresh k base c.args.set.now.records ws) (sym kept) (marked_fresh k base c.args.set.now.records c.self.inside.records.items)
