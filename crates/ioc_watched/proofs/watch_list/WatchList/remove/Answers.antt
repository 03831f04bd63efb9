use Rattle.std.proofs.Common.{rules, Bool, ap, ◌∙◌}
use Rattle.std.specs.Prelude.{not}
use Rattle.std.specs.List.{filter}
use Rattle.std.proofs.lemmas.Fn.{filter_same}
use Rattle.ioc_watched.specs.Watched.{WatchedRecord, is_number}
use Rattle.ioc_watched.proofs.watch_list.WatchList.remove.Goals as goal

pub returns : goal.returns
returns c =
    let test : WatchedRecord → Bool = λ w. not (is_number c.args.number w) in
    filter_same _ test _ (λ x b f k. search rules) _ _ c.retain.ensures.filtered ∙ ap (filter test) c.self.view_is
