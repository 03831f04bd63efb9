use Rattle.std.proofs.Common.{◌<◌, ◌∙◌, ap, set, length, rules}
use Rattle.std.proofs.lemmas.List.Edits.{map_over_more}
use Rattle.ioc_watched.specs.Watched.{marked}
use Rattle.ioc_watched.proofs.watch_list.mark_all.Goals as goal

pub loop-place-preserved : goal.loop-place-preserved
loop-place-preserved c =
    let i = c.loop-place.place in
    let old = c.args.records.now.items in
    let now = c.loop-place.records.items in
    let x = c.index_mut.result.now in
    let within : i < length old = search rules in
    ap (λ w. set now i w) c.mark_listed.ensures ∙ map_over_more marked old now i x within c.loop-place.invariant c.index_mut.ensures.value
