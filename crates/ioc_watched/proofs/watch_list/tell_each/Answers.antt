use Rattle.std.proofs.Common.{◌<◌, ◌∙◌, ap, set, length, rules}
use Rattle.std.proofs.lemmas.List.Edits.{map_over_more}
use Rattle.crossbeam_utils.specs.Seq.{cell_view}
use Rattle.ioc_journal.specs.declared.cell.View.{View}
use Rattle.ioc_watched.specs.Watched.{told_now}
use Rattle.ioc_watched.proofs.watch_list.tell_each.Goals as goal

pub loop-place-preserved : goal.loop-place-preserved
loop-place-preserved c =
    let i = c.loop-place.place in
    let inv = c.loop-place.invariant in
    let old = c.args.records.now.items in
    let now = c.loop-place.records.items in
    let x = c.index_mut.result.now in
    let f = told_now c.args.number (cell_view {V = View} c.args.pass.now).seen in
    let within : i < length old = search rules in
    record {
      told =
          ap (λ w. set now i w) (c.tell_one.ensures.told ∙ ap (λ (v : View). told_now c.args.number v.seen x) inv.pass.1)
          ∙ map_over_more f old now i x within inv.told c.index_mut.ensures.value;
      pass = (c.tell_one.ensures.pass.0 ∙ inv.pass.0, c.tell_one.ensures.pass.1 ∙ inv.pass.1);
    }
