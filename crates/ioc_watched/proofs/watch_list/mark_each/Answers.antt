use Rattle.std.proofs.Common.{◌≢◌, ◌<◌, ◌∙◌, ℕ, sym, subst, set, get_or, length, below_more, get_or-set_other, get_or-set_same, arith, rules}
use Rattle.std.proofs.lemmas.List.{get_or_default, length-set}
use Rattle.std.specs.Prelude.{IsTrue}
use Rattle.std.specs.FinMap.{contains_key}
use Rattle.ioc_watched.specs.Watched.{WatchedRecord}
use Rattle.ioc_watched.specs.Marking.{IsMarkedOn}
use Rattle.ioc_watched.proofs.watch_list.mark_each.Goals as goal

pub mark_one-requires : goal.mark_one-requires
mark_one-requires g c =
    let i = c.loop-place.place in
    let inv = c.loop-place.invariant in
    let x = c.index_mut.result.now in
    let within : i < length c.args.records.now.items = search rules in
    record { here = subst (λ (w : WatchedRecord). IsTrue (contains_key c.args.set.now.records w.number)) (sym (c.index_mut.ensures.value ∙ inv.rest i x (omega arith))) (c.requires.here i x within) }

pub loop-place-preserved : goal.loop-place-preserved
loop-place-preserved g c =
    let k = g.K.RecordKind.rules in
    let before = c.args.set.now.base.records in
    let after = c.args.set.now.records in
    let i = c.loop-place.place in
    let inv = c.loop-place.invariant in
    let old = c.args.records.now.items in
    let now = c.loop-place.records.items in
    let x = c.index_mut.result.now in
    let y = c.mark_one.new.watched in
    let within : i < length old = search rules in
    let here : i < length now = let count = inv.count in omega arith in
    let P : ℕ → Type 0 = λ j. (d e : WatchedRecord) → IsMarkedOn k before after (get_or old j d) (get_or (set now i y) j e) in
    record {
      count = length-set now i y ∙ inv.count;
      done = λ j d e lt. below_more P i
          (λ j below d e. let apart : j ≢ i = omega arith in subst (λ (w : WatchedRecord). IsMarkedOn k before after (get_or old j d) w) (sym (get_or-set_other now i j y e apart)) (inv.done j d e below))
          (λ d e. subst (λ (w : WatchedRecord). IsMarkedOn k before after (get_or old i d) w) (sym (get_or-set_same now i y e here))
          (subst (λ (w : WatchedRecord). IsMarkedOn k before after w y) (c.index_mut.ensures.value ∙ inv.rest i x (omega arith) ∙ get_or_default old i x d within) c.mark_one.ensures))
          j lt d e;
      rest = λ j d le. let apart : j ≢ i = omega arith in get_or-set_other now i j y d apart ∙ inv.rest j d (omega arith);
    }

pub returns : goal.returns
returns g c =
    let inv = c.loop-place.invariant in
    record { count = inv.count; each = λ i d e below. let count = inv.count in inv.done i d e (omega arith) }
