use Rattle.std.proofs.Common.{◌≢◌, ◌<◌, ◌+◌, ◌∙◌, ℕ, ap, sym, subst, set, length, get_or, below_more, get_or-set_other, get_or-set_same, arith, rules}
use Rattle.std.proofs.lemmas.List.{get_or_default, length-set, length_push}
use Rattle.ioc_journaled_set.specs.Holding.{HeldView}
use Rattle.ioc_journaled_set.specs.Watching.{IsSameSet}
use Rattle.ioc_journaled_set.proofs.giving_up.take_all_watched.Goals as goal

pub loop-i-preserved : goal.loop-i-preserved
loop-i-preserved g c =
    let i = c.loop-i.i in
    let inv = c.loop-i.invariant in
    let old = c.args.held.now in
    let held = c.loop-i.held in
    let x = c.index-held-i.result in
    let y = c.take_watched.new.self in
    let within : i < length old = search rules in
    let here : i < length held = let long = inv.long in omega arith in
    let same : IsSameSet y (get_or held i x) = (ap (λ (v : HeldView g.row.K.Denot g.row.D.Denot). v.set) c.take_watched.ensures.rest, ap (λ (v : HeldView g.row.K.Denot g.row.D.Denot). v.seen) c.take_watched.ensures.rest) in
    let P : ℕ → Type 0 = λ j. (d : HeldView g.row.K.Denot g.row.D.Denot) → IsSameSet (get_or (set held i y) j d) (get_or old j d) in
    record {
      long = length-set held i y ∙ inv.long;
      done = λ j d lt. below_more P i
          (λ j below d. let apart : j ≢ i = omega arith in subst (λ (v : HeldView g.row.K.Denot g.row.D.Denot). IsSameSet v (get_or old j d)) (sym (get_or-set_other held i j y d apart)) (inv.done j d below))
          (λ d. subst (λ (v : HeldView g.row.K.Denot g.row.D.Denot). IsSameSet v (get_or old i d)) (sym (get_or-set_same held i y d here))
          (subst (λ (v : HeldView g.row.K.Denot g.row.D.Denot). IsSameSet y v) (inv.rest i x (omega arith) ∙ get_or_default old i x d within) same))
          j lt d;
      rest = λ j d le. let apart : j ≢ i = omega arith in get_or-set_other held i j y d apart ∙ inv.rest j d (omega arith);
      count = ap length c.push_reserved.ensures.items ∙ length_push c.loop-i.lists.items c.take_watched.result ∙ ap (λ (n : ℕ). n + 1) inv.count;
      room = c.push_reserved.ensures.capacity ∙ inv.room;
    }

pub returns-clause-sets : goal.returns-clause-sets
returns-clause-sets g c =
    let inv = c.loop-i.invariant in
    let old = c.args.held.now in
    (inv.long, λ i d e below. subst (λ (v : HeldView g.row.K.Denot g.row.D.Denot). IsSameSet (get_or c.loop-i.held i e) v) (get_or_default old i e d below) (inv.done i e (omega arith)))
