use Rattle.std.proofs.Common.{ℕ, ◌<◌, length, get_or, set, sym, subst, ◌∙◌, below_more, rules, arith}
use Rattle.std.proofs.lemmas.List.{get_or_default, get_or-set_same, get_or-set_other}
use Rattle.ioc_set.specs.SetState.{SetState}
use Rattle.ioc_journaled_set.specs.GiveUpLaws.{GivesUp}
use Rattle.ioc_journaled_set.proofs.together.cancelling.cancel_all.Goals as goal

pub loop-i-preserved : goal.loop-i-preserved
loop-i-preserved g c =
    let k = g.K.RecordKind.rules in
    let sets = c.loop-i.sets in
    let i = c.loop-i.i in
    let then = c.cancel_retrying.new.set in
    let within : i < length sets = search rules in
    let Up : SetState g.row.K.Denot g.row.D.Denot → SetState g.row.K.Denot g.row.D.Denot → Type 0 = λ h after. GivesUp k c.args.most c.args.moment c.args.number h after in
    let P : ℕ → Type 0 = λ j. (d : SetState g.row.K.Denot g.row.D.Denot) → Up (get_or c.args.sets.now j d) (get_or (set sets i then) j d) in
    record {
      done = λ j d lt.
          below_more P i
          (λ j below d. subst (λ (h : SetState g.row.K.Denot g.row.D.Denot). Up (get_or c.args.sets.now j d) h) (sym (get_or-set_other sets i j then d (omega (arith, below)))) (c.loop-i.invariant.done j d below))
          (λ d. subst (λ (h : SetState g.row.K.Denot g.row.D.Denot). Up (get_or c.args.sets.now i d) h) (sym (get_or-set_same sets i then d within))
          (subst (λ (h : SetState g.row.K.Denot g.row.D.Denot). Up h then) (get_or_default sets i c.index-sets-i.result d within ∙ c.loop-i.invariant.rest i d (omega arith)) c.cancel_retrying.ensures.gives_up)) j lt d;
      rest = λ j d le. get_or-set_other sets i j then d (omega (arith, le)) ∙ c.loop-i.invariant.rest j d (omega (arith, le));
    }
