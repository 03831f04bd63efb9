use Rattle.std.proofs.Common.{◌≡◌, ◌≢◌, ◌<◌, ◌++◌, ◌∷◌, [], List, Some, refl, sym, ap, subst, ◌∙◌, length, get_or, take, get_or-set_other, arith, rules}
use Rattle.std.proofs.lemmas.List.{take_more}
use Rattle.ioc_journaled_set.specs.Passes.{Slot, view_of, IsPassIn, AreTakenOver}
use Rattle.ioc_journaled_set.proofs.TakingOver.{none_taken, one_more_taken, pass_then}
use Rattle.ioc_journaled_set.proofs.together.merging.merge_all.Goals as goal

pub loop-i-init : goal.loop-i-init
loop-i-init g c = record { keeper = c.requires.keeper; merged = none_taken g.K.RecordKind.rules g.B.JournalName.base (view_of c.args.keeper.now); rest = λ j d le. refl }

pub loop-i-preserved : goal.loop-i-preserved
loop-i-preserved g c =
    let k = g.K.RecordKind.rules in
    let base = g.B.JournalName.base in
    let table = g.B.CellName.table in
    let i = c.loop-i.i in
    let old = c.args.passes.now in
    let slot = c.index-passes-i.result in
    let pass = c.in-Some.pass in
    let inv = c.loop-i.invariant in
    let within : i < length old = search rules in
    let here : get_or old i slot ≡ Some pass = sym (inv.rest i slot (omega arith)) ∙ (sym c.take.ensures.value ∙ c.in-Some.is) in
    let one = subst (IsPassIn table) here (c.requires.passes i slot within) in
    let merged = c.merge.ensures.merged in
    record {
      keeper = pass_then table c.loop-i.keeper pass c.merge.new.one merged.0 inv.keeper one c.merge.ensures.table.0 merged.1.one_owns;
      merged = subst (λ (ps : List Slot). AreTakenOver k base (view_of c.args.keeper.now) ps (view_of c.merge.new.one))
          (sym (take_more old i slot within ∙ ap (λ (o : Slot). take i old ++ o ∷ []) here))
          (one_more_taken k base (view_of c.args.keeper.now) (view_of c.loop-i.keeper) (take i old) (Some pass) merged.0 (view_of c.merge.new.one) (view_of c.merge.new.other) inv.merged merged.1 c.merge.ensures.apart);
      rest = λ j d le. let apart : j ≢ i = omega arith in get_or-set_other c.loop-i.passes i j c.take.new.self d apart ∙ inv.rest j d (omega arith);
    }
