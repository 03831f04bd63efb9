use Rattle.std.proofs.Common.{ℕ, ◌<◌, length, get_or, subst, ◌∙◌, below_more, rules}
use Rattle.ioc_journaled_set.specs.Holding.{HeldView, IsSoundlyHeld}
use Rattle.std.proofs.lemmas.List.{get_or_default}
use Rattle.ioc_engine_core.proofs.cancelling.all_sound.Goals as goal

pub loop-set-preserved : goal.loop-set-preserved
loop-set-preserved g c = λ i d lt.
    let k = g.K.RecordKind.rules in
    let base = g.B.JournalName.base in
    let sets = c.args.sets.now in
    let index = c.loop-set.set-index in
    let within : index < length sets = search rules in
    let P : ℕ → Type 0 = λ j. (e : HeldView g.row.K.Denot g.row.D.Denot) → IsSoundlyHeld k base (get_or sets j e) in
    below_more P index (λ j below e. c.loop-set.invariant j e below)
    (λ e. subst (λ (h : HeldView g.row.K.Denot g.row.D.Denot). IsSoundlyHeld k base h) (c.set-item.is ∙ get_or_default sets index c.set-item.result e within) c.is_sound.ensures) i lt d
