use Rattle.std.proofs.Common.{ℕ, ◌<◌, length, get_or, subst, ◌∙◌, below_more, rules}
use Rattle.ioc_journaled_set.specs.Holding.{HeldView}
use Rattle.ioc_watched.specs.Watched.{AreFresh}
use Rattle.std.proofs.lemmas.List.{get_or_default}
use Rattle.ioc_engine_core.proofs.report.all_end_as_told.Goals as goal

pub loop-held-preserved : goal.loop-held-preserved
loop-held-preserved g c = λ i d lt.
    let k = g.K.RecordKind.rules in
    let base = g.B.JournalName.base in
    let sets = c.args.sets.now in
    let index = c.loop-held.held-index in
    let within : index < length sets = search rules in
    let P : ℕ → Type 0 = λ j. (e : HeldView g.row.K.Denot g.row.D.Denot) → AreFresh k base (get_or sets j e).set.records (get_or sets j e).watched in
    below_more P index (λ j below e. c.loop-held.invariant j e below)
    (λ e. subst (λ (h : HeldView g.row.K.Denot g.row.D.Denot). AreFresh k base h.set.records h.watched) (c.held-item.is ∙ get_or_default sets index c.held-item.result e within) c.ends_as_told.ensures) i lt d
