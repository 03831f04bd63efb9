use Rattle.std.proofs.Common.{replicate, ap, ◌∙◌, ◌++◌, ◌∷◌, []}
use Rattle.std.proofs.lemmas.List.{replicate_more}
use Rattle.ioc_set_records.specs.Contents.{nothing}
use Rattle.ioc_set_records.proofs.loaded.empty_sets.Goals as goal

pub loop-place-preserved : goal.loop-place-preserved
loop-place-preserved g c =
    c.in_ok-push.ensures.items ∙ ap (λ z. z ++ c.in_ok-with_room.field-0 ∷ []) c.loop-place.invariant
    ∙ ap (λ m. replicate c.loop-place.place nothing ++ m ∷ []) c.in_ok-with_room.ensures ∙ replicate_more c.loop-place.place nothing
