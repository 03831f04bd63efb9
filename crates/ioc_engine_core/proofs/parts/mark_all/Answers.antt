use Rattle.std.proofs.Common.{◌≡◌, ◌<◌, ◌+◌, ℕ, List, [], ◌∷◌, ◌++◌, Bool, true, take, set, length, sym, ap, ◌∙◌, subst, rules}
use Rattle.std.proofs.lemmas.List.{take_more}
use Rattle.std.specs.Prelude.{◌⊎◌, Contains}
use Rattle.ioc_topology.specs.Gathered.{IsMarked}
use Rattle.ioc_engine_core.proofs.Marks.{marked_more, named_more}
use Rattle.ioc_engine_core.proofs.parts.mark_all.Goals.{then-place-len, else-place-len}
use Rattle.ioc_engine_core.proofs.parts.mark_all.Goals as goal

pub loop-number-preserved : goal.loop-number-preserved
loop-number-preserved c =
    let numbers = c.args.numbers.now in
    let before = c.args.marks.now.items in
    let marks = c.loop-number.marks.items in
    let i = c.loop-number.number-index in
    let n = c.number-item.result in
    let within : i < length numbers = search rules in
    let longer : take (i + 1) numbers ≡ take i numbers ++ n ∷ [] = take_more numbers i n within ∙ ap (λ x. take i numbers ++ x ∷ []) (sym c.number-item.is) in
    let Marked = λ (ms : List Bool) (ns : List ℕ). (q : ℕ) → IsMarked ms q → IsMarked before q ⊎ Contains ns q in
    elim c.if-place-len.branch [
      | then-place-len w ↦
          subst (λ (ns : List ℕ). Marked c.if-place-len.marks.items ns) (sym longer)
          (subst (λ (ms : List Bool). Marked ms (take i numbers ++ n ∷ [])) (sym (ap (λ v. v.items) w.marks-is ∙ ap (λ (k : ℕ). set marks k true) c.index-place.ensures))
          (marked_more before marks (take i numbers) n c.loop-number.invariant))
      | else-place-len w ↦
          subst (λ (ns : List ℕ). Marked c.if-place-len.marks.items ns) (sym longer)
          (subst (λ (ms : List Bool). Marked ms (take i numbers ++ n ∷ [])) (sym (ap (λ v. v.items) w.marks-is))
          (named_more before marks (take i numbers) n c.loop-number.invariant))
    ]
