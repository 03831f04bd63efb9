use Rattle.std.proofs.Common.{◌≡◌, ◌<◌, ◌+◌, ℕ, List, [], ◌∷◌, length, drop, get_or, false, ap, sym, subst, ◌∙◌, arith, drop-cons, add-one}
use Rattle.std.specs.Prelude.{slice_index_or}
use Rattle.std.proofs.lemmas.List.{drop_all}
use Rattle.ioc_set_records.proofs.Folding.{AreFolding, folding_next, folding_last, folding_like, placed}
use Rattle.ioc_set_records.proofs.marks.fold_slots.Goals as goal

pub index_mut-slot-requires : goal.index_mut-slot-requires
index_mut-slot-requires g c =
    let l = placed c.args.slots.now.items c.args.changed.now.items c.deref-place-items.result.now c.loop-place.place-index c.requires.tracked c.deref-place-items.ensures.value c.loop-place-test.true in
    omega (arith, l, c.loop-place.invariant.len, c.loop-place.slots.ok.0)

pub copy_from-requires-clause-same_type : goal.copy_from-requires-clause-same_type
copy_from-requires-clause-same_type g c =
    let l = placed c.args.slots.now.items c.args.changed.now.items c.deref-place-items.result.now c.loop-place.place-index c.requires.tracked c.deref-place-items.ensures.value c.loop-place-test.true in
    (folding_like c.args.slots.now.items g.K.RecordKind.rules c.loop-place.slots.items _ _ c.index_mut-slot.result.now c.requires.like c.loop-place.invariant l c.index_mut-slot.ensures.value).same_type

pub copy_from-requires-clause-same_links : goal.copy_from-requires-clause-same_links
copy_from-requires-clause-same_links g c =
    let l = placed c.args.slots.now.items c.args.changed.now.items c.deref-place-items.result.now c.loop-place.place-index c.requires.tracked c.deref-place-items.ensures.value c.loop-place-test.true in
    (folding_like c.args.slots.now.items g.K.RecordKind.rules c.loop-place.slots.items _ _ c.index_mut-slot.result.now c.requires.like c.loop-place.invariant l c.index_mut-slot.ensures.value).same_links

pub loop-place-preserved : goal.loop-place-preserved
loop-place-preserved g c =
    let ps = c.args.changed.now.items in
    let i = c.loop-place.place-index in
    let p = slice_index_or c.deref-place-items.result.now i 0 in
    let l = placed c.args.slots.now.items ps c.deref-place-items.result.now i c.requires.tracked c.deref-place-items.ensures.value c.loop-place-test.true in
    let within : i < length ps = let e = ap length c.deref-place-items.ensures.value in let h = c.loop-place-test.true in omega arith in
    let at : drop i ps ≡ p ∷ drop (i + 1) ps = rw (add-one) (drop-cons ps i 0 within) ∙ ap (λ (z : List ℕ). get_or z i 0 ∷ drop (i + 1) ps) (sym c.deref-place-items.ensures.value) in
    let folding : AreFolding c.args.slots.now.items c.loop-place.slots.items (p ∷ drop (i + 1) ps) =
    subst (λ (z : List ℕ). AreFolding c.args.slots.now.items c.loop-place.slots.items z) at c.loop-place.invariant in
    let t = c.index_mut-slot.result.now in
    folding_next c.args.slots.now.items c.loop-place.slots.items p (drop (i + 1) ps) t _ folding l c.index_mut-slot.ensures.value (λ j. record t { base = c.copy_from.ensures j; is_changed = false })

pub returns-clause-slots : goal.returns-clause-slots
returns-clause-slots g c =
    let ps = c.args.changed.now.items in
    let i = c.loop-place.place-index in
    let none : drop i ps ≡ [] = drop_all i ps (let e = ap length c.deref-place-items.ensures.value in let h = c.loop-place-test.false in omega arith) in
    folding_last c.args.slots.now.items c.loop-place.slots.items (subst (λ (z : List ℕ). AreFolding c.args.slots.now.items c.loop-place.slots.items z) none c.loop-place.invariant)
