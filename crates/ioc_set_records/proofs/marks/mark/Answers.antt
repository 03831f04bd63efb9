use Rattle.std.proofs.Common.{◌≡◌, ℕ, List, false, sym, ap, subst, ◌∙◌}
use Rattle.std.proofs.lemmas.List.{get_or_default}
use Rattle.ioc_set_records.specs.declared.slots.Slot.{Slot}
use Rattle.ioc_set_records.specs.Twins.{AreTracked, slots_marked}
use Rattle.ioc_set_records.proofs.Twins.{marked_already, marked_set, marked_tracked}
use Rattle.ioc_set_records.proofs.marks.mark.Goals as goal

pub returns-then-index-clause-slots : goal.returns-then-index-clause-slots
returns-then-index-clause-slots g c = sym (marked_already c.args.slots.now.items c.args.place c.index.result.now c.requires.there c.index.ensures c.if-index.true)

pub returns-clause-slots : goal.returns-clause-slots
returns-clause-slots g c = sym (marked_set c.args.slots.now.items c.args.place c.index_mut.result.now c.requires.there c.index_mut.ensures.value)

pub returns-clause-tracked : goal.returns-clause-tracked
returns-clause-tracked g c =
    let ss = c.args.slots.now.items in
    let s = c.index_mut.result.now in
    let was : s.is_changed ≡ false = ap (λ (z : Slot g.row.K.Denot g.row.D.Denot). z.is_changed) (c.index_mut.ensures.value ∙ get_or_default ss c.args.place s c.index.result.now c.requires.there ∙ sym c.index.ensures) ∙ c.if-index.false in
    let done = marked_tracked ss c.args.changed.now.items c.args.place s c.requires.tracked c.requires.there c.index_mut.ensures.value was in
    subst (λ (z : List (Slot g.row.K.Denot g.row.D.Denot)). AreTracked z c.push_reserved.new.self.items) (marked_set ss c.args.place s c.requires.there c.index_mut.ensures.value)
    (subst (λ (p : List ℕ). AreTracked (slots_marked ss c.args.place) p) (sym c.push_reserved.ensures.items) done)
