use Rattle.std.proofs.Common.{◌≡◌, ◌∙◌, ℕ, List, Bor, map, get_or, refl, sym, ap}
use Rattle.std.proofs.Math.ListN.{get_or-map}
use Rattle.ioc_fields.specs.declared.field_no.FieldSlot.{FieldSlot}
use Rattle.ioc_fields.specs.declared.field_no.FieldSlot.TheVariants.{N0}
use Rattle.ioc_fields.specs.Names.{all_slots}
use Rattle.ioc_fields.specs.Slots.{slot_number}
use Rattle.ioc_fields.proofs.slot_names.name_at.Goals as goal

at_slot : (name : FieldSlot → List ℕ) (d : List ℕ) (slot : FieldSlot) → get_or (map name all_slots) (slot_number slot) d ≡ name slot
at_slot name d N0 = refl
at_slot name d _ = refl

named : (names : List (Bor (List ℕ))) (i : ℕ) (d : Bor (List ℕ)) (name : FieldSlot → List ℕ) (slot : FieldSlot) → i ≡ slot_number slot → map (λ n. n.now) names ≡ map name all_slots → (get_or names i d).now ≡ name slot
named names i d name slot is e =
    sym (get_or-map (λ n. n.now) names i d) ∙ ap (λ ns. get_or ns i d.now) e ∙ ap (λ j. get_or (map name all_slots) j d.now) is ∙ at_slot name d.now slot

pub returns : goal.returns
returns c = λ name e. named c.args.names.now c.index.result _ name c.args.slot c.index.ensures.number e
