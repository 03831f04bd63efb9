-- Items of lists of twelve that are set by the number of a slot.
use Rattle.std.proofs.Common.{◌≡◌, ℕ, ◌<◌, ◌≤◌, List, length, sym, ap, ◌∙◌, arith}
use Rattle.std.specs.Prelude.{slice_set}
use Rattle.std.proofs.lemmas.Bool.{lt-ltb, le-ltb}
use Rattle.ioc_fields.specs.declared.field_no.FieldSlot.{FieldSlot}
use Rattle.ioc_fields.specs.Slots.{slot_number}
use Rattle.rec_calc.specs.Inputs.{placed}
use Rattle.rec_calc.specs.InputsLaws.{set_is, none_placed}

-- Writing at the number of a slot sets its item.
pub placed_at : {A : Type 0} (none : A) (items : List A) (s : FieldSlot) (n : ℕ) (x : A) → length items ≡ 12
    → n ≡ slot_number s → n < 12 → slice_set items n x ≡ placed none items s x
placed_at none items s n x h is below =
    ap (λ k. slice_set items k x) is ∙ set_is none items s x h (lt-ltb (slot_number s) 12 (omega (arith, is, below)))

-- There is no item to set from 12 on.
pub placed_nowhere : {A : Type 0} (none : A) (items : List A) (s : FieldSlot) (n : ℕ) (x : A) → length items ≡ 12
    → n ≡ slot_number s → 12 ≤ n → items ≡ placed none items s x
placed_nowhere none items s n x h is above =
    sym (none_placed none items s x h (le-ltb (slot_number s) 12 (omega (arith, is, above))))
