-- Slots divided by the numbers of their parts.
use Rattle.std.specs.Prelude.{ℕ, Bool, List, [], ◌∷◌, if◌then◌else◌}
use Rattle.ioc_set_records.specs.declared.slots.Slot.{Slot}

-- The slots whose number passes.
abbrev pub dealt : {R D : Type 0} → (ℕ → Bool) → List ℕ → List (Slot R D) → List (Slot R D)
dealt passes [] ss = []
dealt passes (n ∷ ns) [] = []
dealt passes (n ∷ ns) (s ∷ ss) = if passes n then s ∷ dealt passes ns ss else dealt passes ns ss
