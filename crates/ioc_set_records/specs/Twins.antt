-- Each record with its base: the record before the first event of the history.
use Rattle.std.specs.Prelude.{◌≡◌, ◌≤◌, ◌<◌, ◌+◌, ℕ, zero, suc, true, false, if◌then◌else◌, List, [], ◌∷◌, length, Contains, slice_index_or}
use Rattle.std.specs.List.{sum_by}
use Rattle.ioc_record.specs.RecordRules.{RecordRules}
use Rattle.ioc_set_records.specs.declared.slots.Slot.{Slot}
use Rattle.ioc_set_records.specs.Contents.{AreLike}
use Rattle.ioc_set_records.specs.Slots.{AreAscending}

module _ {R D : Type 0} where
  -- The slot with its record as its base.
  abbrev pub slot_folded : Slot R D → Slot R D
  slot_folded s = record s { base = s.fields; is_changed = false }

  -- The slot marked as one whose record may differ from its base.
  abbrev pub slot_marked : Slot R D → Slot R D
  slot_marked s = record s { is_changed = true }

  -- The slots with the slot at a place marked.
  abbrev pub slots_marked : List (Slot R D) → ℕ → List (Slot R D)
  slots_marked [] i = []
  slots_marked (s ∷ ss) zero = slot_marked s ∷ ss
  slots_marked (s ∷ ss) (suc i) = s ∷ slots_marked ss i

  abbrev pub one_if_unmarked : Slot R D → ℕ
  one_if_unmarked s = if s.is_changed then 0 else 1

  -- Holds if each slot has its record as its base, and none is marked.
  abbrev pub AreFolded : List (Slot R D) → Type 0
  AreFolded [] = Unit {0}
  AreFolded (s ∷ ss) = (s.base ≡ s.fields) × (s.is_changed ≡ false) × AreFolded ss

-- The record of a slot that isn't marked equals its base, the places of the marked ones are listed,
-- and no more are listed than are marked.
pub record AreTracked {R D : Type 0} (slots : List (Slot R D)) (changed : List ℕ) : Type 0 where
  pub within : (i : ℕ) → Contains changed i → i < length slots
  pub listed : (i : ℕ) (s : Slot R D) → i < length slots → s ≡ slice_index_or slots i s → s.is_changed ≡ true → Contains changed i
  pub same : (i : ℕ) (s : Slot R D) → i < length slots → s ≡ slice_index_or slots i s → s.is_changed ≡ false → s.base ≡ s.fields
  pub few : length changed + sum_by one_if_unmarked slots ≤ length slots

-- The slots of a set: in ascending order of their numbers, with the places of the changed ones, and
-- with room for the places of all.
pub record AreKept {R D : Type 0} (slots : List (Slot R D)) (changed : List ℕ) (capacity : ℕ) : Type 0 where
  pub ascending : AreAscending slots
  pub tracked : AreTracked slots changed
  pub room : length slots ≤ capacity

-- The record of each slot has the type and the links of its base.
abbrev pub AllLikeTheirBases : {R D : Type 0} → RecordRules R → List (Slot R D) → Type 0
AllLikeTheirBases {R} {D} k slots = (i : ℕ) (s : Slot R D) → i < length slots → s ≡ slice_index_or slots i s → AreLike k s.base s.fields
