-- A perfect hash of the field names: each name has a place of its own, where the field's index in
-- the list of all fields is stored.
use Rattle.std.specs.Prelude.{◌≡◌, ◌↔◌, ℕ, ◌*◌, ◌/◌, ◌%◌, ◌^◌, List, [], ◌∷◌, Option, Some, None, slice_get, slice_index, refl}
use Rattle.std.specs.Int.{w32, from_be_bytes}
use Rattle.ioc_fields.specs.declared.field_no.FieldNo.{FieldNo}
use Rattle.ioc_fields.specs.declared.field_no.FieldNo.TheVariants.{Common, Own}
use Rattle.ioc_fields.specs.declared.field_no.CommonField.TheVariants.{Name}
use Rattle.ioc_fields.specs.declared.field_no.OwnField.TheVariants.{StateValue, StateText, StateSeverity, Lnk, Letter, LastLetter, InputLink}
use Rattle.ioc_fields.specs.declared.field_no.FieldSlot.TheVariants.{N0}
use Rattle.ioc_fields.specs.declared.places.TheConstants.{FACTOR, PLACES}
use Rattle.ioc_fields.specs.Names.{common_name, own_name, link_name, state_value_name, state_text_name, state_severity_name, last_letter_name, input_name, name_of, all_fields}

-- The place to which four bytes hash.
unfoldable pub place_of : List ℕ → ℕ
place_of bytes = ((from_be_bytes w32 bytes * FACTOR) % 2 ^ 32) / 2 ^ 22

-- The field whose index is stored at the place of these bytes.
unfoldable pub field_at : List ℕ → Option FieldNo
field_at bytes = slice_get all_fields (slice_index PLACES (place_of bytes))

-- The only field that can have the name. A name of less than four bytes is hashed with zeros after it.
unfoldable pub candidate_of : List ℕ → Option FieldNo
candidate_of (a ∷ []) = field_at (a ∷ 0 ∷ 0 ∷ 0 ∷ [])
candidate_of (a ∷ b ∷ []) = field_at (a ∷ b ∷ 0 ∷ 0 ∷ [])
candidate_of (a ∷ b ∷ c ∷ []) = field_at (a ∷ b ∷ c ∷ 0 ∷ [])
candidate_of (a ∷ b ∷ c ∷ d ∷ []) = field_at (a ∷ b ∷ c ∷ d ∷ [])
candidate_of _ = None

-- The name of each field hashes to that field.
pub leads_home : (f : FieldNo) → candidate_of (name_of f) ≡ Some f
unfolding candidate_of field_at place_of all_fields common_name own_name link_name state_value_name state_text_name state_severity_name last_letter_name input_name
leads_home (Common Name) = refl
leads_home (Own (StateValue N0)) = refl
leads_home (Own (StateText N0)) = refl
leads_home (Own (StateSeverity N0)) = refl
leads_home (Own (Lnk N0)) = refl
leads_home (Own (Letter N0)) = refl
leads_home (Own (LastLetter N0)) = refl
leads_home (Own (InputLink N0)) = refl
leads_home _ = refl

-- Holds if the answer is a field exactly if this is its name.
abbrev pub IsNamed : List ℕ → Option FieldNo → Type 0
IsNamed name answer = (field : FieldNo) → (answer ≡ Some field) ↔ (name_of field ≡ name)
