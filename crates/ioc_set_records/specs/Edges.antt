-- The links of a set's records as edges.
use Rattle.std.specs.Prelude.{ℕ, zero, suc, List, [], ◌∷◌, ◌++◌, map}
use Rattle.ioc_fields.specs.declared.field_no.FieldNo.{FieldNo}
use Rattle.ioc_graph.specs.declared.edges.Edge.{Edge}
use Rattle.ioc_dbcommon.specs.declared.link_field.LinkField.{LinkField}
use Rattle.ioc_record.specs.RecordRules.{RecordRules, targets}
use Rattle.ioc_set_records.specs.declared.slots.Slot.{Slot}

-- The edges from a record to each that its links name.
abbrev pub edges_from : ℕ → List ℕ → List Edge
edges_from n named = map (λ t. record { from = n; to = t }) named

module _ {R D : Type 0} (k : RecordRules R) where
  -- The edges of the links of all records.
  abbrev pub edges_in : List (Slot R D) → List Edge
  edges_in [] = []
  edges_in (s ∷ ss) = edges_from s.number (targets k s.fields) ++ edges_in ss

  -- The slot with one link set, in its base too.
  abbrev pub slot_relinked : Slot R D → FieldNo → LinkField → Slot R D
  slot_relinked s field link = record s { fields = k.with_link s.fields field link; base = k.with_link s.base field link }

  -- The slots with one link of the slot at a place set.
  abbrev pub slots_relinked : List (Slot R D) → ℕ → FieldNo → LinkField → List (Slot R D)
  slots_relinked [] i field link = []
  slots_relinked (s ∷ ss) zero field link = slot_relinked s field link ∷ ss
  slots_relinked (s ∷ ss) (suc i) field link = s ∷ slots_relinked ss i field link
