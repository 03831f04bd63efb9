-- The lines of a record's state, and the record that they lead to. Record Reference Manual, the record
-- types; the journal is this project's own.
use Rattle.std.specs.Prelude.{ℕ, nat_eq, Bool, if◌then◌else◌, List, [], ◌∷◌, ◌++◌, Option, Some, None}
use Rattle.std.specs.List.{flat_map}
use Rattle.std.specs.Cmp.Lexicographic.{pointwise}
use Rattle.ioc_fields.specs.declared.field_no.FieldNo.{FieldNo}
use Rattle.ioc_fields.specs.declared.field_no.FieldNo.TheVariants.{Own}
use Rattle.ioc_fields.specs.declared.field_no.OwnField.TheVariants.{Calc, Ocal}
use Rattle.ioc_fields.specs.Names.{name_of, all_fields}
use Rattle.ioc_journal_file.specs.declared.base.HiddenState.{HiddenState}
use Rattle.ioc_journal_file.specs.declared.base.Part.{Part}
use Rattle.ioc_journal_file.specs.declared.base.BaseItem.{BaseItem}
use Rattle.ioc_journal_file.specs.declared.base.BaseItem.TheVariants.{Field, State}
use Rattle.ioc_journal_file.specs.Bases.{part_text}
use Rattle.rec_types.specs.Record.{Record, record_rules, new_record}
use Rattle.ioc_journal_base.specs.States.{part_of, with_part, hidden_of, with_hidden}

-- Whether two words are the same.
abbrev pub is_same : List ℕ → List ℕ → Bool
is_same one other = pointwise nat_eq one other

-- The words of what a field has.
abbrev pub part_words : Option Part → List ℕ
part_words None = []
part_words (Some p) = part_text p

abbrev pub is_same_part : Option Part → Option Part → Bool
is_same_part p q = is_same (part_words p) (part_words q)

-- The record with this expression in a field, if there is one.
abbrev pub with_text : Record → FieldNo → Option (List ℕ) → Record
with_text r f None = r
with_text r f (Some text) = record_rules.with_calculation r f text

-- The record with the expression that another one has in this field, if it has one there.
abbrev pub with_expression : Record → Record → FieldNo → Record
with_expression from r f = with_text r f (record_rules.calculation from f)

-- A new record with the type, the name and the expressions of this one: a database text alone sets expressions.
abbrev pub fresh_of : Record → Record
fresh_of r = with_expression r (with_expression r (new_record (record_rules.record_type r) r.common.name) (Own Calc)) (Own Ocal)

-- ---- The lines of a record

abbrev pub item_if : ℕ → FieldNo → Option Part → List BaseItem
item_if n f None = []
item_if n f (Some p) = Field n f p ∷ []

-- What a field has, if that isn't what it has in the new record.
abbrev pub field_items : ℕ → Record → Record → FieldNo → List BaseItem
field_items n fresh r f = if is_same_part (part_of fresh f) (part_of r f) then [] else item_if n f (part_of r f)

-- The lines of a record: fields in which it differs from a new one, and what no field shows.
unfoldable pub record_items : ℕ → Record → List BaseItem
record_items n r = flat_map (field_items n (fresh_of r) r) all_fields ++ State n (hidden_of r) ∷ []

-- ---- The record of lines

-- What a line gives a field.
abbrev pub part_for : BaseItem → FieldNo → Option Part
part_for (Field n g p) f = if is_same (name_of g) (name_of f) then Some p else None
part_for _ f = None

abbrev pub first : Option Part → Option Part → Option Part
first (Some p) q = Some p
first None q = q

abbrev pub given_part : List BaseItem → FieldNo → Option Part
given_part [] f = None
given_part (item ∷ items) f = first (part_for item f) (given_part items f)

-- What the lines, or else the new record, give a field.
abbrev pub chosen_part : List BaseItem → Record → FieldNo → Option Part
chosen_part items fresh f = first (given_part items f) (part_of fresh f)

-- What no field shows.
abbrev pub hidden_given : List BaseItem → Record → HiddenState
hidden_given [] fresh = hidden_of fresh
hidden_given (State n s ∷ items) fresh = s
hidden_given (_ ∷ items) fresh = hidden_given items fresh

abbrev pub with_chosen : Record → FieldNo → Option Part → Record
with_chosen r f None = r
with_chosen r f (Some p) = with_part r f p

-- A record with these fields as they are chosen, one after another.
abbrev pub with_fields : (FieldNo → Option Part) → List FieldNo → Record → Record
with_fields chosen [] r = r
with_fields chosen (f ∷ fs) r = with_fields chosen fs (with_chosen r f (chosen f))

abbrev pub with_all : Record → HiddenState → Record
with_all r s = record r { common = with_hidden r.common s }

-- The record to which the lines lead from a new one with the type and the name of this one.
unfoldable pub rebuilt : Record → List BaseItem → Record
rebuilt loaded items = with_all (with_fields (chosen_part items (fresh_of loaded)) all_fields (fresh_of loaded)) (hidden_given items (fresh_of loaded))
