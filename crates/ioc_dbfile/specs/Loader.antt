-- A database that is being loaded: its names, and its records by number. EPICS Application
-- Developer's Guide, "Database Definition", "Record Instance Definition".
use Rattle.std.specs.Prelude.{ℕ, Bool, true, false, nat_eq, List, [], ◌∷◌, ◌++◌, Option, Some, None, Result, Ok, Err, nat_lt, slice_get, slice_set, refl, if◌then◌else◌}
use Rattle.std.specs.Cmp.Lexicographic.{pointwise}
use Rattle.std.specs.Coded.{Coded, code_by, coded×, coded_list}
use Rattle.ioc_values.specs.declared.error.BadDbKind.{BadDbKind}
use Rattle.ioc_values.specs.declared.error.BadDbKind.TheVariants as kinds
use Rattle.ioc_values.specs.declared.error.IocError.{IocError}
use Rattle.ioc_values.specs.declared.error.IocError.TheVariants as refusals
use Rattle.ioc_calc.specs.declared.compiling.CalcFaultKind.{CalcFaultKind}
use Rattle.ioc_calc.specs.declared.compiling.CalcFaultKind.TheVariants.{Bad, LeftOut}
use Rattle.ioc_dbparse.specs.declared.builder.BuildError.{BuildError}
use Rattle.ioc_dbparse.specs.declared.builder.BuildError.TheVariants.{Memory, Refused}
use Rattle.ioc_names.specs.NameTable.{NameTable, table_code, number_of, added, aliased}
use Rattle.ioc_links.specs.Grammar.{is_record_name}
use Rattle.ioc_fields.specs.declared.record_type.RecordType.{RecordType}
use Rattle.ioc_fields.specs.declared.field_no.FieldNo.{FieldNo}
use Rattle.ioc_fields.specs.Types.{type_name, type_of}
use Rattle.ioc_fields.specs.Names.{field_of}
use Rattle.ioc_fields.specs.declared.field_kind.FieldKind.{FieldKind}
use Rattle.ioc_fields.specs.declared.field_kind.FieldKind.TheVariants.{Expression}
use Rattle.ioc_fields.specs.Table.{can_set, kind_of}
use Rattle.ioc_dbcommon.specs.Calculation.{calculation_of}
use Rattle.ioc_record.specs.RecordRules.{RecordRules}
use Rattle.ioc_record.specs.Loading.{set_field, calculation_set}
use Rattle.ioc_dbparse.specs.Rules.{Rules}

-- The names, and the records by their numbers.
pub record Loading (R : Type 0) : Type 0 where
  pub names : NameTable
  pub records : List R

-- Its encoding as the pair of its fields.
abbrev pub loading_code : {R : Type 0} → Coded R → Coded (Loading R)
loading_code {R} c =
    code_by (NameTable × List R) (coded× table_code (coded_list c)) (λ s. (s.names, s.records))
    (λ p. record { names = p.0; records = p.1 }) (λ _. refl)

-- The maximal number of records of a database, 131,072.
unfoldable pub most_records : ℕ
most_records = 131072

-- Whether two record types are equal.
unfoldable pub same_type : RecordType → RecordType → Bool
same_type a b = pointwise nat_eq (type_name a) (type_name b)

-- The fault of a database text in which a field can't be set.
abbrev pub kind_of_refusal : IocError → BadDbKind
kind_of_refusal refusals.NoField = kinds.BadField
kind_of_refusal refusals.NoMod = kinds.NoMod
kind_of_refusal refusals.BadLink = kinds.BadLink
kind_of_refusal _ = kinds.BadValue

-- The fault of a database text in which an expression can't be set.
abbrev pub kind_of_fault : CalcFaultKind → BadDbKind
kind_of_fault Bad = kinds.BadCalc
kind_of_fault (LeftOut word) = kinds.CalcLeftOut word

-- Whether a field of this kind holds an expression.
abbrev pub holds_expression : Option FieldKind → Bool
holds_expression (Some Expression) = true
holds_expression _ = false

-- The build error of a field that can't be set: allocation fails, or the text has a fault.
abbrev pub build_error : IocError → BuildError
build_error refusals.NoMemory = Memory
build_error refusal = Refused (kind_of_refusal refusal)

module _ {R : Type 0} (k : RecordRules R) where
  -- The record with a value set, or why the text isn't one of the field's.
  abbrev pub value_outcome : Result R IocError → Result R BadDbKind
  value_outcome (Ok r) = Ok r
  value_outcome (Err e) = Err (kind_of_refusal e)

  -- The record with an expression set, or why the text is none.
  abbrev pub expression_outcome : Result R CalcFaultKind → Result R BadDbKind
  expression_outcome (Ok r) = Ok r
  expression_outcome (Err fault) = Err (kind_of_fault fault)

  -- The record with a field set to the value of a text: an expression, or any other field.
  unfoldable pub set_to : R → FieldNo → List ℕ → Result R BadDbKind
  set_to r field text =
      if holds_expression (kind_of (k.record_type r) field)
      then expression_outcome (calculation_set k r field (calculation_of text))
      else value_outcome (set_field k r field text)

module _ {R : Type 0} (k : RecordRules R) (created : RecordType → List ℕ → R) where
  -- The value of an option, or this fault if there is none.
  abbrev pub or_kind : {A : Type 0} → BadDbKind → Option A → Result A BadDbKind
  or_kind kind (Some x) = Ok x
  or_kind kind None = Err kind

  -- The record with this name or alias. That the name isn't valid is found before that no record
  -- has it.
  unfoldable pub find_record : List ℕ → Loading R → Result ℕ BadDbKind
  find_record name s = if is_record_name name then or_kind kinds.NoRecord (number_of s.names name) else Err kinds.BadName

  -- An existing record, selected for more fields if it has this type.
  abbrev pub add_more : RecordType → Loading R → ℕ → Option R → Result (ℕ × Loading R) BadDbKind
  add_more kind s n None = Err kinds.Duplicate
  add_more kind s n (Some r) = if same_type kind (k.record_type r) then Ok (n, s) else Err kinds.Duplicate

  -- The record with this name, or a new one if no record has it.
  abbrev pub add_by : RecordType → List ℕ → Loading R → Option ℕ → Result (ℕ × Loading R) BadDbKind
  add_by kind name s (Some n) = add_more kind s n (slice_get s.records n)
  add_by kind name s None =
      if nat_lt s.names.count most_records
      then Ok (s.names.count, record { names = added s.names name; records = s.records ++ created kind name ∷ [] })
      else Err kinds.TooMany

  -- The record of this type and name. Faults are found in this order: the name isn't valid, a
  -- record of another type has it, there are too many records.
  unfoldable pub add_record : RecordType → List ℕ → Loading R → Result (ℕ × Loading R) BadDbKind
  add_record kind name s = if is_record_name name then add_by kind name s (number_of s.names name) else Err kinds.BadName

  -- A second name, which no record has yet.
  abbrev pub alias_by : ℕ → List ℕ → Loading R → Option ℕ → Result (Loading R) BadDbKind
  alias_by n name s (Some m) = Err kinds.Duplicate
  alias_by n name s None =
      if nat_lt n s.names.count then Ok (record { names = aliased s.names n name; records = s.records }) else Err kinds.NoRecord

  -- A second name for the record with this number. That the name isn't valid is found before that
  -- it is taken.
  unfoldable pub alias_record : ℕ → List ℕ → Loading R → Result (Loading R) BadDbKind
  alias_record n name s = if is_record_name name then alias_by n name s (number_of s.names name) else Err kinds.BadName

  -- The field, if a database text may set it.
  abbrev pub settable : RecordType → Option FieldNo → Result FieldNo BadDbKind
  settable kind None = Err kinds.BadField
  settable kind (Some field) = if can_set kind field then Ok field else Err kinds.NoMod

  -- The field with this name of a record.
  abbrev pub field_in : List ℕ → Option R → Result FieldNo BadDbKind
  field_in name None = Err kinds.BadField
  field_in name (Some r) = settable (k.record_type r) (field_of (k.record_type r) name)

  -- The field with this name of the record with this number.
  unfoldable pub find_field : ℕ → List ℕ → Loading R → Result FieldNo BadDbKind
  find_field n name s = field_in name (slice_get s.records n)

  -- The records with this one in its place, if a text has set it.
  abbrev pub with_set : Loading R → ℕ → Result R BadDbKind → Result (Loading R) BadDbKind
  with_set s n (Ok r) = Ok (record { names = s.names; records = slice_set s.records n r })
  with_set s n (Err kind) = Err kind

  -- The records with a field of this record set.
  abbrev pub set_in : Loading R → ℕ → FieldNo → List ℕ → Option R → Result (Loading R) BadDbKind
  set_in s n field text None = Err kinds.BadValue
  set_in s n field text (Some r) = with_set s n (set_to k r field text)

  -- The records with a field of the record with this number set.
  unfoldable pub set_at : ℕ → FieldNo → List ℕ → Loading R → Result (Loading R) BadDbKind
  set_at n field text s = set_in s n field text (slice_get s.records n)

  -- The effects of statements on a database that is being loaded.
  abbrev pub loading : Rules (Loading R)
  loading = record { type_of = type_of; find = find_record; add = add_record; alias = alias_record; field_of = find_field; set = set_at }
