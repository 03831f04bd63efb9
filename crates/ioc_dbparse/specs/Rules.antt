-- The effect of statements on a database that they fill.
use Rattle.std.specs.Prelude.{◌≡◌, ℕ, List, Option, Result, Ok, Err}
use Rattle.ioc_values.specs.declared.error.BadDbKind.{BadDbKind}
use Rattle.ioc_fields.specs.declared.record_type.RecordType.{RecordType}
use Rattle.ioc_fields.specs.declared.field_no.FieldNo.{FieldNo}
use Rattle.ioc_dbparse.specs.declared.builder.BuildError.{BuildError}
use Rattle.ioc_dbparse.specs.declared.builder.BuildError.TheVariants.{Memory, Refused}

-- The rules for databases of the type `S`.
pub record Rules (S : Type 0) : Type 0 where
  -- The record type with this name.
  pub type_of : List ℕ → Option RecordType
  -- The number of the record with this name or alias.
  pub find : List ℕ → S → Result ℕ BadDbKind
  -- The number of the record of this type with this name or alias, and the database with it; the
  -- record is added if there is none.
  pub add : RecordType → List ℕ → S → Result (ℕ × S) BadDbKind
  -- The database with a second name for the record with this number.
  pub alias : ℕ → List ℕ → S → Result S BadDbKind
  -- The field with this name, if the record with this number has it and it may be set.
  pub field_of : ℕ → List ℕ → S → Result FieldNo BadDbKind
  -- The database with a field of a record set to the value of the text.
  pub set : ℕ → FieldNo → List ℕ → S → Result S BadDbKind

-- Holds if the result of a step that doesn't allocate, mapped by `view`, or its refusal, is the
-- wanted one.
abbrev pub Allows : {X Y : Type 0} → (X → Y) → Result X BadDbKind → Result Y BadDbKind → Type 0
Allows view (Ok x) wanted = wanted ≡ Ok (view x)
Allows view (Err kind) wanted = wanted ≡ Err kind

-- Holds if an error is the wanted refusal, or a failed allocation.
abbrev pub Refuses : {Y : Type 0} → BuildError → Result Y BadDbKind → Type 0
Refuses Memory wanted = Unit {0}
Refuses (Refused kind) wanted = wanted ≡ Err kind

-- Holds if the result of a step, mapped by `view`, is the wanted one, unless allocation fails.
abbrev pub Builds : {X Y : Type 0} → (X → Y) → Result X BuildError → Result Y BadDbKind → Type 0
Builds view (Ok x) wanted = wanted ≡ Ok (view x)
Builds view (Err e) wanted = Refuses e wanted
