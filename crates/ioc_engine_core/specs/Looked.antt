-- Looks at fields of a record, which are no calls: under the lock of its set, without an entry in the journal. Application
-- Developer's Guide, "Runtime Database Access", dbGet and dbScanLock; "Database Locking, Scanning, and Processing".
use Rattle.std.specs.Prelude.{◌≡◌, ◌⊎◌, ℕ, List, map, Option, Result, Ok, Err, Any, Contains}
use Rattle.ioc_values.specs.declared.value.Value.{Value}
use Rattle.ioc_values.specs.declared.error.IocError.{IocError}
use Rattle.ioc_values.specs.declared.error.IocError.TheVariants.{NoMemory, Stopped}
use Rattle.ioc_fields.specs.declared.field_no.FieldNo.{FieldNo}
use Rattle.ioc_record.specs.RecordRules.{RecordRules}
use Rattle.ioc_store.specs.World.{World, at}
use Rattle.ioc_events.specs.Step.{shown}
use Rattle.ioc_journal.specs.declared.entry.Note.{Note}
use Rattle.ioc_journal.specs.Account.{IsAccount}
use Rattle.ioc_journal.specs.Line.{Begins}
use Rattle.ioc_set.specs.SetState.{now_of}
use Rattle.ioc_topology.specs.Change.{IsRefused}
use Rattle.ioc_journaled_set.specs.Holding.{HeldView, numbers_of, IsSoundlyHeld}
use Rattle.ioc_engine_core.specs.declared.looking.FieldSeen.{FieldSeen}

-- A text, or why there is none, with the value behind it.
abbrev pub with_value : Option Value → Result (List ℕ) IocError → Result FieldSeen IocError
with_value value (Ok text) = Ok (record { text = text; value = value })
with_value value (Err error) = Err error

-- What is shown of a field: the text that a get would tell, and the value; or why there is none.
unfoldable pub field_seen : {R : Type 0} → RecordRules R → World R → ℕ → FieldNo → Result FieldSeen IocError
field_seen k w number field = with_value (k.get (at k w number) field) (shown k w number field)

-- Holds if this is what was shown of fields of a record of a sound set, all of one moment, as it was after the calls of a legal
-- list. A desk had seen a beginning of that list before, and has seen all of it since, and no more.
pub record WasLooked {R : Type 0} (D : Type 0) (k : RecordRules R) (base : World R) (number : ℕ) (fields : List FieldNo) (before : List Note) (fields_seen : List FieldSeen) (after : List Note) : Type 0 where
  pub held : HeldView R D
  pub here : Contains (numbers_of held) number
  pub sound : IsSoundlyHeld k base held
  pub legal : IsAccount k base held.seen
  pub no_older : Begins before held.seen
  pub last : held.seen ≡ after
  pub seen : map Ok fields_seen ≡ map (field_seen k (now_of held.set) number) fields

-- A sound set has the record, and the record has no such field.
pub record IsHidden {R : Type 0} (D : Type 0) (k : RecordRules R) (base : World R) (number : ℕ) (fields : List FieldNo) (error : IocError) : Type 0 where
  pub held : HeldView R D
  pub here : Contains (numbers_of held) number
  pub sound : IsSoundlyHeld k base held
  pub none : Any (λ field. field_seen k (now_of held.set) number field ≡ Err error) fields

-- The errors of a look: the engine was closed, allocation fails, there is no record with this number, or the record lacks a field.
abbrev pub LookIsRefused : {R : Type 0} → (D : Type 0) → RecordRules R → World R → ℕ → ℕ → List FieldNo → IocError → Type 0
LookIsRefused D k base count number fields error = (error ≡ Stopped) ⊎ ((error ≡ NoMemory) ⊎ (IsRefused count number error ⊎ IsHidden D k base number fields error))

-- The errors of watching a record: the engine was closed, allocation fails, or there is no record with this number.
abbrev pub WatchIsRefused : ℕ → ℕ → IocError → Type 0
WatchIsRefused count number error = (error ≡ Stopped) ⊎ ((error ≡ NoMemory) ⊎ IsRefused count number error)

-- The error of watching a record no more: there is no record with this number.
abbrev pub UnwatchIsRefused : ℕ → ℕ → IocError → Type 0
UnwatchIsRefused count number error = IsRefused count number error
