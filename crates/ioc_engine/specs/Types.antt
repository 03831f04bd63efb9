-- The types of records. Record Reference Manual: a record has one of the record types, and each type
-- has a table of its fields.
use Rattle.std.specs.Prelude.{◌≡◌, ℕ, List, Some, slice_get, length}
use Rattle.ioc_fields.specs.declared.record_type.RecordType.{RecordType}
use Rattle.ioc_record.specs.RecordRules.{RecordRules}
use Rattle.rec_types.specs.Record.{Record, record_rules}
use Rattle.ioc_store.specs.World.{World, Has, at}
use Rattle.ioc_store.specs.Given.{Answers}
use Rattle.ioc_events.specs.declared.event.Call.{Call}
use Rattle.ioc_events.specs.Calls.{called}
use Rattle.ioc_journal.specs.declared.entry.Note.{Note}
use Rattle.ioc_journal.specs.Legal.{map_of}
use Rattle.ioc_journal.specs.Covering.{Holds}

module _ {R : Type 0} (k : RecordRules R) where
  -- The type of the record with this number.
  abbrev pub type_at : World R → ℕ → RecordType
  type_at w n = k.record_type (at k w n)

  -- Holds if each record has the same type in both worlds.
  pub record HaveSameTypes (w v : World R) : Type 0 where
    pub types : (n : ℕ) → type_at v n ≡ type_at w n

  -- No call changes the type of a record.
  abbrev pub CallsKeepTypes : Type 0
  CallsKeepTypes = (answers : Answers) (w : World R) (made : Call) → HaveSameTypes w (called k answers w made).world

  -- After any list of calls each record has the type that it had at the load.
  abbrev pub ListsKeepTypes : Type 0
  ListsKeepTypes = (base : World R) (log : List Note) → HaveSameTypes base (map_of k base log)

  -- So has each record of a held part of the world that such a list leads to.
  abbrev pub HeldKeepTypes : Type 0
  HeldKeepTypes = (base v : World R) (log : List Note) → Holds k (map_of k base log) v → (n : ℕ) → Has v n → type_at v n ≡ type_at base n

-- Holds if these are the types of as many loaded records, by their numbers.
pub record AreTypesOf (base : World Record) (count : ℕ) (types : List RecordType) : Type 0 where
  pub many : length types ≡ count
  pub each : (n : ℕ) (type : RecordType) → slice_get types n ≡ Some type → type_at record_rules base n ≡ type
