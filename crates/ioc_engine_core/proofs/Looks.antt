-- What is shown of a field whose record is known.
use Rattle.std.proofs.Common.{◌≡◌, ℕ, List, refl, Option, Some, Ok}
use Rattle.std.specs.FinMap.{get}
use Rattle.ioc_values.specs.declared.value.Value.{Value}
use Rattle.ioc_fields.specs.declared.field_no.FieldNo.{FieldNo}
use Rattle.ioc_record.specs.RecordRules.{RecordRules}
use Rattle.ioc_store.specs.World.{World, at}
use Rattle.ioc_events.specs.Step.{shown}
use Rattle.ioc_engine_core.specs.Looked.{field_seen}

module _ {R : Type 0} (k : RecordRules R) (w : World R) (number : ℕ) (field : FieldNo) where
  pub seen_there : (text : List ℕ) (r : R) (value : Option Value) → shown k w number field ≡ Ok text → get w.records number ≡ Some r → value ≡ k.get r field → Ok (record { text = text; value = value }) ≡ field_seen k w number field
  unfolding field_seen at
  seen_there text r value s g v = rw (s, g, v) refl
