-- What a record keeps of the inputs that it reads. Record Reference Manual, "Calculation Record", "Read Parameters", and "Select
-- Record", "Read Parameters".
use Rattle.std.specs.Prelude.{ℕ, Bool, true, false, if◌then◌else◌}
use Rattle.ioc_fields.specs.declared.field_no.FieldNo.TheVariants.{Own}
use Rattle.ioc_fields.specs.declared.field_no.OwnField.{OwnField}
use Rattle.ioc_dbcommon.specs.declared.body.Got.{Got}
use Rattle.ioc_dbcommon.specs.declared.body.Got.TheVariants as got
use Rattle.ioc_record.specs.RecordRules.{RecordRules}
use Rattle.ioc_store.specs.World.{World, at, put}

-- Whether an input returned a fault.
abbrev pub is_fault : Got → Bool
is_fault got.Fault = true
is_fault _ = false

-- What comes of several inputs, each of which is kept: a fault if one of them returned a fault.
abbrev pub came_of : Bool → Got
came_of has_fault = if has_fault then got.Fault else got.Nothing

-- Record `s` keeps the value that it has read in a field of its own. The field stays after a fault, and if nothing came.
unfoldable pub kept : {R : Type 0} → RecordRules R → World R → ℕ → OwnField → Got → World R
kept k w s field (got.Value v) = put w s (k.stored (at k w s) (Own field) v)
kept k w s field got.Nothing = w
kept k w s field got.Fault = w
