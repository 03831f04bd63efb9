-- The inputs of calc, calcout and sel, with their values. Record Reference Manual, "Calculation Record", "Read Parameters" and
-- "Monitor Parameters".
use Rattle.std.specs.Prelude.{ℕ, Bool, nat_lt, ◌==◌, ◌||◌, if◌then◌else◌, List, [], ◌∷◌, map, replicate, slice_get, Option, Some, None, unwrap_or}
use Rattle.std.specs.Option.{option_map, option_and_then}
use Rattle.std.specs.Float.Ieee.{Float, ne}
use Rattle.ioc_double.specs.Size.{whole_double}
use Rattle.ioc_values.specs.declared.value.Value.{Value}
use Rattle.ioc_values.specs.declared.value.Value.TheVariants as value
use Rattle.ioc_values.specs.Conversion.{Doubles}
use Rattle.ioc_fields.specs.declared.field_no.FieldSlot.{FieldSlot}
use Rattle.ioc_fields.specs.declared.field_no.OwnField.{OwnField}
use Rattle.ioc_fields.specs.declared.field_no.OwnField.TheVariants.{Letter, LastLetter, InputLink}
use Rattle.ioc_fields.specs.Slots.{slot_number}
use Rattle.ioc_fields.specs.Names.{input_slots}
use Rattle.ioc_dbcommon.specs.declared.body.InputKind.{InputKind}
use Rattle.ioc_dbcommon.specs.declared.body.InputKind.TheVariants as input
use Rattle.ioc_dbcommon.specs.declared.link_field.LinkField.{LinkField}
use Rattle.ioc_dbcommon.specs.Constant.{constant_in}
use Rattle.ioc_dbcommon.specs.Links.{no_link}
use Rattle.ioc_dbcommon.specs.Parts.{double_in}
use Rattle.rec_calc.specs.declared.inputs.Inputs.{Inputs}

-- ---- Fields

-- The number of an input, 0 to 11; there are no more.
abbrev pub input_number : FieldSlot → Option ℕ
input_number slot = if nat_lt (slot_number slot) 12 then Some (slot_number slot) else None

-- The item of a slot in a list.
abbrev pub item_at : {A : Type 0} → A → List A → FieldSlot → A
item_at none items slot = unwrap_or (slice_get items (slot_number slot)) none

-- The list with the item of a slot set.
abbrev pub placed : {A : Type 0} → A → List A → FieldSlot → A → List A
placed none items slot x = map (λ s. if slot_number s == slot_number slot then x else item_at none items s) input_slots

-- The value of a slot among A to L or LA to LL.
abbrev pub value_at : List Float → FieldSlot → Float
value_at = item_at (whole_double 0)

-- The inputs of a new record: empty links, this value in A to L, and 0 in LA to LL.
unfoldable pub new_inputs : Float → Inputs
new_inputs x = record { links = replicate 12 no_link; values = replicate 12 x; last_sent = replicate 12 (whole_double 0) }

abbrev pub inputs_link : List LinkField → OwnField → Option LinkField
inputs_link links (InputLink slot) = option_map (λ n. item_at no_link links slot) (input_number slot)
inputs_link links _ = None

unfoldable pub inputs_with_link : Inputs → OwnField → LinkField → Inputs
inputs_with_link b (InputLink slot) link = record b { links = placed no_link b.links slot link }
inputs_with_link b _ link = b

unfoldable pub inputs_get : Inputs → OwnField → Option Value
inputs_get b (Letter slot) = option_map (λ n. value.Double (value_at b.values slot)) (input_number slot)
inputs_get b (LastLetter slot) = option_map (λ n. value.Double (value_at b.last_sent slot)) (input_number slot)
inputs_get b _ = None

-- The values with the double of a converted value stored, if it is one.
abbrev pub value_placed : Inputs → FieldSlot → Option Float → Inputs
value_placed b slot None = b
value_placed b slot (Some x) = record b { values = placed (whole_double 0) b.values slot x }

-- The inputs with a converted value stored. Only A to L can be stored, and a value of another kind changes nothing.
unfoldable pub inputs_stored : Inputs → OwnField → Value → Inputs
inputs_stored b (Letter slot) v = value_placed b slot (double_in v)
inputs_stored b _ v = b

-- The inputs with the double of a value set in one of LA to LL, which no put changes.
abbrev pub sent_placed : Inputs → FieldSlot → Option Float → Inputs
sent_placed b slot None = b
sent_placed b slot (Some x) = record b { last_sent = placed (whole_double 0) b.last_sent slot x }

unfoldable pub with_sent : Inputs → OwnField → Value → Inputs
with_sent b (LastLetter slot) v = sent_placed b slot (double_in v)
with_sent b _ v = b

-- A constant in INPA to INPL must convert to a double.
abbrev pub inputs_constant_kind : OwnField → Option InputKind
inputs_constant_kind (InputLink slot) = option_map (λ n. input.Double) (input_number slot)
inputs_constant_kind _ = None

-- ---- Two lists of equal length, item by item

abbrev pub paired : {A B C : Type 0} → (A → B → C) → List A → List B → List C
paired f [] ys = []
paired f (x ∷ xs) [] = []
paired f (x ∷ xs) (y ∷ ys) = f x y ∷ paired f xs ys

-- ---- The load

-- A constant link as a double, or else this value.
unfoldable pub constant_or : LinkField → Float → Float
constant_or link x = unwrap_or (option_and_then double_in (constant_in Doubles link.link)) x

-- A to L with the constants among INPA to INPL put into them.
abbrev pub constants_put : List LinkField → List Float → List Float
constants_put links values = paired constant_or links values

-- The inputs at the end of a load: constants are put, and LA to LL become A to L.
unfoldable pub settled : Inputs → Inputs
settled b = let values = constants_put b.links b.values in record b { values = values; last_sent = values }

-- ---- Posts

-- What monitors of an input have been sent, given what they were sent before: its value if that is another, and always where
-- the alarm of the record has changed.
unfoldable pub sent : Bool → Float → Float → Float
sent alarm_changed x last = if alarm_changed || ne x last then x else last

abbrev pub last_sent : Bool → List Float → List Float → List Float
last_sent alarm_changed values last = paired (sent alarm_changed) values last

unfoldable pub posted : Bool → Inputs → Inputs
posted alarm_changed b = record b { last_sent = last_sent alarm_changed b.values b.last_sent }
