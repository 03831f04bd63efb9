-- A number of the type's own range, stored in VAL.
use Rattle.std.proofs.Common.{◌≡◌, ℤ, Bool, Option, Some, None, true, is_some, refl}
use Rattle.std.specs.Option.{option_and_then}
use Rattle.ioc_values.specs.declared.value.Value.{Value}
use Rattle.ioc_values.specs.declared.kind.Range.{Range}
use Rattle.ioc_values.specs.Conversion.{value_in}
use Rattle.ioc_alarms.specs.Order.{LimitOrder}
use Rattle.ioc_fields.specs.declared.field_no.OwnField.{OwnField}
use Rattle.ioc_fields.specs.declared.field_no.OwnField.TheVariants.{Val}
use Rattle.ioc_record.specs.BodyRules.{BodyRules, BodyState, number_stored}
use Rattle.rec_numeric.specs.Number.{NumberRules}
use Rattle.rec_numeric.specs.Numeric.{numeric_stored}
use Rattle.rec_numeric.specs.Input.{numeric_input, input_stored}
use Rattle.rec_numeric.specs.Output.{numeric_output, output_stored}
use Rattle.rec_numeric.specs.declared.input.NumericInput.{NumericInput}
use Rattle.rec_numeric.specs.declared.output.NumericOutput.{NumericOutput}

-- Holds if a number was stored as a value of a range, and the result says whether it is in range.
pub record IsNumberStored {B : Type 0} (k : BodyRules B) (h after : BodyState B) (f : OwnField) (range : Range) (number : ℤ) (result : Bool) : Type 0 where
  pub fits : result ≡ is_some (value_in range number)
  pub stored : after ≡ number_stored k h f (value_in range number)

-- Holds if storing a number of the type's own range in VAL is the same as setting VAL by `with`.
abbrev pub IsStoredAs : {N B : Type 0} → NumberRules N → BodyRules B → (BodyState B → N → BodyState B) → Type 0
IsStoredAs {N = N} {B = B} k rules with =
    (h : BodyState B) (v : Option Value) (n : N) → Some n ≡ option_and_then k.in_value v → with h n ≡ number_stored rules h Val v

-- If a number results from an optional value, there is a value.
pub is_there : {N : Type 0} (taken : Value → Option N) (v : Option Value) (n : N) → Some n ≡ option_and_then taken v → true ≡ is_some v
is_there taken None n is = cc
is_there taken (Some v) n is = refl

-- An input with this number in VAL.
abbrev pub input_with : {N : Type 0} → BodyState (NumericInput N) → N → BodyState (NumericInput N)
input_with h n = record { body = record h.body { numbers = record h.body.numbers { value = n } }; condition = record h.condition { undefined = 0 } }

-- An output with this number in VAL.
abbrev pub output_with : {N : Type 0} → BodyState (NumericOutput N) → N → BodyState (NumericOutput N)
output_with h n = record { body = record h.body { numbers = record h.body.numbers { value = n } }; condition = record h.condition { undefined = 0 } }

module _ {N : Type 0} (k : NumberRules N) (order : LimitOrder N) where
  pub input_put : IsStoredAs k (numeric_input k order) input_with
  unfolding input_stored numeric_stored
  input_put h None n is = cc
  input_put h (Some v) n is = rw (← is) refl

  pub output_put : IsStoredAs k (numeric_output k order) output_with
  unfolding output_stored numeric_stored
  output_put h None n is = cc
  output_put h (Some v) n is = rw (← is) refl
