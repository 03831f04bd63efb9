-- What lines show of watched fields.
use Rattle.std.specs.Prelude.{◌≡◌, ℕ, ℤ, List, Bool, true, false, Option, Some, None}
use Rattle.std.specs.Fmt.{signed_decimal}
use Rattle.ioc_values.specs.declared.value.Value.{Value}
use Rattle.ioc_values.specs.declared.value.Value.TheVariants as values
use Rattle.ioc_values.specs.Conversion.{number_of_value}
use Rattle.ioc_double.specs.Spelled.{double_of_text}
use Rattle.ioc_watches.specs.declared.content.FieldShown.{FieldShown}

-- A whole number in decimal, or the text where there is none.
abbrev pub decimal_or : List ℕ → Option ℤ → List ℕ
decimal_or text None = text
decimal_or text (Some number) = signed_decimal number

-- What is shown of a value as a number. All digits of a double are those from which it is read again.
abbrev pub IsNumberText : List ℕ → Option Value → List ℕ → Type 0
IsNumberText text None shown = shown ≡ text
IsNumberText text (Some (values.Double number)) shown = double_of_text shown ≡ Some number
IsNumberText text (Some other) shown = shown ≡ decimal_or text (number_of_value other)

-- What is shown of a field: its text, or its number if that is asked for.
abbrev pub IsContent : FieldShown → Bool → List ℕ → Type 0
IsContent field false shown = shown ≡ field.text
IsContent field true shown = IsNumberText field.text field.value shown
