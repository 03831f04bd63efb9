-- A number is shown in the same way in every field.
use Rattle.std.proofs.Common.{◌≡◌, ℕ, ℤ, List, Option, Some, None, ap, ◌∙◌}
use Rattle.std.specs.Fmt.{signed_decimal}
use Rattle.ioc_values.specs.declared.value.Value.{Value}
use Rattle.ioc_values.specs.declared.value.Value.TheVariants as value
use Rattle.ioc_values.specs.Conversion.{FieldSort}
use Rattle.ioc_record.specs.Values.{plain_text, text_with}
use Rattle.ioc_record.specs.Shown.{number_shown}
use Rattle.ioc_record.proofs.PlainTexts.{plain_elsewhere}

decimal_of : (m z : ℤ) → Some m ≡ Some z → signed_decimal m ≡ signed_decimal z
decimal_of m z is = cc

-- The number that a value shows, as its plain text.
plain_number : (digits : ℕ) (v : Value) (z : ℤ) → Some z ≡ number_shown (Some v) → signed_decimal z ≡ plain_text digits v
plain_number digits (value.Long m) z is = decimal_of z m is
plain_number digits (value.ULong n) z is = decimal_of z _ is
plain_number digits (value.Short m) z is = decimal_of z m is
plain_number digits (value.UShort n) z is = decimal_of z _ is
plain_number digits (value.UChar n) z is = decimal_of z _ is
plain_number digits (value.Enum n) z is = cc
plain_number digits (value.Int64 m) z is = decimal_of z m is
plain_number digits (value.Double x) z is = cc
plain_number digits (value.Text text) z is = cc

pub shown_elsewhere : (sort : FieldSort) (digits : ℕ) (v : Option Value) (c : Option (List ℕ)) (z : ℤ) → Some z ≡ number_shown v
    → signed_decimal z ≡ text_with sort digits None v c
shown_elsewhere sort digits None c z is = cc
shown_elsewhere sort digits (Some v) c z is =
    plain_number digits v z is ∙ plain_elsewhere sort digits v (λ n e. let none : Some z ≡ None = is ∙ ap (λ (w : Value). number_shown (Some w)) e in cc)
