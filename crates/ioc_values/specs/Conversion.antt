-- The conversion of a value to what a field holds. Record Reference Manual, "Fields: data types";
-- Application Developer's Guide, "Database Access: conversion of field types".
use Rattle.std.specs.Prelude.{ℕ, ◌^◌, Bool, true, false, List, map, ℤ, pos, negsuc, Option, Some, None, option_map, Result, Err, length, take, position, min, nat_eq, nat_lt, nat_le, if◌then◌else◌}
use Rattle.std.specs.Fmt.{signed_decimal}
use Rattle.std.specs.Float.Ieee.{Float, binary64, of_int}
use Rattle.std.specs.Option.{ok_or, option_and_then}
use Rattle.std.specs.Cmp.Lexicographic.{pointwise}
use Rattle.ioc_double.specs.Whole.{whole_of}
use Rattle.ioc_double.specs.Text.{text_of_double}
use Rattle.ioc_double.specs.Spelled.{double_of_text}
use Rattle.ioc_values.specs.declared.error.IocError.{IocError}
use Rattle.ioc_values.specs.declared.error.IocError.TheVariants.{BadValue}
use Rattle.ioc_values.specs.declared.input.Input.{Input}
use Rattle.ioc_values.specs.declared.input.Input.TheVariants.{Value as InputValue, LongText}
use Rattle.ioc_values.specs.declared.kind.Kind.{Kind}
use Rattle.ioc_values.specs.declared.kind.Kind.TheVariants.{Number as NumberField, Double as DoubleField, Text as TextField, Menu as MenuField, State as StateField}
use Rattle.ioc_values.specs.declared.kind.Range.{Range}
use Rattle.ioc_values.specs.declared.kind.Range.TheVariants.{Long as LongRange, ULong as ULongRange, Short as ShortRange, UShort as UShortRange, UChar as UCharRange, Enum as EnumRange, Int64 as Int64Range, Zero as ZeroRange, Bits as BitsRange, Digits as DigitsRange}
use Rattle.ioc_values.specs.declared.value.Value.{Value}
use Rattle.ioc_values.specs.declared.value.Value.TheVariants.{Long, ULong, Short, UShort, UChar, Enum, Int64, Double, Text}
use Rattle.ioc_values.specs.Number.{is_within, number_of}

-- The whole number of a value; a double and a text have none.
abbrev pub number_of_value : Value → Option ℤ
number_of_value (Long z) = Some z
number_of_value (ULong n) = Some (pos n)
number_of_value (Short z) = Some z
number_of_value (UShort n) = Some (pos n)
number_of_value (UChar n) = Some (pos n)
number_of_value (Enum n) = Some (pos n)
number_of_value (Int64 z) = Some z
number_of_value (Double x) = None
number_of_value (Text text) = None

-- The value of a number from -limit to limit - 1.
abbrev pub signed_value : ℕ → (ℤ → Value) → ℤ → Option Value
signed_value limit made z = if is_within limit z then Some (made z) else None

-- The value of a number from 0 to limit - 1.
abbrev pub unsigned_value : ℕ → (ℕ → Value) → ℤ → Option Value
unsigned_value limit made (pos n) = if nat_lt n limit then Some (made n) else None
unsigned_value limit made (negsuc n) = None

-- The number as a value of the range, if it is in range.
unfoldable pub value_in : Range → ℤ → Option Value
value_in LongRange z = signed_value (2 ^ 31) Long z
value_in ULongRange z = unsigned_value (2 ^ 32) ULong z
value_in ShortRange z = signed_value (2 ^ 15) Short z
value_in UShortRange z = unsigned_value (2 ^ 16) UShort z
value_in UCharRange z = unsigned_value (2 ^ 8) UChar z
value_in EnumRange z = unsigned_value (2 ^ 16) Enum z
value_in Int64Range z = signed_value (2 ^ 63) Int64 z
value_in ZeroRange z = unsigned_value 1 (λ n. Short (pos n)) z
value_in BitsRange z = unsigned_value 33 UShort z
value_in DigitsRange z = unsigned_value 16 UShort z

-- The choice or state with this number, of `count` of them; none has a number above 65535.
unfoldable pub numbered : ℕ → ℤ → Option Value
numbered count z = unsigned_value (min count (2 ^ 16)) Enum z

-- The number of the first choice or state with exactly this text.
abbrev pub same_text : List (List ℕ) → List ℕ → Option ℕ
same_text texts text = position (λ t. pointwise nat_eq t text) texts

-- The number of the first state with exactly this text; an empty text names none.
abbrev pub state_of : List (List ℕ) → List ℕ → Option ℕ
state_of states text = if nat_eq (length text) 0 then None else same_text states text

-- The choice or state that was found by its text, or else the one whose number the text spells.
abbrev pub found_or_numbered : ℕ → Option ℕ → List ℕ → Option Value
found_or_numbered count (Some n) text = value_in EnumRange (pos n)
found_or_numbered count None text = option_and_then (numbered count) (number_of text)

-- What a field can hold, with the texts of its choices.
pub data FieldSort : Type 0 where
  Numbers : Range → FieldSort
  Doubles : FieldSort
  Texts : FieldSort
  Choices : List (List ℕ) → FieldSort
  States : List (List ℕ) → FieldSort

-- The sort of a kind, with its texts as lists of bytes.
unfoldable pub sort_of : Kind → FieldSort
sort_of (NumberField range) = Numbers range
sort_of DoubleField = Doubles
sort_of TextField = Texts
sort_of (MenuField choices) = Choices (map (λ c. c.now) choices.now)
sort_of (StateField states) = States states.now

-- Whether the field holds a text.
abbrev pub is_text : FieldSort → Bool
is_text Texts = true
is_text _ = false

-- A whole number converted to what the field holds. A double is the nearest one, ties to even.
unfoldable pub of_number : FieldSort → ℤ → Option Value
of_number (Numbers range) z = value_in range z
of_number Doubles z = Some (Double (of_int binary64 z))
of_number Texts z = Some (Text (signed_decimal z))
of_number (Choices texts) z = numbered (length texts) z
of_number (States texts) z = value_in EnumRange z

-- The text of a double where no PREC says how many digits it has, as when a link puts it into a text field: six digits
-- behind the point.
unfoldable pub double_text : Float → List ℕ
double_text x = text_of_double x 6

-- A double converted to what the field holds: a number, a choice and a state take it without its fraction, which NaN and
-- the infinities don't have.
unfoldable pub of_double : FieldSort → Float → Option Value
of_double (Numbers range) x = option_and_then (value_in range) (whole_of x)
of_double Doubles x = Some (Double x)
of_double Texts x = Some (Text (double_text x))
of_double (Choices texts) x = option_and_then (numbered (length texts)) (whole_of x)
of_double (States texts) x = option_and_then (value_in EnumRange) (whole_of x)

-- A text converted to what the field holds.
unfoldable pub of_text : FieldSort → List ℕ → Option Value
of_text (Numbers range) text = option_and_then (value_in range) (number_of text)
of_text Doubles text = option_map Double (double_of_text text)
of_text Texts text = Some (Text text)
of_text (Choices texts) text = found_or_numbered (length texts) (same_text texts text) text
of_text (States texts) text = found_or_numbered (length texts) (state_of texts text) text

-- A value converted to what the field holds.
abbrev pub converted : Value → FieldSort → Result Value IocError
converted (Long z) sort = ok_or (of_number sort z) BadValue
converted (ULong n) sort = ok_or (of_number sort (pos n)) BadValue
converted (Short z) sort = ok_or (of_number sort z) BadValue
converted (UShort n) sort = ok_or (of_number sort (pos n)) BadValue
converted (UChar n) sort = ok_or (of_number sort (pos n)) BadValue
converted (Enum n) sort = ok_or (of_number sort (pos n)) BadValue
converted (Int64 z) sort = ok_or (of_number sort z) BadValue
converted (Double x) sort = ok_or (of_double sort x) BadValue
converted (Text text) sort = ok_or (of_text sort text) BadValue

-- A text from a script or a database as an input; if it has more than 39 bytes, the first 39,
-- marked as cut.
unfoldable pub input_of : List ℕ → Input
input_of text = if nat_le (length text) 39 then InputValue (Text (take 39 text)) else LongText (take 39 text)

-- An input converted to what the field holds; a cut text only fits a text field.
unfoldable pub converted_input : Input → FieldSort → Result Value IocError
converted_input (InputValue value) sort = converted value sort
converted_input (LongText text) sort = if is_text sort then converted (Text text) sort else Err BadValue

-- A text from a script or a database converted to what the field holds.
unfoldable pub converted_text : List ℕ → FieldSort → Result Value IocError
converted_text text sort = converted_input (input_of text) sort
