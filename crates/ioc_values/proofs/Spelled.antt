-- Texts from a script or a database, converted for fields.
use Rattle.std.proofs.Common.{◌≡◌, ℕ, ℤ, ◌≤◌, ◌<◌, List, length, take, true, false, Option, None, Ok, Err, refl, sym, ap, ◌∙◌}
use Rattle.std.specs.Option.{ok_or, option_and_then}
use Rattle.std.proofs.lemmas.List.{take_all}
use Rattle.std.proofs.lemmas.Bool.{le-leb, lt-leb}
use Rattle.ioc_values.specs.declared.error.IocError.TheVariants.{BadValue}
use Rattle.ioc_values.specs.declared.value.Value.TheVariants.{Text}
use Rattle.ioc_values.specs.declared.kind.Range.{Range}
use Rattle.ioc_values.specs.Number.{number_of, within_i64}
use Rattle.ioc_values.specs.Conversion.{FieldSort, Numbers, Doubles, Texts, Choices, States, is_text, of_text, value_in, input_of, converted_input, converted_text}
use Rattle.ioc_values.proofs.Wide.{value_of_wide}

-- A text of at most 39 bytes converts as a text value.
pub short_spelled : (text : List ℕ) (sort : FieldSort) → length text ≤ 39 → ok_or (of_text sort text) BadValue ≡ converted_text text sort
unfolding converted_text converted_input input_of
short_spelled text sort h = rw (le-leb (length text) 39 h, take_all 39 text h) refl

-- A longer text is cut for a text field.
pub long_spelled : (text : List ℕ) (sort : FieldSort) → 39 < length text → is_text sort ≡ true → Ok (Text (take 39 text)) ≡ converted_text text sort
unfolding converted_text converted_input input_of of_text
long_spelled text (Numbers range) h is = absurd cc
long_spelled text Doubles h is = absurd cc
long_spelled text Texts h is = rw (lt-leb (length text) 39 h) refl
long_spelled text (Choices texts) h is = absurd cc
long_spelled text (States texts) h is = absurd cc

-- A longer text doesn't convert for any other field.
pub long_refused : (text : List ℕ) (sort : FieldSort) → 39 < length text → is_text sort ≡ false → Err BadValue ≡ converted_text text sort
unfolding converted_text converted_input input_of
long_refused text sort h is = rw (lt-leb (length text) 39 h, is) refl

-- A number that doesn't fit 64 bits is in no range.
number_kept : (text : List ℕ) (range : Range) → length text ≤ 39 → ok_or (option_and_then (value_in range) (within_i64 (number_of text))) BadValue ≡ converted_text text (Numbers range)
unfolding of_text
number_kept text range h = ap (λ o. ok_or o BadValue) (sym (value_of_wide range (number_of text))) ∙ short_spelled text (Numbers range) h

-- For a numeric field, a text of at most 39 bytes converts as the number that it spells.
pub number_spelled : (text : List ℕ) (o : Option ℤ) → length text ≤ 39 → o ≡ within_i64 (number_of text) → (range : Range) → ok_or (option_and_then (value_in range) o) BadValue ≡ converted_text text (Numbers range)
number_spelled text o h is range = ap (λ o. ok_or (option_and_then (value_in range) o) BadValue) is ∙ number_kept text range h

-- A text of more than 39 bytes doesn't convert for a numeric field.
pub long_no_number : (text : List ℕ) → 39 < length text → (range : Range) → ok_or (option_and_then (value_in range) None) BadValue ≡ converted_text text (Numbers range)
long_no_number text h range = long_refused text (Numbers range) h refl
