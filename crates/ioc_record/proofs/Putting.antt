-- Storing a number that a text spells.
use Rattle.std.proofs.Common.{◌≡◌, ℤ, List, ℕ, Option, Some, None, true, false, is_some, Ok, Err, refl, sym, ap, ◌∙◌}
use Rattle.std.specs.Option.{ok_or, option_and_then}
use Rattle.ioc_values.specs.declared.error.IocError.TheVariants.{BadValue}
use Rattle.ioc_values.specs.declared.kind.Range.{Range}
use Rattle.ioc_values.specs.declared.value.Value.{Value}
use Rattle.ioc_values.specs.Conversion.{Numbers, value_in, input_of, converted_text}
use Rattle.ioc_fields.specs.declared.field_no.FieldNo.{FieldNo}
use Rattle.ioc_fields.specs.declared.field_kind.FieldKind.TheVariants.{Number}
use Rattle.ioc_record.specs.RecordRules.{RecordRules, number_stored}
use Rattle.ioc_record.specs.Values.{field_sort, stored_if, put_as}

-- Holds if the text spells the number, for any range.
abbrev pub Spells : List ℕ → Option ℤ → Type 0
Spells text o = (range : Range) → ok_or (option_and_then (value_in range) o) BadValue ≡ converted_text text (Numbers range)

module _ {R : Type 0} (k : RecordRules R) where
  put_is : (r : R) (field : FieldNo) (range : Range) (text : List ℕ) (o : Option ℤ) → Spells text o
      → put_as k r field (input_of text) (Ok (Number range)) ≡ stored_if k r field (ok_or (option_and_then (value_in range) o) BadValue)
  unfolding field_sort converted_text
  put_is r field range text o spells = ap (stored_if k r field) (sym (spells range))

  kept : (r after : R) (field : FieldNo) (v : Option Value) → is_some v ≡ true → after ≡ number_stored k r field v → stored_if k r field (ok_or v BadValue) ≡ Ok after
  kept r after field None is e = absurd cc
  kept r after field (Some v) is e = ap Ok (sym e)

  left : (r : R) (field : FieldNo) (v : Option Value) → is_some v ≡ false → stored_if k r field (ok_or v BadValue) ≡ Err BadValue
  left r field None is = refl
  left r field (Some v) is = absurd cc

  unchanged : (r after : R) (field : FieldNo) (v : Option Value) → is_some v ≡ false → after ≡ number_stored k r field v → after ≡ r
  unchanged r after field None is e = e
  unchanged r after field (Some v) is e = absurd cc

  -- A number in range is stored.
  pub number_put : (r after : R) (field : FieldNo) (range : Range) (text : List ℕ) (o : Option ℤ) (z : ℤ) → Spells text o → o ≡ Some z → is_some (value_in range z) ≡ true
      → after ≡ number_stored k r field (value_in range z) → put_as k r field (input_of text) (Ok (Number range)) ≡ Ok after
  number_put r after field range text o z spells read is e =
      put_is r field range text o spells ∙ ap (λ x. stored_if k r field (ok_or (option_and_then (value_in range) x) BadValue)) read ∙ kept r after field (value_in range z) is e

  -- A number out of range isn't stored.
  pub number_left : (r : R) (field : FieldNo) (range : Range) (text : List ℕ) (o : Option ℤ) (z : ℤ) → Spells text o → o ≡ Some z → is_some (value_in range z) ≡ false
      → put_as k r field (input_of text) (Ok (Number range)) ≡ Err BadValue
  number_left r field range text o z spells read is =
      put_is r field range text o spells ∙ ap (λ x. stored_if k r field (ok_or (option_and_then (value_in range) x) BadValue)) read ∙ left r field (value_in range z) is

  pub number_unchanged : (r after : R) (field : FieldNo) (range : Range) (z : ℤ) → is_some (value_in range z) ≡ false → after ≡ number_stored k r field (value_in range z) → after ≡ r
  number_unchanged r after field range z is e = unchanged r after field (value_in range z) is e

  -- A text that spells no number isn't stored.
  pub none_put : (r : R) (field : FieldNo) (range : Range) (text : List ℕ) → Spells text None → put_as k r field (input_of text) (Ok (Number range)) ≡ Err BadValue
  none_put r field range text spells = put_is r field range text None spells
