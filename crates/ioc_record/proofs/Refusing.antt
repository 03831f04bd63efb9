-- A text that doesn't convert fails with BadValue.
use Rattle.std.proofs.Common.{◌≡◌, List, ℕ, Bool, true, false, cond, Option, Some, None, Ok, Err, ap, ◌∙◌}
use Rattle.std.specs.Option.{ok_or}
use Rattle.ioc_values.specs.declared.error.IocError.{IocError}
use Rattle.ioc_values.specs.declared.error.IocError.TheVariants.{BadValue}
use Rattle.ioc_values.specs.declared.input.Input.{Input}
use Rattle.ioc_values.specs.declared.input.Input.TheVariants.{Value as InputValue, LongText}
use Rattle.ioc_values.specs.declared.value.Value.{Value}
use Rattle.ioc_values.specs.declared.value.Value.TheVariants.{Long, ULong, Short, UShort, UChar, Enum, Int64, Double, Text}
use Rattle.ioc_values.specs.Conversion.{FieldSort, is_text, converted, converted_input, converted_text, input_of}
use Rattle.ioc_fields.specs.declared.field_no.FieldNo.{FieldNo}
use Rattle.ioc_fields.specs.declared.field_kind.FieldKind.{FieldKind}
use Rattle.ioc_record.specs.RecordRules.{RecordRules}
use Rattle.ioc_record.specs.Values.{field_sort, stored_if, put_as}

-- The error of a missing value is BadValue.
bad_or : (o : Option Value) (e : IocError) → ok_or o BadValue ≡ Err e → e ≡ BadValue
bad_or None e is = cc
bad_or (Some v) e is = absurd cc

bad_value : (v : Value) (sort : FieldSort) (e : IocError) → converted v sort ≡ Err e → e ≡ BadValue
bad_value (Long x) sort e is = bad_or _ e is
bad_value (ULong x) sort e is = bad_or _ e is
bad_value (Short x) sort e is = bad_or _ e is
bad_value (UShort x) sort e is = bad_or _ e is
bad_value (UChar x) sort e is = bad_or _ e is
bad_value (Enum x) sort e is = bad_or _ e is
bad_value (Int64 x) sort e is = bad_or _ e is
bad_value (Double x) sort e is = bad_or _ e is
bad_value (Text x) sort e is = bad_or _ e is

bad_if : (b : Bool) (text : List ℕ) (sort : FieldSort) (e : IocError) → cond b (converted (Text text) sort) (Err BadValue) ≡ Err e → e ≡ BadValue
bad_if true text sort e is = bad_value (Text text) sort e is
bad_if false text sort e is = cc

bad_input : (given : Input) (sort : FieldSort) (e : IocError) → converted_input given sort ≡ Err e → e ≡ BadValue
unfolding converted_input
bad_input (InputValue v) sort e is = bad_value v sort e is
bad_input (LongText text) sort e is = bad_if (is_text sort) text sort e is

-- A text that doesn't convert isn't put.
pub not_put : {R : Type 0} (k : RecordRules R) (r : R) (field : FieldNo) (kind : FieldKind) (text : List ℕ) (e : IocError)
    → converted_text text (field_sort (k.states r) kind) ≡ Err e → put_as k r field (input_of text) (Ok kind) ≡ Err BadValue
unfolding converted_text
not_put k r field kind text e is =
    ap (stored_if k r field) (is ∙ ap Err (bad_input (input_of text) (field_sort (k.states r) kind) e is))
