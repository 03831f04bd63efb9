-- The fields of the types that read a text. Record Reference Manual, "String Input Record" and
-- "Event Record".
use Rattle.std.proofs.Common.{◌≡◌, [], Option, Some, None, refl}
use Rattle.std.specs.Prelude.{unwrap_or}
use Rattle.ioc_values.specs.declared.value.Value.{Value}
use Rattle.ioc_values.specs.declared.value.Value.TheVariants as value
use Rattle.ioc_values.specs.Conversion.{Texts, of_number}
use Rattle.ioc_links.specs.declared.link.Link.{Link}
use Rattle.ioc_links.specs.declared.link.Link.TheVariants.{Constant, Real}
use Rattle.ioc_fields.specs.declared.field_no.OwnField.{OwnField}
use Rattle.ioc_fields.specs.declared.field_no.OwnField.TheVariants.{Val}
use Rattle.ioc_dbcommon.specs.declared.body.Got.{Got}
use Rattle.ioc_dbcommon.specs.declared.body.Got.TheVariants as got
use Rattle.ioc_dbcommon.specs.Parts.{text_in}
use Rattle.ioc_dbcommon.specs.Source.{new_source}
use Rattle.ioc_record.specs.BodyRules.{BodyState}
use Rattle.rec_text.specs.declared.text_input.TextInput.{TextInput}

-- The fields of a new record, which are empty.
unfoldable pub new_text_input : TextInput
new_text_input = record { value = []; source = new_source }

unfoldable pub text_input_get : TextInput → OwnField → Option Value
text_input_get b Val = Some (value.Text b.value)
text_input_get b _ = None

-- The fields with a converted value stored. VAL clears UDF.
unfoldable pub text_input_stored : BodyState TextInput → OwnField → Value → BodyState TextInput
text_input_stored h Val v = record { body = record h.body { value = unwrap_or (text_in v) h.body.value }; condition = record h.condition { undefined = 0 } }
text_input_stored h _ v = h

-- The fields after the input. A text is stored in VAL and clears UDF; without one, and after a
-- fault, both stay the same.
abbrev pub came : BodyState TextInput → Got → BodyState TextInput
came h (got.Value v) = text_input_stored h Val v
came h _ = h

-- The fields with VAL set to a value, if there is one.
abbrev pub stored_if : BodyState TextInput → Option Value → BodyState TextInput
stored_if h None = h
stored_if h (Some v) = text_input_stored h Val v

-- The text of a constant link: a whole number in decimal, and a real one as it was written.
abbrev pub constant_text : Link → Option Value
constant_text (Constant z) = of_number Texts z
constant_text (Real text) = Some (value.Text text)
constant_text _ = None

-- The fields with a constant INP put into VAL as its text.
abbrev pub constant_put : BodyState TextInput → Link → BodyState TextInput
constant_put h link = stored_if h (constant_text link)

-- ---- Laws: INP stays

pub stored-source : (h : BodyState TextInput) (f : OwnField) (v : Value) → (text_input_stored h f v).body.source ≡ h.body.source
unfolding text_input_stored
stored-source h Val v = refl
stored-source h _ v = refl

pub came-source : (h : BodyState TextInput) (got : Got) → (came h got).body.source ≡ h.body.source
came-source h (got.Value v) = stored-source h Val v
came-source h _ = refl

stored_if-source : (h : BodyState TextInput) (o : Option Value) → (stored_if h o).body.source ≡ h.body.source
stored_if-source h None = refl
stored_if-source h (Some v) = stored-source h Val v

pub put-source : (h : BodyState TextInput) (l : Link) → (constant_put h l).body.source ≡ h.body.source
put-source h l = stored_if-source h (constant_text l)
