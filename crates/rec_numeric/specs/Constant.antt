-- A constant link that is put into VAL at the end of a load. `stored` stores a converted value.
use Rattle.std.specs.Prelude.{Option, Some, None}
use Rattle.ioc_values.specs.declared.kind.Range.{Range}
use Rattle.ioc_values.specs.declared.value.Value.{Value}
use Rattle.ioc_values.specs.Conversion.{Numbers, of_number}
use Rattle.ioc_links.specs.declared.link.Link.{Link}
use Rattle.ioc_links.specs.declared.link.Link.TheVariants.{Constant}
use Rattle.ioc_fields.specs.declared.field_no.OwnField.{OwnField}
use Rattle.ioc_fields.specs.declared.field_no.OwnField.TheVariants.{Val}
use Rattle.ioc_record.specs.BodyRules.{BodyState}

-- The body with VAL set to a value, if there is one.
abbrev pub stored_if : {B : Type 0} → (BodyState B → OwnField → Value → BodyState B) → BodyState B → Option Value → BodyState B
stored_if stored h None = h
stored_if stored h (Some v) = stored h Val v

-- The body with a constant put into VAL, if it is a number in the range.
abbrev pub constant_put : {B : Type 0} → (BodyState B → OwnField → Value → BodyState B) → Range → BodyState B → Link → BodyState B
constant_put stored range h (Constant z) = stored_if stored h (of_number (Numbers range) z)
constant_put stored range h _ = h

-- The body after the end of a load: a constant link is put into VAL, and then LALM becomes VAL,
-- which `settle` does.
abbrev pub constant_loaded : {B : Type 0} → (BodyState B → OwnField → Value → BodyState B) → (B → B) → Range → BodyState B → Link → BodyState B
constant_loaded stored settle range h link = let p = constant_put stored range h link in record p { body = settle p.body }
