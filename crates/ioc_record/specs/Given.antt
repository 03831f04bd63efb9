-- What is put into a field, and by whom.
use Rattle.std.specs.Prelude.{Result}
use Rattle.ioc_values.specs.declared.error.IocError.{IocError}
use Rattle.ioc_values.specs.declared.input.Input.{Input}
use Rattle.ioc_values.specs.Conversion.{input_of}
use Rattle.ioc_fields.specs.declared.field_no.FieldNo.{FieldNo}
use Rattle.ioc_record.specs.declared.given.Given.{Given}
use Rattle.ioc_record.specs.declared.given.Given.TheVariants.{Value, Text}
use Rattle.ioc_record.specs.declared.given.Putter.{Putter}
use Rattle.ioc_record.specs.declared.given.Putter.TheVariants.{Client, Link}
use Rattle.ioc_record.specs.RecordRules.{RecordRules}
use Rattle.ioc_record.specs.Values.{put_field, put_untested}

-- The value that is given, or the one that a text is.
abbrev pub input_given : Given → Input
input_given (Value v) = v.now
input_given (Text t) = input_of t.now

-- A put by a client, which DISP can keep from it, or by a link.
abbrev pub put_by : {R : Type 0} → RecordRules R → Putter → R → FieldNo → Input → Result R IocError
put_by k Client r field given = put_field k r field given
put_by k Link r field given = put_untested k r field given
