-- The type stringin. Record Reference Manual, "String Input Record".
use Rattle.ioc_fields.specs.declared.record_type.RecordType.TheVariants as type
use Rattle.ioc_dbcommon.specs.declared.body.Got.{Got}
use Rattle.ioc_dbcommon.specs.declared.body.Output.TheVariants.{NoOutput}
use Rattle.ioc_dbcommon.specs.Condition.{undefined_tested}
use Rattle.ioc_record.specs.BodyRules.{BodyRules, BodyState}
use Rattle.rec_text.specs.declared.text_input.TextInput.{TextInput}
use Rattle.rec_text.specs.TextInput.{came}
use Rattle.rec_text.specs.declared.text_body.TextBody.{TextBody}
use Rattle.rec_text.specs.TextBody.{TextRules, text_body}
use Rattle.rec_text.specs.declared.stringin.Kept.{Kept}

-- The fields after the input. A text is stored in VAL, and then the alarm of an undefined value is
-- tested.
unfoldable pub stringin_taken : BodyState TextInput → Got → BodyState TextInput
stringin_taken h got = let c = came h got in record c { condition = undefined_tested c.condition }

-- A text that is kept in VAL, and nothing is output.
abbrev pub kept : TextRules Kept
kept = record { kind = record {}; record_type = type.Stringin; taken = stringin_taken; output = λ t. NoOutput }

-- The rules of stringin.
abbrev pub stringin : BodyRules (TextBody Kept)
stringin = text_body kept
