-- By what a watched field tells of a change: VAL of records with deadbands by them, and each other field by what is shown of it.
-- Record Reference Manual, "Monitor Parameters".
use Rattle.std.specs.Prelude.{List, [], ◌∷◌}
use Rattle.ioc_fields.specs.declared.field_no.FieldNo.{FieldNo}
use Rattle.ioc_fields.specs.declared.field_no.FieldNo.TheVariants.{Own}
use Rattle.ioc_fields.specs.declared.field_no.OwnField.TheVariants.{Val, Mdel, Adel, Mlst, Alst}
use Rattle.ioc_fields.specs.declared.record_type.RecordType.{RecordType}
use Rattle.ioc_fields.specs.declared.record_type.RecordType.TheVariants.{Longin, Longout, Int64in, Int64out, Ai, Ao, Calc, Calcout, Sel}
use Rattle.ioc_watches.specs.declared.rule.Rule.{Rule}
use Rattle.ioc_watches.specs.declared.rule.Rule.TheVariants.{Deadbands, LastPosted, Shown}

-- The rule of VAL of a type: by MDEL and ADEL of whole numbers, and by MLST and ALST of doubles.
abbrev pub rule_of_value : RecordType → Rule
rule_of_value Longin = Deadbands
rule_of_value Longout = Deadbands
rule_of_value Int64in = Deadbands
rule_of_value Int64out = Deadbands
rule_of_value Ai = LastPosted
rule_of_value Ao = LastPosted
rule_of_value Calc = LastPosted
rule_of_value Calcout = LastPosted
rule_of_value Sel = LastPosted
rule_of_value other = Shown

abbrev pub rule_of : RecordType → FieldNo → Rule
rule_of record-type (Own Val) = rule_of_value record-type
rule_of record-type other = Shown

-- The fields that a rule goes by beside the watched one.
abbrev pub fields_of : Rule → List FieldNo
fields_of Deadbands = Own Mdel ∷ Own Adel ∷ []
fields_of LastPosted = Own Mlst ∷ Own Alst ∷ []
fields_of Shown = []
