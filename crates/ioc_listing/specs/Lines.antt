-- The lines of records: NAME VAL STAT SEVR TIME. A space is 32, a line feed 10.
use Rattle.std.specs.Prelude.{◌≡◌, ℕ, List, [], ◌∷◌, ◌++◌}
use Rattle.ioc_fields.specs.declared.field_no.CommonField.TheVariants.{Stat, Sevr}
use Rattle.ioc_fields.specs.declared.field_no.OwnField.TheVariants.{Val}
use Rattle.ioc_fields.specs.declared.field_no.FieldNo.TheVariants.{Common, Own}
use Rattle.ioc_record.specs.RecordRules.{RecordRules}
use Rattle.ioc_record.specs.Values.{text_of}
use Rattle.ioc_commands.specs.Texts.{shown}
use Rattle.ioc_listing.specs.Moments.{IsMoment}

-- What the line of a record has before its time stamp: its name, and VAL, STAT and SEVR as lines show texts.
unfoldable pub front_of : {K : Type 0} → RecordRules K → K → List ℕ
front_of rules r =
    (rules.common r).name ++ 32 ∷ shown (text_of rules r (Own Val)) ++ 32 ∷ shown (text_of rules r (Common Stat)) ++ 32 ∷ shown (text_of rules r (Common Sevr))

-- A space, a time stamp and the end of the line were appended.
unfoldable pub AddsMoment : List ℕ → ℕ → List ℕ → Type 0
AddsMoment old nanoseconds new = (time : List ℕ) × IsMoment nanoseconds time × (new ≡ old ++ 32 ∷ time ++ 10 ∷ [])

-- The line of a record was appended.
abbrev pub AddsLine : {K : Type 0} → RecordRules K → List ℕ → K → List ℕ → Type 0
AddsLine rules old r new = AddsMoment (old ++ front_of rules r) (rules.common r).time new
