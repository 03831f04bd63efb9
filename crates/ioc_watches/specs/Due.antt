-- Which line of a watched field is due, by what was told last. Application Developer's Guide, "Channel Access Monitors": DBE_VALUE,
-- DBE_LOG, DBE_ALARM; Record Reference Manual, "Monitor Parameters".
use Rattle.std.specs.Prelude.{◌≡◌, ℕ, ℤ, pos, List, [], ◌∷◌, Bool, true, not, ◌&&◌, nat_eq, int_lt, if◌then◌else◌, Option, Some, None, unwrap_or, to_bits}
use Rattle.std.specs.Cmp.Lexicographic.{pointwise}
use Rattle.std.specs.Float.Ieee.{binary64}
use Rattle.ioc_values.specs.declared.value.Value.{Value}
use Rattle.ioc_values.specs.declared.value.Value.TheVariants as values
use Rattle.ioc_values.specs.Conversion.{number_of_value}
use Rattle.ioc_monitor.specs.Monitors.{is_beyond}
use Rattle.ioc_monitor.specs.declared.posting.Mask.{Mask}
use Rattle.ioc_watches.specs.Content.{IsContent}
use Rattle.ioc_watches.specs.declared.content.FieldShown.{FieldShown}
use Rattle.ioc_watches.specs.declared.content.RecordShown.{RecordShown}
use Rattle.ioc_watches.specs.declared.observed.Observed.{Observed}
use Rattle.ioc_watches.specs.declared.last_told.LastTold.{LastTold}
use Rattle.ioc_watches.specs.declared.rule.Rule.{Rule}
use Rattle.ioc_watches.specs.declared.rule.Rule.TheVariants.{Deadbands, LastPosted, Shown}

-- The whole number of a value, or 0.
abbrev pub whole_of : Option Value → ℤ
whole_of None = pos 0
whole_of (Some held) = unwrap_or (number_of_value held) (pos 0)

-- The number of a choice, or 0.
abbrev pub choice_of : Option Value → ℕ
choice_of (Some (values.Enum number)) = number
choice_of other = 0

-- The bits of a double, or 0.
abbrev pub bits_of : Option Value → ℕ
bits_of (Some (values.Double number)) = to_bits binary64 number
bits_of other = 0

-- The first of the fields that were shown, and the second.
abbrev pub first_of : List FieldShown → Option Value
first_of [] = None
first_of (first ∷ rest) = first.value

abbrev pub second_of : List FieldShown → Option Value
second_of [] = None
second_of (first ∷ rest) = first_of rest

-- What a look has shown of a field, of those beside it and of its record, as the rule of the field goes by it.
pub record IsObserved (is_number : Bool) (field : FieldShown) (others : List FieldShown) (shown : RecordShown) (now : Observed) : Type 0 where
  pub content : IsContent field is_number now.content
  pub moment : now.moment ≡ shown.moment.text
  pub value : now.seen.value ≡ whole_of field.value
  pub status : now.seen.status ≡ choice_of shown.status.value
  pub severity : now.seen.severity ≡ choice_of shown.severity.value
  pub value_band : now.bands.value ≡ whole_of (first_of others)
  pub archive_band : now.bands.archive ≡ whole_of (second_of others)
  pub posted_value : now.posts.value ≡ bits_of (first_of others)
  pub posted_archive : now.posts.archive ≡ bits_of (second_of others)

-- The deadband by which a value is told. One below 0 lets each value through of a record that was processed, and none of another.
abbrev pub band_of : Bool → ℤ → ℤ
band_of was_processed band = if not was_processed && int_lt band (pos 0) then pos 0 else band

-- Whether the record was processed since, as TIME shows.
abbrev pub is_processed : LastTold → Observed → Bool
is_processed told now = not (pointwise nat_eq told.moment now.moment)

-- Whether the value has passed MDEL, and ADEL, since it was told by each.
abbrev pub passes_value : LastTold → Observed → Bool
passes_value told now = is_beyond (band_of (is_processed told now) now.bands.value) told.posted.value now.seen.value

abbrev pub passes_archive : LastTold → Observed → Bool
passes_archive told now = is_beyond (band_of (is_processed told now) now.bands.archive) told.posted.archived now.seen.value

-- Whether STAT or SEVR isn't what was told last.
abbrev pub alarm_changes : LastTold → Observed → Bool
alarm_changes told now = not (nat_eq told.posted.status now.seen.status && nat_eq told.posted.severity now.seen.severity)

-- Whether the value is due by a rule, and the value for archives, if it is so by whole numbers.
abbrev pub value_by : Rule → Bool → LastTold → Observed → Bool
value_by Deadbands by_number told now = by_number
value_by LastPosted by_number told now = not (nat_eq told.posts.value now.posts.value)
value_by Shown by_number told now = not (pointwise nat_eq told.content now.content)

abbrev pub archive_by : Rule → Bool → LastTold → Observed → Bool
archive_by Deadbands by_number told now = by_number
archive_by LastPosted by_number told now = not (nat_eq told.posts.archive now.posts.archive)
archive_by Shown by_number told now = not (pointwise nat_eq told.content now.content)

-- What is due by a rule of a field of which this was told last.
pub record IsMask (rule : Rule) (told : LastTold) (now : Observed) (mask : Mask) : Type 0 where
  pub value : mask.value ≡ value_by rule (passes_value told now) told now
  pub log : mask.log ≡ archive_by rule (passes_archive told now) told now
  pub alarm : mask.alarm ≡ alarm_changes told now

-- All is due.
pub record IsAll (mask : Mask) : Type 0 where
  pub value : mask.value ≡ true
  pub log : mask.log ≡ true
  pub alarm : mask.alarm ≡ true

-- What is due of a field of which this was told last, or nothing yet.
abbrev pub IsDue : Rule → Option LastTold → Observed → Mask → Type 0
IsDue rule None now mask = IsAll mask
IsDue rule (Some told) now mask = IsMask rule told now mask

-- What was told last is what was shown last.
pub record Tells (now : Observed) (told : LastTold) : Type 0 where
  pub content : told.content ≡ now.content
  pub moment : told.moment ≡ now.moment
  pub posts : told.posts ≡ now.posts
  pub status : told.posted.status ≡ now.seen.status
  pub severity : told.posted.severity ≡ now.seen.severity

-- The whole numbers that were told last become those that are told now, and stay where none is.
pub record KeepsNumbers (old : LastTold) (now : Observed) (new : LastTold) : Type 0 where
  pub value : new.posted.value ≡ if passes_value old now then now.seen.value else old.posted.value
  pub archived : new.posted.archived ≡ if passes_archive old now then now.seen.value else old.posted.archived

-- Those of the first line are told whatever they are.
abbrev pub TellsNumbers : Option LastTold → Observed → LastTold → Type 0
TellsNumbers None now new = (new.posted.value ≡ now.seen.value) × (new.posted.archived ≡ now.seen.value)
TellsNumbers (Some old) now new = KeepsNumbers old now new
