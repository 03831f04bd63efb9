-- Instants as texts.
use Rattle.std.specs.Prelude.{◌≡◌, ℕ, pos, List, ◌++◌, Some, false}
use Rattle.jiff_core.specs.declared.civil.datetime.DateTime.{DateTime}
use Rattle.jiff_core.specs.DateTime.{civil_nanos}
use Rattle.jiff_fmt.specs.Text.{datetime_text, zulu_text}

-- The text of the instant that is so many nanoseconds after 1970-01-01 00:00 UTC: its date and time in UTC, with nine digits of
-- the second's fraction.
abbrev pub IsMoment : ℕ → List ℕ → Type 0
IsMoment nanoseconds text =
    (shown : DateTime) × (civil_nanos shown ≡ pos nanoseconds) × (text ≡ datetime_text false 84 (Some 9) shown ++ zulu_text false)
