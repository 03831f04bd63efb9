-- Changes of records' places, in the order of arrival.
use Rattle.std.specs.Prelude.{◌≡◌, ℕ, ◌<◌, ◌≤◌, Option, List, [], ◌∷◌, length, All}
use Rattle.ioc_scan.specs.declared.list_name.Placement.{Placement}
use Rattle.ioc_scan.specs.Positions.{entry_of}
use Rattle.ioc_scan.specs.Scanned.{Scanned, changed, place_of}

-- A change of one record, with its number among the changes of that record.
pub record Change : Type 0 where
  pub member : ℕ
  pub number : ℕ
  pub place : Option Placement

-- The lists after these changes, in the order of arrival.
abbrev pub after_changes : Scanned → List Change → Scanned
after_changes s [] = s
after_changes s (c ∷ cs) = after_changes (changed s c.member c.number c.place) cs

-- Holds if no change of the same record has a higher number, and no later one has the same number.
abbrev pub IsHighest : Scanned → List Change → Change → List Change → Type 0
IsHighest s earlier c later =
    ((entry_of s.entries c.member).number ≤ c.number)
    × All (λ e. e.member ≡ c.member → e.number ≤ c.number) earlier
    × All (λ e. e.member ≡ c.member → e.number < c.number) later

-- Holds if the record is where the change with its highest number puts it.
abbrev pub StandsAsTheHighestSays : Scanned → List Change → Change → List Change → Type 0
StandsAsTheHighestSays s earlier c later =
    c.member < length s.entries → IsHighest s earlier c later → place_of (after_changes (changed (after_changes s earlier) c.member c.number c.place) later) c.member ≡ c.place
