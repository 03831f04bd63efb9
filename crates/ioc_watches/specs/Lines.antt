-- The line that tells a watched field: `! WORD MASK STAT SEVR TIME VALUE`. A space is 32, a line feed 10.
use Rattle.std.specs.Prelude.{◌≡◌, ℕ, List, [], ◌∷◌, ◌++◌, codes, Bool, ◌||◌, if◌then◌else◌, Option}
use Rattle.ioc_commands.specs.Texts.{escaped}
use Rattle.ioc_monitor.specs.declared.posting.Mask.{Mask}
use Rattle.ioc_watches.specs.declared.content.RecordShown.{RecordShown}
use Rattle.ioc_watches.specs.declared.observed.Observed.{Observed}
use Rattle.ioc_watches.specs.declared.last_told.LastTold.{LastTold}
use Rattle.ioc_watches.specs.declared.rule.Rule.{Rule}
use Rattle.ioc_watches.specs.Due.{IsDue}

-- A letter, if it is said.
abbrev pub letter : Bool → ℕ → List ℕ
letter is_said byte = if is_said then byte ∷ [] else []

-- The letters of a mask: v, l and a.
abbrev pub letters : Mask → List ℕ
letters mask = letter mask.value 118 ++ letter mask.log 108 ++ letter mask.alarm 97

-- The word that watches, and why the line is written.
unfoldable pub front_of : List ℕ → Mask → List ℕ
front_of word mask = codes "! " ++ word ++ 32 ∷ letters mask

-- STAT, SEVR and TIME of the record.
unfoldable pub middle_of : RecordShown → List ℕ
middle_of shown = 32 ∷ shown.status.text ++ 32 ∷ shown.severity.text ++ 32 ∷ shown.moment.text

-- VALUE with escapes, and the end of the line.
unfoldable pub end_of : List ℕ → List ℕ
end_of content = 32 ∷ escaped content ++ 10 ∷ []

unfoldable pub line_of : List ℕ → Mask → RecordShown → List ℕ → List ℕ
line_of word mask shown content = front_of word mask ++ middle_of shown ++ end_of content

-- Whether a line is due.
abbrev pub is_due : Mask → Bool
is_due mask = mask.value || (mask.log || mask.alarm)

-- The line that is due, if one is.
abbrev pub line_due : List ℕ → Mask → RecordShown → List ℕ → List ℕ
line_due word mask shown content = if is_due mask then line_of word mask shown content else []

-- The line of what is shown now was appended, if one is due by what was told last.
abbrev pub AddsDue : Rule → Option LastTold → List ℕ → RecordShown → Observed → List ℕ → List ℕ → Type 0
AddsDue rule told word shown now old new = (mask : Mask) × IsDue rule told now mask × (new ≡ old ++ line_due word mask shown now.content)
