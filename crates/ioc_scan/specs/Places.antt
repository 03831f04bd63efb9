-- The scan list that a record is on. Record Reference Manual, "Scan Fields"; Application
-- Developer's Guide, "Scanning Specification".
use Rattle.std.specs.Prelude.{ℕ, false, true, List, [], ◌∷◌, Option, Some, None, length, ◌==◌, ◌||◌, nat_eq, nat_lt, if◌then◌else◌}
use Rattle.std.specs.Cmp.Lexicographic.{pointwise}
use Rattle.ioc_values.specs.Trim.{is_blank, trimmed}
use Rattle.ioc_menus.specs.declared.scan.Scan.{Scan}
use Rattle.ioc_menus.specs.declared.scan.Scan.TheVariants as scan
use Rattle.ioc_scan.specs.declared.period.Period.{Period}

-- A period of this many tenths of a second.
abbrev pub every : ℕ → Option Period
every ticks = Some (record { ticks = ticks })

-- The period of a choice of SCAN.
abbrev pub period_of : Scan → Option Period
period_of scan.Passive = None
period_of scan.Event = None
period_of scan.IoIntr = None
period_of scan.TenSeconds = every 100
period_of scan.FiveSeconds = every 50
period_of scan.TwoSeconds = every 20
period_of scan.OneSecond = every 10
period_of scan.HalfSecond = every 5
period_of scan.FifthSecond = every 2
period_of scan.TenthSecond = every 1

-- The name of an event, without the spaces at its ends; an empty name and 0 name no event.
abbrev pub event_word : List ℕ → Option (List ℕ)
event_word name =
    let word = trimmed (is_blank false) name in
    if (length word == 0) || pointwise nat_eq word (48 ∷ []) then None else Some word

-- The word of these bytes, unless there are more than a device link's word can have.
abbrev pub given_word : List ℕ → Option (List ℕ)
given_word word = if nat_lt 119 (length word) then None else Some word

-- The bytes before the first space or tab.
abbrev pub first_word : List ℕ → List ℕ
first_word [] = []
first_word (b ∷ bs) = if is_blank true b then [] else b ∷ first_word bs
