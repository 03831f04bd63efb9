-- The scan list that a record is on. Record Reference Manual, "Scan Fields"; Application
-- Developer's Guide, "Scanning Specification".
use Rattle.std.specs.Prelude.{ℕ, List, Option, None, option_map}
use Rattle.ioc_menus.specs.declared.scan.Scan.{Scan}
use Rattle.ioc_menus.specs.declared.scan.Scan.TheVariants as scan
use Rattle.ioc_scan.specs.declared.list_name.ListName.{ListName}
use Rattle.ioc_scan.specs.declared.list_name.ListName.TheVariants.{Period, Event, Interrupt}
use Rattle.ioc_scan.specs.Places.{period_of, event_word, first_word}

-- The list of a record by its SCAN, its EVNT, and the text of its device link, if it has one.
abbrev pub list_of : Scan → List ℕ → Option (List ℕ) → Option ListName
list_of scan.Passive event device = None
list_of scan.Event event device = option_map (λ word. Event word) (event_word event)
list_of scan.IoIntr event device = option_map (λ text. Interrupt (first_word text)) device
list_of choice event device = option_map (λ period. Period period) (period_of choice)
