-- Where a record is on the scan lists. Application Developer's Guide, "Scanning Specification":
-- scanAdd, and records with PINI.
use Rattle.std.specs.Prelude.{ℕ, ◌==◌, if◌then◌else◌, List, length, option_map, Option, Some}
use Rattle.std.specs.Prelude.{None as Nothing_}
use Rattle.ioc_menus.specs.declared.pini.Pini.{Pini}
use Rattle.ioc_menus.specs.declared.pini.Pini.TheVariants.{Yes, No}
use Rattle.ioc_scan.specs.declared.list_name.ListName.TheVariants.{Start}
use Rattle.ioc_scan.specs.declared.list_name.Placement.{Placement}
use Rattle.ioc_scan.specs.Lists.{list_of}
use Rattle.ioc_dbcommon.specs.declared.scanning.Scanning.{Scanning}
use Rattle.ioc_record.specs.RecordRules.{RecordRules}
use Rattle.ioc_store.specs.Scanning.{device_of}
use Rattle.ioc_scan_rules.specs.declared.places.Occasion.{Occasion}
use Rattle.ioc_scan_rules.specs.declared.places.Occasion.TheVariants.{Scanning as When-scanned, Starting as When-starting}

-- The text of a device link, or none if it is empty.
abbrev pub device_link : List ℕ → Option (List ℕ)
device_link text = if length text == 0 then Nothing_ else Some text

-- The place of a record by SCAN, PHAS, EVNT and PRIO, and the text of its device link.
abbrev pub place_by : Scanning → List ℕ → Option Placement
place_by s device =
    option_map (λ list. record { list = list; phase = s.phase; priority = s.priority }) (list_of s.scan s.event (device_link device))

-- The place of a record with this PINI on the list of those that are processed once at the start.
abbrev pub start_place : Scanning → Pini → Option Placement
start_place s Yes = Some (record { list = Start; phase = s.phase; priority = s.priority })
start_place s No = Nothing_

module _ {R : Type 0} (k : RecordRules R) where
  -- The place of a record on a list for an occasion.
  abbrev pub place_of : Occasion → R → Option Placement
  place_of When-scanned r = place_by (k.common r).scanning (device_of k r)
  place_of When-starting r = start_place (k.common r).scanning (k.common r).scanning.at_start
