-- The scan lists of an engine. Application Developer's Guide, "Scanning Specification": scanInit, scanAdd, scanDelete.
use Rattle.std.specs.Prelude.{◌≡◌, List, [], Option}
use Rattle.ioc_record.specs.RecordRules.{RecordRules}
use Rattle.ioc_store.specs.OneMap.{numbered}
use Rattle.ioc_store.specs.World.{World}
use Rattle.ioc_set.specs.Resting.{resting}
use Rattle.ioc_scan.specs.declared.list_name.ListName.{ListName}
use Rattle.ioc_scan.specs.declared.position.Listed.{Listed}
use Rattle.ioc_scan.specs.Scanned.{Scanned}
use Rattle.ioc_scan.specs.Changes.{Change, after_changes}
use Rattle.ioc_scan_rules.specs.Asked.{members_of}
use Rattle.ioc_scan_rules.specs.FirstLists.{first_lists}
use Rattle.ioc_scan_rules.specs.declared.places.Occasion.TheVariants.{Scanning}

module _ {R : Type 0} (k : RecordRules R) (base : World R) where
  -- Holds of the lists of the records of a load, as changes of the records' places have left them since.
  pub record AreListsOf (lists : Scanned) : Type 0 where
    pub records : List R
    pub changes : List Change
    pub world : base ≡ resting (numbered records) [] []
    pub are : lists ≡ after_changes (first_lists k Scanning records) changes

  -- Holds if these are the records of a list of such lists, in order.
  abbrev pub AreMembers : Option ListName → List Listed → Type 0
  AreMembers list walked = (lists : Scanned) × AreListsOf lists × (walked ≡ members_of lists list)
