-- If no record has PINI, none is processed at the start.
use Rattle.std.proofs.Common.{◌≡◌, ℕ, ◌+◌, zero, suc, Bool, true, false, ◌||◌, List, [], ◌∷◌, length, replicate, Option, Some, refl, sym, ap, ◌∙◌}
use Rattle.std.proofs.Common.{None as Nothing_}
use Rattle.std.specs.Prelude.{is_some}
use Rattle.std.specs.List.{list_any}
use Rattle.std.specs.FinMap.{empty, entries, from_entries, len-entries, len-empty}
use Rattle.std.specs.declared.cmp.Ordering.{Ordering}
use Rattle.std.proofs.lemmas.List.{nil_from_length}
use Rattle.ioc_scan.specs.contracts.position.PositionOrd.TheImpl as order_of
use Rattle.ioc_scan.specs.Standing.{standing}
use Rattle.ioc_scan.specs.declared.list_name.ListName.TheVariants.{Start}
use Rattle.ioc_scan.specs.declared.list_name.Placement.{Placement}
use Rattle.ioc_scan.specs.declared.position.Position.{Position}
use Rattle.ioc_scan.specs.declared.position.Listed.{Listed}
use Rattle.ioc_scan.specs.Positions.{new_entry}
use Rattle.ioc_scan.specs.Scanned.{Scanned, new_lists}
use Rattle.ioc_scan.specs.Walked.{all_standing, walked}
use Rattle.ioc_record.specs.RecordRules.{RecordRules}
use Rattle.ioc_scan_rules.specs.declared.places.Occasion.TheVariants.{Starting as When-starting}
use Rattle.ioc_scan_rules.specs.Places.{place_of}
use Rattle.ioc_scan_rules.specs.FirstLists.{added, with_each, first_lists, is_starter, starters}

-- New entries are on no list.
none_stand : (count n : ℕ) → all_standing n (replicate count new_entry) ≡ []
none_stand zero n = refl
none_stand (suc count) n = none_stand count (1 + n)

-- An empty map has no entries.
none_entered : {K X : Type 0} (R : K → K → Ordering) → entries (empty {X = X} {R = R}) ≡ []
none_entered {X = X} R = nil_from_length _ (sym (len-entries empty) ∙ len-empty R X)

-- The list of new lists is empty.
none_walked : (count : ℕ) → walked (new_lists count) Start ≡ []
unfolding walked
none_walked count =
    ap (λ (es : List (Position × Listed)). standing Start (entries (from_entries {R = order_of.ghosts.cmp} es))) (none_stand count 0)
    ∙ ap (standing Start) (none_entered {X = Listed} order_of.ghosts.cmp)

unmoved : (s : Scanned) (n : ℕ) (place : Option Placement) → is_some place ≡ false → added s n place ≡ s
unmoved s n Nothing_ is = refl
unmoved s n (Some place) is = absurd cc

pub first_none : (a b : Bool) → (a || b) ≡ false → a ≡ false
first_none true b is = absurd cc
first_none false b is = refl

pub others_none : (a b : Bool) → (a || b) ≡ false → b ≡ false
others_none true b is = absurd cc
others_none false b is = is

module _ {R : Type 0} (k : RecordRules R) where
  none_added : (records : List R) (s : Scanned) (n : ℕ) → list_any (is_starter k) records ≡ false
      → with_each k When-starting s n records ≡ s
  none_added [] s n is = refl
  none_added (r ∷ rs) s n is =
      rw (unmoved s n (place_of k When-starting r) (first_none (is_starter k r) (list_any (is_starter k) rs) is))
      (none_added rs s (1 + n) (others_none (is_starter k r) (list_any (is_starter k) rs) is))

  pub none_starts : (records : List R) → list_any (is_starter k) records ≡ false → starters k records ≡ []
  unfolding starters first_lists
  none_starts records is = rw (none_added records (new_lists (length records)) 0 is) (none_walked (length records))
