-- The tree of list members, and how it corresponds to the records' entries.
use Rattle.std.specs.Prelude.{◌≡◌, ℕ, ◌<◌, ◌≤◌, ◌^◌, ℤ, pos, negsuc, ◌≤ℤ◌, Bool, false, Option, Some, None, option_map, List}
use Rattle.std.specs.Ordering.{eq_by_cmp}
use Rattle.std.specs.BTreeMap.{BTreeMap, get}
use Rattle.ioc_scan.specs.contracts.position.PositionOrd.TheImpl as order_of
use Rattle.ioc_scan.specs.declared.list_name.ListName.{ListName}
use Rattle.ioc_scan.specs.declared.list_name.Placement.{Placement}
use Rattle.ioc_scan.specs.declared.position.Position.{Position}
use Rattle.ioc_scan.specs.declared.position.Listed.{Listed}
use Rattle.ioc_scan.specs.declared.position.ListEntry.{ListEntry}
use Rattle.ioc_scan.specs.Positions.{position, listed, entry_of}

-- Whether this is the position of a record with this place.
abbrev pub is_at_place : Option Placement → ℕ → Position → Bool
is_at_place None order k = false
is_at_place (Some p) order k = eq_by_cmp order_of.ghosts.cmp (position p order) k

-- The list member for a record at this place.
abbrev pub listed_at : ℕ → Option Placement → Option Listed
listed_at number place = option_map (λ p. listed number p) place

-- Holds if the number is a possible PHAS.
abbrev pub IsPhase : ℤ → Type 0
IsPhase phase = (negsuc 32767 ≤ℤ phase) × (phase ≤ℤ pos 32767)

-- Holds if the record is at this position by its entry.
abbrev pub StandsAt : (ℕ → ListEntry) → Position → Listed → Type 0
StandsAt entry k x = ((entry x.number).place ≡ Some (record { list = k.list; phase = k.phase; priority = x.priority })) × ((entry x.number).order ≡ k.order)

-- Holds if each position has no other record than the one that is there by the entries, and has
-- that one if its number is below `indexed`. No two records on lists have one order number, and
-- none is above the last one assigned.
pub record Indexed (entry : ℕ → ListEntry) (last indexed : ℕ) (at : Position → Option Listed) : Type 0 where
  pub there : (k : Position) (x : Listed) → at k ≡ Some x → StandsAt entry k x
  pub found : (k : Position) (x : Listed) → StandsAt entry k x → x.number < indexed → at k ≡ Some x
  pub alone : (m n : ℕ) (p q : Placement) → (entry m).place ≡ Some p → (entry n).place ≡ Some q → (entry m).order ≡ (entry n).order → m ≡ n
  pub given : (n : ℕ) → (entry n).order ≤ last
  pub fits : last < 2 ^ 64
  pub phases : (n : ℕ) (p : Placement) → (entry n).place ≡ Some p → IsPhase p.phase

abbrev pub AreIndexed : List ListEntry → ℕ → ℕ → BTreeMap Position Listed → Type 0
AreIndexed entries last indexed members = Indexed (entry_of entries) last indexed (get order_of.ghosts.cmp members)

-- Holds if each record on the list has a number below `indexed`.
abbrev pub HasAll : List ListEntry → ℕ → ListName → Type 0
HasAll entries indexed list = (n : ℕ) (p : Placement) → (entry_of entries n).place ≡ Some p → p.list ≡ list → n < indexed
