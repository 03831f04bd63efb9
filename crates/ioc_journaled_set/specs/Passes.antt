-- Passes of several sets, and one that takes over their keys for a while. This project's own.
use Rattle.std.specs.Prelude.{◌≡◌, ◌<◌, Bool, ◌&&◌, ◌==◌, not, List, All, length, Option, Some, None}
use Rattle.std.specs.List.{AllPairs, filter}
use Rattle.std.specs.FinMap.{keys, contains_key}
use Rattle.atomic_table.specs.Seated.{TableId}
use Rattle.crossbeam_utils.specs.Seq.{cell_view}
use Rattle.ioc_record.specs.RecordRules.{RecordRules}
use Rattle.ioc_store.specs.World.{World}
use Rattle.ioc_journal.specs.declared.entry.Note.{Note}
use Rattle.ioc_journal.specs.declared.cell.View.{View}
use Rattle.ioc_journal.specs.Key.{Key, Has, record_keys}
use Rattle.ioc_journal.specs.Line.{holder, nobody, Continues}
use Rattle.ioc_journal.specs.Legal.{IsLegal, IsSound}
use Rattle.ioc_journal.specs.Account.{Pass, IsHolder, AreNoDesks}
use Rattle.ioc_set.specs.SetState.{SetState}

abbrev pub view_of : Pass → View
view_of p = cell_view {V = View} p

-- Holds of a pass of this engine that owns no key of a desk.
pub record IsPassOf (table : TableId) (p : Pass) : Type 0 where
  pub same : p.table_id ≡ table
  pub holder : IsHolder (view_of p)
  pub no_desks : AreNoDesks (view_of p).owns

-- The place of a pass, which may be empty.
abbrev pub Slot : Type 0
Slot = Option Pass

-- What the pass in the slot has seen and owns.
abbrev pub view_in : Slot → View
view_in None = nobody
view_in (Some p) = view_of p

-- Holds if such a pass is in the slot.
abbrev pub IsPassIn : TableId → Slot → Type 0
IsPassIn table None = ⊥
IsPassIn table (Some p) = IsPassOf table p

-- Holds if the two have no common key.
abbrev pub OwnApart : Slot → Slot → Type 0
OwnApart p q = (key : Key) → Has key (view_in p).owns → Has key (view_in q).owns → ⊥

-- Holds if the list of `by` continues from what the pass in the slot has seen without its keys,
-- which `by` owns.
pub record IsTakenOver (by : View) (p : Slot) : Type 0 where
  pub goes_on : Continues (view_in p).seen (view_in p).owns by.seen
  pub owned : (key : Key) → Has key (view_in p).owns → Has key by.owns

-- A pass took over the keys of all these passes, no two of which had a common key. The list that it
-- knows then is legal and continues from what it and they had seen.
pub record AreTakenOver {R : Type 0} (k : RecordRules R) (base : World R) (before : View) (passes : List Slot) (after : View) : Type 0 where
  pub sound : 0 < length passes → IsSound k base × IsLegal k base after.seen
  pub goes_on : Continues before.seen before.owns after.seen
  pub owned : (key : Key) → Has key before.owns → Has key after.owns
  pub taken : All (IsTakenOver after) passes
  pub apart : AllPairs OwnApart passes

module _ {R D : Type 0} where
  -- The keys of a set's records.
  abbrev pub keys_of : SetState R D → List Key
  keys_of h = record_keys (keys h.records)

  abbrev pub is_key_of : SetState R D → Key → Bool
  is_key_of h key = (key.0 == 0) && contains_key h.records key.1

  -- Those of these keys that aren't of the set's records.
  abbrev pub other_keys : SetState R D → List Key → List Key
  other_keys h owned = filter (λ (key : Key). not (is_key_of h key)) owned

  -- Holds if a pass is in the slot that owns the keys of the set's records and has seen this list.
  pub record IsDealt (table : TableId) (seen : List Note) (h : SetState R D) (slot : Slot) : Type 0 where
    pub pass : Pass
    pub there : slot ≡ Some pass
    pub same : pass.table_id ≡ table
    pub holds : view_of pass ≡ holder seen (keys_of h)
