-- Several held sets in which a put with notification is canceled in one call. Application
-- Developer's Guide, "Put with Notification" (dbNotifyCancel).
use Rattle.std.specs.Prelude.{◌≡◌, ◌≢◌, ℕ, ◌<◌, true, List, [], length, slice_index_or}
use Rattle.atomic_table.specs.Seated.{TableId}
use Rattle.ioc_notify.specs.Living.{holders_of, is_live}
use Rattle.ioc_record.specs.RecordRules.{RecordRules}
use Rattle.ioc_store.specs.World.{World}
use Rattle.ioc_journal.specs.declared.entry.Note.{Note}
use Rattle.ioc_journal.specs.declared.cell.View.{View}
use Rattle.ioc_journal.specs.Line.{holder}
use Rattle.ioc_journal.specs.Legal.{map_of}
use Rattle.ioc_journal.specs.Covering.{Holds, Cover}
use Rattle.ioc_journal.specs.Account.{DeskView, HasCalled, calls, numbers_given, puts_key}
use Rattle.ioc_set.specs.SetState.{SetState, now_of}
use Rattle.ioc_journaled_set.specs.GiveUpLaws.{GivesUp, cancel_entry, holders_in_all}
use Rattle.ioc_journaled_set.specs.Passes.{Slot, view_in, IsPassIn, IsDealt}

module _ {R D : Type 0} where
  -- Holds if the put with notification is live on each of these sets.
  abbrev pub IsLiveOnEach : ℕ → List (SetState R D) → Type 0
  IsLiveOnEach number sets = (i : ℕ) (d : SetState R D) → i < length sets → is_live number (slice_index_or sets i d).live ≡ true

  -- Holds if the count of the put with notification in these sets is `total`, and it is live on
  -- each of them.
  pub record AreItsSets (number total : ℕ) (sets : List (SetState R D)) : Type 0 where
    pub all : holders_in_all number sets ≡ total
    pub live : IsLiveOnEach number sets

module _ {R D : Type 0} (k : RecordRules R) where
  -- The put with notification is canceled in each of these sets, with this time stamp. Each keeps at
  -- most `most` events.
  abbrev pub EachGivesUp : (most moment number : ℕ) → List (SetState R D) → List (SetState R D) → Type 0
  EachGivesUp most moment number before after = (i : ℕ) (d : SetState R D) → i < length before → GivesUp k most moment number (slice_index_or before i d) (slice_index_or after i d)

  module _ (base : World R) where
    -- Holds if the owner of this pass holds the records of the set.
    pub record IsHeldBy (table : TableId) (h : SetState R D) (p : Slot) : Type 0 where
      pub pass : IsPassIn table p
      pub covers : Cover (view_in p).owns (now_of h)
      pub holds : Holds k (map_of k base (view_in p).seen) (now_of h)

    -- Holds if each of these sets is held by the pass beside it.
    abbrev pub EachIsHeldBy : TableId → List (SetState R D) → List Slot → Type 0
    EachIsHeldBy table sets passes = (i : ℕ) (d : SetState R D) (e : Slot) → i < length sets → IsHeldBy table (slice_index_or sets i d) (slice_index_or passes i e)

    -- Holds if the count of the put with notification in these sets is its count in the world of
    -- all after these notes, and isn't zero.
    pub record HaveAll (number : ℕ) (seen : List Note) (sets : List (SetState R D)) : Type 0 where
      pub all : holders_in_all number sets ≡ holders_of number (map_of k base seen).live
      pub some : holders_of number (map_of k base seen).live ≢ 0
      pub live : IsLiveOnEach number sets

    -- The put with notification is canceled in each of these sets by one call of a desk, and each
    -- is held by the pass beside it, which owns the keys of its records. No record is part of it
    -- any more, the counts of all others are unchanged, none has ended, and none has begun
    -- meanwhile. The pass of the puts with notification knows this and owns their key alone.
    pub record GaveUp (table : TableId) (most moment number : ℕ) (desk : DeskView) (before : List (SetState R D)) (kept : View) (desk_then : DeskView) (after : List (SetState R D)) (passes : List Slot) (kept_then : View) : Type 0 where
      pub gives_up : EachGivesUp most moment number before after
      pub call : HasCalled k base desk (cancel_entry moment number) desk_then
      pub dealt : (i : ℕ) (d : SetState R D) (e : Slot) → i < length after → IsDealt table desk_then.seen (slice_index_or after i d) (slice_index_or passes i e)
      pub holds : (i : ℕ) (d : SetState R D) → i < length after → Holds k (map_of k base desk_then.seen) (now_of (slice_index_or after i d))
      pub keeps : kept_then ≡ holder desk_then.seen puts_key
      pub nobody : holders_of number (map_of k base desk_then.seen).live ≡ 0
      pub others : (other : ℕ) → other ≢ number → holders_of other (map_of k base desk_then.seen).live ≡ holders_of other (map_of k base kept.seen).live
      pub none_ended : (map_of k base desk_then.seen).ended ≡ []
      pub none_began : numbers_given (calls desk_then.seen) ≡ numbers_given (calls kept.seen)
