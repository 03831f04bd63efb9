-- A put with notification that is canceled in several journaled sets. Application Developer's
-- Guide, "Put with Notification" (dbNotifyCancel). The journal is this project's own.
use Rattle.std.specs.Prelude.{◌≡◌, ◌⊎◌, ℕ, ◌<◌, ◌≢◌, List, [], length, map, slice_index_or, Option}
use Rattle.atomic_table.specs.Seated.{TableId}
use Rattle.ioc_notify.specs.Living.{holders_of}
use Rattle.ioc_notify.specs.declared.live_numbers.Live.{Live}
use Rattle.ioc_notify.specs.Counts.{holders_in}
use Rattle.ioc_journal.specs.Account.{DeskView, HasCalled, calls, numbers_given, puts_key, Pass}
use Rattle.ioc_journal.specs.Line.{holder}
use Rattle.ioc_journaled_set.specs.GiveUpLaws.{GivesUp, cancel_entry}
use Rattle.ioc_journaled_set.specs.Sets.{AreItsSets}
use Rattle.ioc_journaled_set.specs.Puts.{PutsView}
use Rattle.ioc_record.specs.RecordRules.{RecordRules}
use Rattle.ioc_store.specs.World.{World}
use Rattle.ioc_journal.specs.declared.cell.View.{View}
use Rattle.ioc_journal.specs.Legal.{map_of}
use Rattle.ioc_set.specs.SetState.{SetState}
use Rattle.ioc_journaled_set.specs.Holding.{HeldView, IsLent, IsCounted}
use Rattle.ioc_journaled_set.specs.Watching.{IsSameSet}
use Rattle.ioc_ledger.specs.Shared.{ShareView}

module _ {R D : Type 0} (k : RecordRules R) (base : World R) where
  abbrev pub EachIsLent : (ℕ → Option D → Type 0) → TableId → List (SetState R D) → List (Option Pass) → Type 0
  EachIsLent had table sets passes = (i : ℕ) (d : SetState R D) (e : Option Pass) → i < length sets → IsLent k base had table (slice_index_or sets i d) (slice_index_or passes i e)

-- Holds if the share beside each of these sets has its counts and a part for each of its records.
abbrev pub EachIsCounted : {R D : Type 0} → List (SetState R D) → List (Option ShareView) → Type 0
EachIsCounted {R} {D} sets shares = (i : ℕ) (d : SetState R D) (e : Option ShareView) → i < length sets → IsCounted (slice_index_or shares i e) (slice_index_or sets i d)

-- The sets of these journaled sets.
abbrev pub sets_of : {R D : Type 0} → List (HeldView R D) → List (SetState R D)
sets_of held = map (λ (h : HeldView _ _). h.set) held

-- Holds if no record is part of the put with notification, or some of its records aren't in these
-- sets.
abbrev pub HaveNotAll : {R D : Type 0} → ℕ → List Live → List (SetState R D) → Type 0
HaveNotAll number live sets = (holders_in number live ≡ 0) ⊎ (AreItsSets number (holders_in number live) sets → ⊥)

-- Holds if these journaled sets have these sets, in order.
abbrev pub AreSameSets : {R D : Type 0} → List (SetState R D) → List (HeldView R D) → Type 0
AreSameSets {R} {D} before after = (i : ℕ) (d : SetState R D) (e : HeldView R D) → i < length before → (slice_index_or after i e).set ≡ slice_index_or before i d

-- Holds if these are the same sets, each after the same calls, whichever of their records are watched.
abbrev pub AreSame : {R D : Type 0} → List (HeldView R D) → List (HeldView R D) → Type 0
AreSame before after = (length after ≡ length before) × ((i : ℕ) (d e : HeldView _ _) → i < length before → IsSameSet (slice_index_or after i e) (slice_index_or before i d))

module _ {R D : Type 0} (k : RecordRules R) (base : World R) (most moment number : ℕ) (desk : DeskView) (before : List (SetState R D)) where
  -- The put with notification is canceled in each of these journaled sets by one call of a desk,
  -- which is the last of the legal list that the desk, the sets and the table of the puts with
  -- notification have seen then. No record is part of it any more, the counts of all others are
  -- unchanged, none has ended, and none has begun meanwhile.
  pub record HeldGaveUp (kept : View) (desk_then : DeskView) (after : List (HeldView R D)) (kept_then : View) : Type 0 where
    pub gives_up : (i : ℕ) (d : SetState R D) (e : HeldView R D) → i < length before → GivesUp k most moment number (slice_index_or before i d) (slice_index_or after i e).set
    pub call : HasCalled k base desk (cancel_entry moment number) desk_then
    pub seen : (i : ℕ) (d : HeldView R D) → i < length after → (slice_index_or after i d).seen ≡ desk_then.seen
    pub keeps : kept_then ≡ holder desk_then.seen puts_key
    pub nobody : holders_of number (map_of k base desk_then.seen).live ≡ 0
    pub others : (other : ℕ) → other ≢ number → holders_of other (map_of k base desk_then.seen).live ≡ holders_of other (map_of k base kept.seen).live
    pub none_ended : (map_of k base desk_then.seen).ended ≡ []
    pub none_began : numbers_given (calls desk_then.seen) ≡ numbers_given (calls kept.seen)

module _ {R D : Type 0} (k : RecordRules R) (base : World R) (most moment number : ℕ) (desk : DeskView) (before : List (HeldView R D)) where
  -- The same, with the counts of the lines of the table.
  pub record GaveUpOn (puts : PutsView) (desk_then : DeskView) (after : List (HeldView R D)) (puts_then : PutsView) : Type 0 where
    pub gives_up : (i : ℕ) (d e : HeldView R D) → i < length before → GivesUp k most moment number (slice_index_or before i d).set (slice_index_or after i e).set
    pub call : HasCalled k base desk (cancel_entry moment number) desk_then
    pub seen : (i : ℕ) (d : HeldView R D) → i < length after → (slice_index_or after i d).seen ≡ desk_then.seen
    pub puts_seen : puts_then.seen ≡ desk_then.seen
    pub last : puts_then.last ≡ puts.last
    pub taken : puts_then.taken ≡ puts.taken
    pub nobody : holders_in number puts_then.live ≡ 0
    pub others : (other : ℕ) → other ≢ number → holders_in other puts_then.live ≡ holders_in other puts.live
    pub none_ended : (map_of k base desk_then.seen).ended ≡ []
