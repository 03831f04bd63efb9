-- The puts with notification of all lock sets, in one table beside the journal. Application
-- Developer's Guide, "Put with Notification" (dbPutNotify): it is complete when all processing that
-- it has caused is done. The table and its place beside the journal are this project's own.
use Rattle.std.specs.Prelude.{◌≡◌, ◌⊎◌, ◌↔◌, ◌+◌, ◌-◌, ◌≤◌, ◌<◌, ◌^◌, ◌∷◌, ◌++◌, ℕ, Bool, true, false, not, List, [], length, All, Contains}
use Rattle.std.specs.List.{filter}
use Rattle.atomic_table.specs.Seated.{TableId}
use Rattle.crossbeam_utils.specs.Seq.{cell_view}
use Rattle.ioc_notify.specs.declared.live_numbers.Live.{Live}
use Rattle.ioc_notify.specs.Living.{holders_of, is_live}
use Rattle.ioc_record.specs.RecordRules.{RecordRules}
use Rattle.ioc_store.specs.World.{World, begun_at}
use Rattle.ioc_store.specs.Given.{Answers}
use Rattle.ioc_ledger.specs.Requests.{None}
use Rattle.ioc_notify.specs.Counts.{Table, IsTable, holders_in}
use Rattle.ioc_values.specs.declared.error.IocError.TheVariants.{Stale}
use Rattle.ioc_events.specs.declared.event.Event.TheVariants.{Cancel}
use Rattle.ioc_events.specs.declared.event.Call.{Call}
use Rattle.ioc_events.specs.declared.event.Call.TheVariants as call
use Rattle.ioc_events.specs.declared.event.Entry.{Entry}
use Rattle.ioc_events.specs.declared.reply.Reply.TheVariants.{Refused}
use Rattle.ioc_journal.specs.Account.{DeskView, HasCalled, Pass, puts_key, calls, numbers_given}
use Rattle.ioc_journal.specs.declared.entry.Note.{Note}
use Rattle.ioc_journal.specs.declared.cell.View.{View}
use Rattle.ioc_journal.specs.Line.{holder, Continues}
use Rattle.ioc_events.specs.Holding.{IsHeld, Cancels}
use Rattle.ioc_events.specs.Holding.{Begins as IsBegun}
use Rattle.ioc_journal.specs.Legal.{entry_of, map_of, IsLegal, IsSound}
use Rattle.ioc_events.specs.Calls.{called}
use Rattle.ioc_journaled_set.specs.PutPlaces.{Places}

-- The live puts with notification, each with its count, the numbers that were taken for calls whose
-- puts with notification haven't begun yet, the last number taken, and the beginning of the
-- journal's list that their pass has seen.
pub record PutsView : Type 0 where
  pub live : List Live
  pub taken : List ℕ
  pub last : ℕ
  pub seen : List Note

abbrev pub puts_view : List Live → List ℕ → ℕ → List Note → PutsView
puts_view live taken last seen = record { live = live; taken = taken; last = last; seen = seen }

-- Holds if the number after the last one may be taken: fewer than 256 puts with notification are
-- live or have a number taken for them, and none that is live has this number.
pub record MayTake (p : PutsView) (number : ℕ) : Type 0 where
  pub after : number ≡ p.last + 1
  pub few : length p.live + length p.taken < 256
  pub free : is_live number p.live ≡ false

-- Holds if no number may be taken: 256 puts with notification are live or have a number taken for
-- them, no number is left, or a live one has the next number.
abbrev pub NoneMayTake : PutsView → Type 0
NoneMayTake p = (256 ≤ length p.live + length p.taken) ⊎ ((p.last ≡ 2 ^ 64 - 1) ⊎ (is_live (p.last + 1) p.live ≡ true))

-- Holds if a put with notification may begin under a number that was taken for it: with the others,
-- fewer than 256 are live or have a number taken for them, none that is live has this number, none
-- began under it, and it isn't taken for another one.
pub record CanBegin (p : PutsView) (number : ℕ) : Type 0 where
  pub within : number ≤ p.last
  pub few : length p.live + length p.taken < 256
  pub free : is_live number p.live ≡ false
  pub new : Contains (numbers_given (calls p.seen)) number → ⊥
  pub own : Contains p.taken number → ⊥

-- Holds if each of these numbers is at most the last number taken, none began under it, and none
-- that is live has it.
abbrev pub AreTaken : List Live → (taken : List ℕ) (last : ℕ) → List Note → Type 0
AreTaken live taken last seen = (number : ℕ) → Contains taken number → (number ≤ last) × (Contains (numbers_given (calls seen)) number → ⊥) × (is_live number live ≡ false)

-- Holds if no put with notification began under a number above this one.
abbrev pub NoneIsAbove : ℕ → List Note → Type 0
NoneIsAbove last seen = All (λ number. number ≤ last) (numbers_given (calls seen))

module _ {R : Type 0} (k : RecordRules R) (base : World R) where
  -- Holds if the counts of the lines are those of the world of all records after these notes.
  abbrev pub AreCounted : List Live → List Note → Type 0
  AreCounted live seen = (n : ℕ) → holders_in n live ≡ holders_of n (map_of k base seen).live

  -- Holds if a call changes nothing but the moment, and has its reply, after any legal list that
  -- continues from one that was seen without the key of the puts with notification.
  abbrev pub ChangesNothing : List Note → Entry → Type 0
  ChangesNothing seen entry = (log : List Note) → IsSound k base → Continues seen puts_key log → IsLegal k base log → (answers : Answers)
      → called k answers (begun_at entry.moment (map_of k base log)) entry.call ≡ record { world = begun_at entry.moment (map_of k base log); call = entry.call; requests = None }

  -- What is true of the table whenever its lock is free: its lines are the live puts with
  -- notification of the world of all records, each with its count there, none began under a number
  -- above the last, and none has begun for which a number is taken.
  pub record IsUpToDate (p : PutsView) : Type 0 where
    pub table : IsTable p.live
    pub counted : AreCounted p.live p.seen
    pub below : NoneIsAbove p.last p.seen
    pub taken : AreTaken p.live p.taken p.last p.seen

  -- A put with notification begins in the last of these calls, under a number that was taken for
  -- it. `puts` is the table of all sets after all calls before this one, without this number: fewer
  -- than 256 are live in it or have a number taken for them, none that is live has this number, and
  -- none has begun under it.
  pub record BeginsUnder (number : ℕ) (seen : List Note) : Type 0 where
    pub puts : PutsView
    pub can : CanBegin puts number
    pub up_to_date : IsUpToDate puts
    pub before : (n : Note) × (seen ≡ puts.seen ++ n ∷ [])

  -- Holds if no put with notification may begin by what such a table has.
  pub record NoneMayBegin : Type 0 where
    pub puts : PutsView
    pub up_to_date : IsUpToDate puts
    pub none : NoneMayTake puts

  -- Holds if these are the puts with notification that have ended by the last of these calls, among
  -- all records: those that ended on its set and that nothing in any set is part of, in the order
  -- in which they ended on the set. These are exactly those that a record or a waiting list had before
  -- the call, or that the call began, and that none has after it, but for one that the call canceled.
  pub record HaveEnded (on_set : List ℕ) (seen : List Note) (numbers : List ℕ) : Type 0 where
    pub before : List Note
    pub last : Note
    pub ends : seen ≡ before ++ last ∷ []
    pub exactly : (n : ℕ) → Contains numbers n
        ↔ ((IsHeld k (map_of k base before) n ⊎ IsBegun (entry_of last).call n) × (IsHeld k (map_of k base seen) n → ⊥) × (Cancels (entry_of last).call n → ⊥))
    pub of_all : (n : ℕ) → Contains numbers n ↔ Contains (map_of k base seen).ended n
    pub in_order : numbers ≡ filter (λ n. not (is_live n (map_of k base seen).live)) on_set

  -- The invariant of the table: the pass owns the key of the puts with notification, the table has
  -- the counts of all, none began under a number above the last, none has begun for which a number
  -- is taken, each that is live has a place and each that has one has begun, and there is room for
  -- the lines of a set.
  pub record AreKept (table : TableId) (pass : Pass) (t : Table) (p : Places) (last : ℕ) : Type 0 where
    pub same : pass.table_id ≡ table
    pub holds : cell_view {V = View} pass ≡ holder (cell_view {V = View} pass).seen puts_key
    pub counted : AreCounted t.live (cell_view {V = View} pass).seen
    pub below : NoneIsAbove last (cell_view {V = View} pass).seen
    pub taken : AreTaken t.live p.taken last (cell_view {V = View} pass).seen
    pub placed : (n : ℕ) → is_live n t.live ≡ true → Contains p.begun n
    pub begun : (n : ℕ) → Contains p.begun n → Contains (numbers_given (calls (cell_view {V = View} pass).seen)) n
    pub few : length t.live ≤ 256
    pub room : 512 ≤ t.room

  -- Holds if, from `log` to `longer`, the counts in the world of all records change as the lines of
  -- a set do from `before` to `after`, the counts of the set were at most those of all, and at most
  -- 256 puts with notification are live afterwards.
  pub record AreMoved (log longer : List Note) (before after : List Live) : Type 0 where
    pub moved : (n : ℕ) → holders_of n (map_of k base longer).live + holders_in n before ≡ holders_of n (map_of k base log).live + holders_in n after
    pub fewer : (n : ℕ) → holders_in n before ≤ holders_of n (map_of k base log).live
    pub fits : (n : ℕ) → holders_of n (map_of k base longer).live ≤ 2 ^ 63
    pub few : length (map_of k base longer).live ≤ 256

-- The journal's entry of a call in which no device answers.
abbrev pub told_at : (moment : ℕ) → Call → Entry
told_at moment made = record { moment = moment; call = made; answers = [] }

module _ {R : Type 0} (k : RecordRules R) (base : World R) (puts : PutsView) (desk : DeskView) (moment number : ℕ) (puts_then : PutsView) (desk_then : DeskView) where
  -- A desk asks whether a put with notification is live, which it is if the table has it. The
  -- question is the last call of the legal list that desk and table have seen afterwards, and
  -- nothing else has changed.
  pub record WasAsked (live : Bool) : Type 0 where
    pub answer : live ≡ is_live number puts.live
    pub call : HasCalled k base desk (told_at moment (call.IsLive number live)) desk_then
    pub kept : puts_then ≡ puts_view puts.live puts.taken puts.last desk_then.seen

  -- A put with notification isn't canceled because it isn't live. The refusal is the last call of
  -- that list, and nothing else has changed.
  pub record WasStale : Type 0 where
    pub none : is_live number puts.live ≡ false
    pub call : HasCalled k base desk (told_at moment (call.Event (Cancel number) (Refused Stale))) desk_then
    pub kept : puts_then ≡ puts_view puts.live puts.taken puts.last desk_then.seen
