-- One list of events, as a run of an engine with all records in one map. Application Developer's
-- Guide, "Database Locking, Scanning, and Processing": an event in one lock set leaves all others
-- alone.
use Rattle.std.specs.Prelude.{◌≡◌, ◌≤◌, ℕ, List, [], ◌∷◌, map, length, Contains}
use Rattle.std.specs.FinMap.{get}
use Rattle.ioc_notify.specs.Living.{holders_of}
use Rattle.ioc_notify.specs.Waits.{at_record}
use Rattle.ioc_record.specs.RecordRules.{RecordRules, targets}
use Rattle.ioc_store.specs.World.{World, at, begun_at}
use Rattle.ioc_store.specs.Given.{answers_of, listed}
use Rattle.ioc_events.specs.declared.event.Entry.{Entry}
use Rattle.ioc_events.specs.Holding.{IsCounted}
use Rattle.ioc_events.specs.Starting.{NoneReady}
use Rattle.ioc_events.specs.Calls.{Called, called}
use Rattle.ioc_journal.specs.declared.entry.Note.{Note}
use Rattle.ioc_journal.specs.Key.{Key, Has as Has_key}

-- The event of a note, with its time stamp, the answers of devices and the reply.
abbrev pub entry_of : Note → Entry
entry_of n = n.entry.entry

abbrev pub entries_of : List Note → List Entry
entries_of notes = map (λ (n : Note). entry_of n) notes

-- The key of a record.
abbrev pub key_of : ℕ → Key
key_of n = (0, n)

-- The key of the puts with notification. Its owner knows the count of each.
abbrev pub notifications_key : Key
notifications_key = (2, 0)

-- Holds if each put with notification has the same count in both worlds, by their lists of live
-- ones.
abbrev pub AreLiveAlike : {R : Type 0} → World R → World R → Type 0
AreLiveAlike w v = (number : ℕ) → holders_of number w.live ≡ holders_of number v.live

module _ {R : Type 0} (k : RecordRules R) where
  -- The effect of the event of a note on a world, with its time stamp and its answers.
  unfoldable pub done : World R → Note → Called R
  done m n = called k (listed (entry_of n).answers) (begun_at (entry_of n).moment m) (entry_of n).call

  -- The world that a list leads to.
  abbrev pub map_of : World R → List Note → World R
  map_of m [] = m
  map_of m (n ∷ notes) = map_of (done m n).world notes

  -- Holds if the record and its waiting list are unchanged, and no new link leads to it.
  pub record IsUntouched (r : ℕ) (before after : World R) : Type 0 where
    pub same : get after.records r ≡ get before.records r
    pub waiting : at_record r after.waiting ≡ at_record r before.waiting
    pub named : (a : ℕ) → Contains (targets k (at k after a)) r → Contains (targets k (at k before a)) r

  -- Holds if the event has the reply of the note and uses all its answers, and each record whose
  -- key isn't in the note is untouched. If the key of the puts with notification isn't in the note,
  -- their counts are unchanged.
  pub record Fits (m : World R) (n : Note) : Type 0 where
    pub reply : (entry_of n).call ≡ (done m n).call
    pub used : answers_of (done m n).world.calls ≡ (entry_of n).answers
    pub untouched : (r : ℕ) → (Has_key (key_of r) n.keys → ⊥) → IsUntouched r m (done m n).world
    pub live : (Has_key notifications_key n.keys → ⊥) → AreLiveAlike m (done m n).world

  -- Holds if each note fits the world that the notes before it lead to.
  abbrev pub IsLegal : World R → List Note → Type 0
  IsLegal m [] = Unit {0}
  IsLegal m (n ∷ notes) = Fits m n × IsLegal (done m n).world notes

  -- Holds of a world of all records between events: no link leaves it, the records that are part of
  -- a put with notification are counted, no waiting request may start, and at most 256 puts with
  -- notification are live.
  pub record IsSound (m : World R) : Type 0 where
    pub counted : IsCounted k m
    pub none_ready : NoneReady k m
    pub few : length m.live ≤ 256
