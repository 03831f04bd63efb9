-- The puts with notification of a lock set, recounted from the records that are part of them and
-- from those that wait.
--
-- Application Developer's Guide, "Put with Notification" (dbPutNotify). Recounting after a link
-- change is this project's own design.
use Rattle.std.specs.Prelude.{◌≡◌, ℕ, ◌≤◌, true, not, if◌then◌else◌, IsSome, Contains, List, [], ◌∷◌, ◌++◌, Option, Some, None}
use Rattle.std.specs.List.{filter}
use Rattle.std.specs.FinMap.{get, contains_key}
use Rattle.ioc_notify.specs.declared.live_numbers.Live.{Live}
use Rattle.ioc_notify.specs.declared.waiting_lists.Waiting.{Waiting}
use Rattle.ioc_notify.specs.Living.{is_live, begun, gained, lost, holders_of}
use Rattle.ioc_notify.specs.Waits.{at_record}
use Rattle.ioc_record.specs.RecordRules.{RecordRules}
use Rattle.ioc_events.specs.Holding.{how_many}
use Rattle.ioc_set_records.specs.Contents.{Records, record_at}

-- The list with those of these that aren't live yet, each begun with one part.
abbrev pub begun_each : List Live → List Live → List Live
begun_each [] ls = ls
begun_each (x ∷ xs) ls = begun_each xs (if is_live x.number ls then ls else begun x.number ls)

-- The list with one part less of each of these.
abbrev pub lost_each : List Live → List Live → List Live
lost_each [] ls = ls
lost_each (x ∷ xs) ls = lost_each xs (lost x.number ls)

-- The list with one part more of each that waits, for its place in the waiting list.
abbrev pub gained_each : List Waiting → List Live → List Live
gained_each [] ls = ls
gained_each (x ∷ xs) ls = gained_each xs (gained x.number ls)

-- The list with one part more of this put with notification, if there is one.
abbrev pub gained_if : Option ℕ → List Live → List Live
gained_if None ls = ls
gained_if (Some n) ls = gained n ls

-- Each is there once, with one part.
abbrev pub AreBegun : List Live → Type 0
AreBegun ls = (n : ℕ) → (how_many (λ l. l.number) n ls ≤ 1) × (holders_of n ls ≡ how_many (λ l. l.number) n ls)

-- The live ones of two sets, each once.
abbrev pub together : List Live → List Live → List Live
together one other = one ++ filter (λ l. not (is_live l.number one)) other

module _ {R : Type 0} where
  -- Those that wait for one of these records, in the same order.
  abbrev pub own_waiting : Records R → List Waiting → List Waiting
  own_waiting rs waiting = filter (λ x. contains_key rs x.target) waiting

  -- Of the waiting puts, exactly those that wait for one of these records stay with it, in the same
  -- order.
  pub record WaitsGoAlong (before : List Waiting) (rs : Records R) (after : List Waiting) : Type 0 where
    pub same : (n : ℕ) → IsSome (get rs n) → at_record n after ≡ at_record n before
    pub own : (x : Waiting) → Contains after x → IsSome (get rs x.target)

module _ {R : Type 0} (k : RecordRules R) where
  -- The list with one part more for each of these records that is part of a put with notification.
  abbrev pub gained_by : List (ℕ × R) → List Live → List Live
  gained_by [] ls = ls
  gained_by (e ∷ es) ls = gained_by es (gained_if (k.common e.1).notification ls)

  -- Each put with notification that one of these records is part of, or that waits, is live.
  pub record AreLive (rs : Records R) (waiting : List Waiting) (live : List Live) : Type 0 where
    pub has : (s n : ℕ) → IsSome (get rs s) → (k.common (record_at k rs s)).notification ≡ Some n → is_live n live ≡ true
    pub waits : (x : Waiting) → Contains waiting x → is_live x.number live ≡ true
