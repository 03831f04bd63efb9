-- Desks, and the calls that they made, in one list of all calls. The journal is this project's own.
use Rattle.std.specs.Prelude.{◌≡◌, ◌≢◌, ℕ, ◌+◌, ◌<◌, ◌≤◌, drop, List, [], ◌∷◌, ◌++◌, if◌then◌else◌, nat_eq, length, Option, Some, None, MatchOption, Contains, slice_get}
use Rattle.std.specs.List.{AllPairs, cons_option}
use Rattle.std.specs.Option.{IfSome}
use Rattle.atomic_table.specs.declared.shared.Seat.{Seat}
use Rattle.crossbeam_utils.specs.declared.atomic.seq_cell.Doing.{Doing}
use Rattle.ioc_record.specs.RecordRules.{RecordRules}
use Rattle.ioc_store.specs.World.{World}
use Rattle.ioc_events.specs.declared.event.Entry.{Entry}
use Rattle.ioc_events.specs.declared.event.Event.{Event}
use Rattle.ioc_events.specs.declared.event.Call.{Call}
use Rattle.ioc_events.specs.declared.event.Call.TheVariants as call
use Rattle.ioc_events.specs.declared.event.Event.TheVariants.{Notify}
use Rattle.ioc_journal.specs.declared.entry.JournalEntry.{JournalEntry}
use Rattle.ioc_journal.specs.declared.entry.Note.{Note}
use Rattle.ioc_journal.specs.declared.cell.View.{View}
use Rattle.ioc_journal.specs.Key.{Key, Has}
use Rattle.ioc_journal.specs.Line.{holder, noted, Continues, Begins}
use Rattle.ioc_journal.specs.Legal.{IsLegal, IsSound, notifications_key}

-- A pass of the journal's cell.
abbrev pub Pass : Type 0
Pass = Seat (List ℕ) (Doing (List ℕ) View)

-- The key that the keeper of the puts with notification owns.
abbrev pub puts_key : List Key
puts_key = notifications_key ∷ []

-- A desk: its number, the number of its next call, and the list that it has seen.
pub record DeskView : Type 0 where
  pub number : ℕ
  pub next : ℕ
  pub seen : List Note

abbrev pub desk_view : ℕ → ℕ → List Note → DeskView
desk_view n next seen = record { number = n; next = next; seen = seen }

-- A call of a desk, with its number.
abbrev pub journalled : (desk call : ℕ) → Entry → JournalEntry
journalled d c e = record { desk = d; call = c; entry = e }

-- The calls of these notes.
abbrev pub calls : List Note → List JournalEntry
calls [] = []
calls (n ∷ ns) = n.entry ∷ calls ns

-- The calls of one desk.
abbrev pub calls_by : ℕ → List JournalEntry → List JournalEntry
calls_by desk [] = []
calls_by desk (e ∷ es) = if nat_eq e.desk desk then e ∷ calls_by desk es else calls_by desk es

-- Holds if a desk has seen more of the calls of others, and has made none meanwhile.
pub record HasSeenMore (before after : DeskView) : Type 0 where
  pub number : after.number ≡ before.number
  pub next : after.next ≡ before.next
  pub begins : Begins before.seen after.seen
  pub own : calls_by before.number (calls after.seen) ≡ calls_by before.number (calls before.seen)

-- Holds if entries begin at the place that was asked for or, if a checkpoint has dropped the one there,
-- at the first that it has kept.
abbrev pub BeginsWhere : ℕ → ℕ → Option ℕ → Type 0
BeginsWhere from first kept_from = MatchOption kept_from (first ≡ from) (λ kept. (first ≡ kept) × (from < kept))

-- Holds if these are all entries from there on.
abbrev pub IsGiven : ℕ → List JournalEntry → ℕ → Option ℕ → List JournalEntry → Type 0
IsGiven from all first kept_from entries = BeginsWhere from first kept_from × (entries ≡ drop first all)

-- Holds if the calls of a desk have numbers below this one.
abbrev pub Below : (desk call : ℕ) → List JournalEntry → Type 0
Below d c [] = Unit {0}
Below d c (e ∷ es) = (e.desk ≡ d → e.call < c) × Below d c es

abbrev pub Above : (desk call : ℕ) → List JournalEntry → Type 0
Above d c [] = Unit {0}
Above d c (e ∷ es) = (e.desk ≡ d → c < e.call) × Above d c es

-- Holds if the numbers of each desk's calls rise.
abbrev pub Rising : List JournalEntry → Type 0
Rising [] = Unit {0}
Rising (e ∷ es) = Above e.desk e.call es × Rising es

-- The key of a desk.
abbrev pub desk_key : ℕ → Key
desk_key n = (1, n)

-- Holds if each note has its desk's key.
abbrev pub Keyed : List Note → Type 0
Keyed [] = Unit {0}
Keyed (n ∷ ns) = Has (desk_key n.entry.desk) n.keys × Keyed ns

-- The number under which an event begins a put with notification, and a call.
abbrev pub number_begun : Event → Option ℕ
number_begun (Notify target number field given) = Some number
number_begun _ = None

abbrev pub number_given : Call → Option ℕ
number_given (call.Event event reply) = number_begun event
number_given _ = None

-- The numbers under which these calls begin puts with notification, in order.
abbrev pub numbers_given : List JournalEntry → List ℕ
numbers_given [] = []
numbers_given (e ∷ es) = cons_option (number_given e.entry.call) (numbers_given es)

-- Holds if each note of a call that begins a put with notification has the key of the puts with
-- notification.
abbrev pub PutsAreKeyed : List Note → Type 0
PutsAreKeyed [] = Unit {0}
PutsAreKeyed (n ∷ ns) = IfSome (number_given n.entry.entry.call) (λ _. Has notifications_key n.keys) × PutsAreKeyed ns

-- Holds if a caller that has seen a list and owns keys may make this call: it begins no put with
-- notification, or the caller owns the key of these and no put with notification of that list began
-- under the number.
abbrev pub MayBegin : List Note → List Key → Call → Type 0
MayBegin seen owned made = IfSome (number_given made) (λ number. Has notifications_key owned × (Contains (numbers_given (calls seen)) number → ⊥))

-- Holds if these are keys of records.
abbrev pub AreRecords : List Key → Type 0
AreRecords keys = (key : Key) → Has key keys → key.0 ≡ 0

-- Holds if none of these is the key of a desk.
abbrev pub AreNoDesks : List Key → Type 0
AreNoDesks keys = (key : Key) → Has key keys → key.0 ≢ 1

-- Holds of a pass that has seen a beginning of the list and owns keys.
abbrev pub IsHolder : View → Type 0
IsHolder v = v ≡ holder v.seen v.owns

-- Holds if the entry is the one of the receipt: the list of all calls begins with the receipt's
-- list, which ends with the entry.
pub record IsEntryOf (receipt all : List Note) (entry : JournalEntry) : Type 0 where
  pub before : List Note
  pub keys : List Key
  pub ends : receipt ≡ before ++ noted entry keys ∷ []
  pub begins : Begins receipt all
  pub place : slice_get (calls all) (length before) ≡ Some entry

module _ {R : Type 0} (k : RecordRules R) (base : World R) where
  -- Holds if the calls are a run of an engine with all records in one map, the numbers of each
  -- desk's calls rise, and no two puts with notification have the same number. Each note has its
  -- desk's key, and the key of the puts with notification if it begins one.
  pub record IsAccount (notes : List Note) : Type 0 where
    pub legal : IsLegal k base notes
    pub rising : Rising (calls notes)
    pub keyed : Keyed notes
    pub numbers : AllPairs (λ earlier later. earlier ≢ later) (numbers_given (calls notes))
    pub puts_keyed : PutsAreKeyed notes

  -- A call of a desk: its list continues with calls of others and ends with this one, the only one
  -- that it has made since; and its whole list is legal.
  pub record HasCalled (before : DeskView) (done : Entry) (after : DeskView) : Type 0 where
    pub keys : List Key
    pub between : List Note
    pub number : after.number ≡ before.number
    pub next : after.next ≡ before.next + 1
    pub seen : after.seen ≡ (before.seen ++ between) ++ noted (journalled before.number before.next done) keys ∷ []
    pub own : calls_by after.number (calls after.seen) ≡ calls_by before.number (calls before.seen) ++ journalled before.number before.next done ∷ []
    pub legal : IsAccount after.seen

  -- Holds if the note of an event, whatever desk it is of, has a property after any legal list that
  -- continues from one that was seen, without the keys owned.
  abbrev pub AfterAny : List Note → List Key → Entry → (List Note → Note → Type 0) → Type 0
  AfterAny seen owned done P = (log : List Note) (desk call : ℕ) (own : List Key) → IsSound k base → Continues seen owned log → IsLegal k base log
      → P log (noted (journalled desk call done) (owned ++ own))

  -- The same for two lists that were seen, each with keys owned.
  abbrev pub AfterBoth : (seen : List Note) (owned : List Key) (also_seen : List Note) (also_owned : List Key) → Entry → (List Note → Note → Type 0) → Type 0
  AfterBoth seen owned also_seen also_owned done P =
      (log : List Note) (desk call : ℕ) (own : List Key) → IsSound k base → Continues seen owned log → Continues also_seen also_owned log → IsLegal k base log
      → P log (noted (journalled desk call done) ((owned ++ also_owned) ++ own))

  -- The list is legal with the note appended.
  abbrev pub StaysLegal : List Note → Note → Type 0
  StaysLegal log n = IsLegal k base (log ++ n ∷ [])

  -- Holds if an event may follow a list that was seen with keys owned.
  abbrev pub MayFollow : List Note → List Key → Entry → Type 0
  MayFollow seen owned done = AfterAny seen owned done StaysLegal

  -- The event was appended to such a list.
  pub record Added (seen : List Note) (owned : List Key) (done : Entry) (log longer : List Note) : Type 0 where
    pub desk : ℕ
    pub call : ℕ
    pub own : List Key
    pub sound : IsSound k base
    pub goes_on : Continues seen owned log
    pub legal : IsLegal k base log
    pub ends : longer ≡ log ++ noted (journalled desk call done) (owned ++ own) ∷ []

  -- Holds if an event may follow two lists that were seen, each with keys owned.
  abbrev pub BothMayFollow : (seen : List Note) (owned : List Key) (also_seen : List Note) (also_owned : List Key) → Entry → Type 0
  BothMayFollow seen owned also_seen also_owned done = AfterBoth seen owned also_seen also_owned done StaysLegal

  -- The event was appended to such a list.
  pub record AddedByBoth (seen : List Note) (owned : List Key) (also_seen : List Note) (also_owned : List Key) (done : Entry) (log longer : List Note) : Type 0 where
    pub desk : ℕ
    pub call : ℕ
    pub own : List Key
    pub sound : IsSound k base
    pub goes_on : Continues seen owned log
    pub also_goes_on : Continues also_seen also_owned log
    pub legal : IsLegal k base log
    pub ends : longer ≡ log ++ noted (journalled desk call done) ((owned ++ also_owned) ++ own) ∷ []

  -- Two passes know the same legal list afterwards, which continues from each without its keys.
  pub record AreKnown (one other : View) (log : List Note) (one_then other_then : View) : Type 0 where
    pub sound : IsSound k base
    pub legal : IsLegal k base log
    pub goes_on : Continues one.seen one.owns log
    pub also_goes_on : Continues other.seen other.owns log
    pub one_knows : one_then ≡ holder log one.owns
    pub other_knows : other_then ≡ holder log other.owns

  -- The first of two passes owns the keys of both afterwards, and the second none; both know a
  -- legal list, which continues from each without its keys.
  pub record AreMerged (one other : View) (log : List Note) (one_then other_then : View) : Type 0 where
    pub sound : IsSound k base
    pub legal : IsLegal k base log
    pub goes_on : Continues one.seen one.owns log
    pub also_goes_on : Continues other.seen other.owns log
    pub one_owns : one_then ≡ holder log (one.owns ++ other.owns)
    pub other_owns : other_then ≡ holder log []
