-- Sets under their locks, and the calls on them. Application Developer's Guide, "Database Locking,
-- Scanning, and Processing". The journal is this project's own.
use Rattle.std.specs.Prelude.{◌≡◌, ◌⊎◌, ℕ, Bool, true, false, List, [], ◌∷◌, Option, Some, None, MatchOption, unwrap_or, Ok}
use Rattle.std.specs.Option.{option_map}
use Rattle.ioc_ledger.specs.Requests.{no_counts}
use Rattle.ioc_ledger.specs.Shared.{ShareView, share_view}
use Rattle.std.specs.FinMap.{get, keys, len}
use Rattle.atomic_table.specs.Seated.{TableId}
use Rattle.crossbeam_utils.specs.Seq.{cell_view}
use Rattle.ioc_device.specs.declared.Ask.{Ask}
use Rattle.ioc_device.specs.declared.Answer.{Answer}
use Rattle.ioc_record.specs.RecordRules.{RecordRules}
use Rattle.ioc_store.specs.World.{World, Has}
use Rattle.ioc_fields.specs.declared.field_no.FieldNo.{FieldNo}
use Rattle.ioc_values.specs.declared.input.Input.{Input}
use Rattle.ioc_events.specs.declared.event.Event.{Event}
use Rattle.ioc_events.specs.declared.event.Event.TheVariants.{Process, Put, Complete, Notify}
use Rattle.ioc_events.specs.declared.reply.Reply.{Reply}
use Rattle.ioc_events.specs.declared.event.Call.TheVariants as call
use Rattle.ioc_events.specs.declared.event.Entry.{Entry}
use Rattle.ioc_events.specs.declared.event.EventEntry.{EventEntry}
use Rattle.ioc_events.specs.Step.{shown}
use Rattle.ioc_journal.specs.declared.entry.Note.{Note}
use Rattle.ioc_journal.specs.declared.cell.View.{View}
use Rattle.ioc_journal.specs.Legal.{map_of}
use Rattle.ioc_journal.specs.Covering.{Holds, Cover}
use Rattle.ioc_values.specs.declared.error.IocError.{IocError}
use Rattle.ioc_journal.specs.Account.{Pass, DeskView, IsHolder, AreRecords, HasCalled}
use Rattle.ioc_journal.specs.Places.{IsNoPlace}
use Rattle.ioc_set.specs.SetState.{SetState, now_of}
use Rattle.ioc_set.specs.Sound.{IsSound}
use Rattle.ioc_set.specs.NoCalls.{no_call}
use Rattle.ioc_set.specs.Doing.{Does, IsShort}
use Rattle.ioc_watched.specs.Watched.{WatchedRecord, StayWatched}
use Rattle.ioc_journaled_set.specs.Puts.{BeginsUnder, told_at}

-- A set, the beginning of the journal's list that its pass has seen, and the watched records of the set.
pub record HeldView (R D : Type 0) : Type 0 where
  pub set : SetState R D
  pub seen : List Note
  pub watched : List WatchedRecord

abbrev pub watching : {R D : Type 0} → SetState R D → List Note → List WatchedRecord → HeldView R D
watching h seen ws = record { set = h; seen = seen; watched = ws }

-- A set of which no record is watched.
abbrev pub held_view : {R D : Type 0} → SetState R D → List Note → HeldView R D
held_view h seen = watching h seen []

-- The numbers of the set's records.
abbrev pub numbers_of : {R D : Type 0} → HeldView R D → List ℕ
numbers_of v = keys v.set.records

-- The number of events that a set keeps in its history at most: the limit of the engine. If records
-- of the set are watched, its history is cleared before each event.
abbrev pub kept_at_most : ℕ → List WatchedRecord → ℕ
kept_at_most limit [] = limit
kept_at_most limit (w ∷ ws) = 0

-- Holds if each of the set's records has its device, of which `had` tells, or none if it had none.
abbrev pub KeepsDevices : {R D : Type 0} → (ℕ → Option D → Type 0) → SetState R D → Type 0
KeepsDevices had h = (n : ℕ) → Has (now_of h) n → had n (get h.devices n)

-- Holds if a set's share of the engine's counts has one part for each of the set's records, and the
-- set's counts. Only a set without records and without counts has no share.
abbrev pub IsCounted : {R D : Type 0} → Option ShareView → SetState R D → Type 0
IsCounted share h = unwrap_or share (share_view 0 no_counts) ≡ share_view (len h.records) h.tally

-- The list that the pass has seen, which is empty without a pass.
abbrev pub seen_by : Option Pass → List Note
seen_by pass = unwrap_or (option_map (λ (p : Pass). (cell_view {V = View} p).seen) pass) []

-- Holds of a pass of this engine that owns the keys of these records.
pub record IsOwner {R : Type 0} (table id : TableId) (v : View) (w : World R) : Type 0 where
  pub same : id ≡ table
  pub holder : IsHolder v
  pub records : AreRecords v.owns
  pub covers : Cover v.owns w

-- The journal's entry of an event that a set has in its history.
abbrev pub entry_of_event : EventEntry → Entry
entry_of_event e = record { moment = e.moment; call = call.Event e.event e.reply; answers = e.answers }

-- The errors of an event on the records of a set that isn't added to the journal: its record has no
-- such field, the field can't be put, the journal has no place left, or allocation fails.
abbrev pub IsNoCall : {R D : Type 0} → RecordRules R → SetState R D → Event → IocError → Type 0
IsNoCall k h event error = (no_call k (now_of h) event ≡ Some error) ⊎ IsNoPlace error

-- Holds if the event is a request, a put, with or without a notification, or a completion: it
-- concerns one record.
abbrev pub is_on_record : Event → Bool
is_on_record (Process s) = true
is_on_record (Put s field given) = true
is_on_record (Complete s number finished) = true
is_on_record (Notify s number field given) = true
is_on_record _ = false

module _ {R D : Type 0} (k : RecordRules R) (base : World R) where
  -- The invariant of a journaled set: it has a pass for its records, the set is equal to the world
  -- of all records at its own records, and each record has its device.
  pub record IsHeld (had : ℕ → Option D → Type 0) (table : TableId) (pass : Option Pass) (h : SetState R D) : Type 0 where
    pub owner : MatchOption pass ((n : ℕ) → Has (now_of h) n → ⊥) (λ (p : Pass). IsOwner table p.table_id (cell_view {V = View} p) (now_of h))
    pub holds : Holds k (map_of k base (seen_by pass)) (now_of h)
    pub devices : KeepsDevices had h

  -- Holds of a set that was taken from its journaled set, with the pass that owns the keys of its
  -- records.
  pub record IsLent (had : ℕ → Option D → Type 0) (table : TableId) (h : SetState R D) (slot : Option Pass) : Type 0 where
    pub pass : Pass
    pub there : slot ≡ Some pass
    pub owner : IsOwner table pass.table_id (cell_view {V = View} pass) (now_of h)
    pub holds : Holds k (map_of k base (cell_view {V = View} pass).seen) (now_of h)
    pub devices : KeepsDevices had h

  -- What is true of a set and its pass whenever its lock is free.
  pub record IsSoundlyHeld (v : HeldView R D) : Type 0 where
    pub sound : IsSound k v.set
    pub holds : Holds k (map_of k base v.seen) (now_of v.set)

  -- The set tells a desk the text of a field, and the get is the last call of the legal list that
  -- desk and set have seen afterwards.
  pub record Tells (held : HeldView R D) (desk : DeskView) (at_moment number : ℕ) (field : FieldNo) (text : List ℕ) (held_then : HeldView R D) (desk_then : DeskView) : Type 0 where
    pub answer : shown k (now_of held.set) number field ≡ Ok text
    pub set : held_then.set ≡ held.set
    pub watched : held_then.watched ≡ held.watched
    pub call : HasCalled k base desk (told_at at_moment (call.Get number field (Ok text))) desk_then
    pub seen : held_then.seen ≡ desk_then.seen

module _ {R D : Type 0} (k : RecordRules R) (gives : D → Ask → ℕ → Answer → D → Type 0) (base : World R) (limit : ℕ) where
  -- An event of a desk is done on a set, and is the last call of the legal list that desk and set
  -- have seen afterwards. The set keeps as many events as the limit of the engine says at most, or
  -- one.
  pub record Serves (held : HeldView R D) (desk : DeskView) (at_moment : ℕ) (done : Event) (reply : Reply) (held_then : HeldView R D) (desk_then : DeskView) (come_to : World R) : Type 0 where
    pub is_call : no_call k (now_of held.set) done ≡ None
    pub does : Does k gives (kept_at_most limit held.watched) held.set at_moment done reply held_then.set come_to
    pub short : IsShort limit held_then.set
    pub call : HasCalled k base desk (entry_of_event does.entry) desk_then
    pub seen : held_then.seen ≡ desk_then.seen
    pub watched : StayWatched held.watched held_then.watched

  -- A put with notification of a desk begins on a set, under a number that was taken for it.
  pub record Begins (held : HeldView R D) (desk : DeskView) (at_moment target : ℕ) (field : FieldNo) (given : Input) (reply : Reply) (held_then : HeldView R D) (desk_then : DeskView) (come_to : World R) : Type 0 where
    pub number : ℕ
    pub under : BeginsUnder k base number desk_then.seen
    pub serves : Serves held desk at_moment (Notify target number field given) reply held_then desk_then come_to
