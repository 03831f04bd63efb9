-- The laws of held records: what stays, what an event does, how records are parted and joined, and
-- where a legal list leads. Application Developer's Guide, "Database Locking, Scanning, and
-- Processing".
use Rattle.std.specs.Prelude.{◌≡◌, ◌≢◌, ◌↔◌, true, false, ℕ, ◌+◌, length, List, [], ◌∷◌, ◌++◌, ◌<◌, ◌≤◌, ◌^◌, Contains}
use Rattle.std.specs.Prelude.{Some, None as Nothing_}
use Rattle.std.specs.FinMap.{len}
use Rattle.ioc_fields.specs.declared.field_no.FieldNo.{FieldNo}
use Rattle.ioc_dbcommon.specs.declared.link_field.LinkField.{LinkField}
use Rattle.ioc_dbcommon.specs.Links.{use_of, named_by}
use Rattle.ioc_notify.specs.Living.{holders_of, is_live}
use Rattle.ioc_record.specs.RecordRules.{RecordRules}
use Rattle.ioc_store.specs.World.{World, Has, IsClosed, at, common_at, put, begun_at, cancelled, has_place}
use Rattle.ioc_store.specs.Scanning.{device_of, rewired, with_link_changed}
use Rattle.ioc_journal.specs.declared.entry.Note.{Note}
use Rattle.ioc_journal.specs.Key.{Key}
use Rattle.ioc_journal.specs.Line.{Spares}
use Rattle.ioc_store.specs.Given.{Answers}
use Rattle.ioc_events.specs.declared.event.Call.{Call}
use Rattle.ioc_events.specs.Holding.{IsCounted, IsHeld, EndsExactly, holders}
use Rattle.ioc_events.specs.Local.{AskAlikeCall}
use Rattle.ioc_events.specs.Starting.{NoneReady}
use Rattle.ioc_events.specs.Calls.{called, named as named_by_call}
use Rattle.ioc_events.specs.StepRules.{Replay, KeepsRecords}
use Rattle.ioc_journal.specs.Legal.{IsLegal, IsSound, AreLiveAlike, notifications_key, entry_of, entries_of, map_of}
use Rattle.ioc_journal.specs.Account.{number_given}
use Rattle.ioc_journal.specs.Covering.{Holds, AreSpared, IsDone, IsOf, Cover, AreHalves, WaitsWithin, is_question, question_note}
use Rattle.ioc_journal.specs.LinkChange.{TakesLink, link_note}

module _ {R : Type 0} (k : RecordRules R) where
  -- A held part of a world is held after notes without its keys.
  abbrev pub Lasts : Type 0
  Lasts = (base v : World R) (seen rest : List Note) → Holds k (map_of k base seen) v → AreSpared v rest → IsLegal k base (seen ++ rest) → Holds k (map_of k base (seen ++ rest)) v

  -- The count of each put with notification stays the same after notes without the key of the puts
  -- with notification.
  abbrev pub LiveLasts : Type 0
  LiveLasts = (base : World R) (seen rest : List Note) → Spares notifications_key rest → IsLegal k base (seen ++ rest) → AreLiveAlike (map_of k base seen) (map_of k base (seen ++ rest))

  -- Holds if the list with this note is legal, and `Known` holds of the world that it leads to.
  pub record GoesOn (base : World R) (log : List Note) (n : Note) (Known : World R → Type 0) : Type 0 where
    pub legal : IsLegal k base (log ++ n ∷ [])
    pub known : Known (map_of k base (log ++ n ∷ []))

  -- An event of a held part is an event of all records, and the part is held after it.
  abbrev pub OneMore : Type 0
  OneMore = (base v w : World R) (log : List Note) (n : Note) → IsSound k base → IsLegal k base log → Holds k (map_of k base log) v
      → IsOf k (map_of k base log) v n → IsDone k v n w → GoesOn base log n (λ m. Holds k m w)

  -- Holds if the count of each put with notification changes from `m` to `after` by as much as from
  -- `v` to `w`. The counts kept in `live` change the same way, if `v` is counted.
  pub record MovesAlike (m after v w : World R) : Type 0 where
    pub held : (number : ℕ) → holders k after number + holders k v number ≡ holders k m number + holders k w number
    pub of_all : (number : ℕ) → holders_of number after.live + holders k v number ≡ holders_of number m.live + holders k w number
    pub live : IsCounted k v → (number : ℕ) → holders_of number after.live + holders_of number v.live ≡ holders_of number m.live + holders_of number w.live

  -- An event of a held part changes the count of each put with notification by as much among all
  -- records as in the part.
  abbrev pub HoldersMove : Type 0
  HoldersMove = (base v w : World R) (log : List Note) (n : Note) → IsSound k base → IsLegal k base log → Holds k (map_of k base log) v
      → IsOf k (map_of k base log) v n → IsDone k v n w → MovesAlike (map_of k base log) (map_of k base (log ++ n ∷ [])) v w

  -- After an event of a held and counted part, a put with notification has ended in the world of
  -- all exactly if it has ended in the part and no record of the world is part of it.
  abbrev pub EndsOver : Type 0
  EndsOver = (base v w : World R) (log : List Note) (n : Note) → IsSound k base → IsLegal k base log → Holds k (map_of k base log) v
      → IsOf k (map_of k base log) v n → IsDone k v n w → IsCounted k v → (number : ℕ)
      → Contains (map_of k base (log ++ n ∷ [])).ended number ↔ (Contains w.ended number × (IsHeld k (map_of k base (log ++ n ∷ [])) number → ⊥))

  -- A call that ends a legal list ends a put with notification exactly if a record or a waiting list had
  -- it before, or it began by this call, and none has it afterwards, unless the call canceled it.
  abbrev pub EndsLast : Type 0
  EndsLast = (base : World R) (log : List Note) (n : Note) → IsSound k base → IsLegal k base (log ++ n ∷ [])
      → EndsExactly k (map_of k base log) (entry_of n).call (map_of k base (log ++ n ∷ []))

  -- No record is part of a put with notification exactly if its count is zero.
  abbrev pub NobodyHas : Type 0
  NobodyHas = (w : World R) → IsCounted k w → (number : ℕ) → (IsHeld k w number → ⊥) ↔ (holders_of number w.live ≡ 0)

  -- The count of a put with notification in a held part is at most its count among all records.
  abbrev pub HeldAreFewer : Type 0
  HeldAreFewer = (m v : World R) → Holds k m v → IsCounted k m → IsCounted k v → (number : ℕ) → holders_of number v.live ≤ holders_of number m.live

  -- The count of a put with notification fits in 64 bits.
  abbrev pub HoldersAreFew : Type 0
  HoldersAreFew = (w : World R) → IsCounted k w → (number : ℕ) → holders_of number w.live ≤ 2 ^ 63

  -- If the numbers of all live puts with notification are in a list of fewer than 256 numbers,
  -- there is a place for one more under a number that isn't in the list: in the world of all, and
  -- in each part of it that is held and counted.
  abbrev pub PlaceForOneMore : Type 0
  PlaceForOneMore = (m : World R) (numbers : List ℕ) (number moment : ℕ) → IsSound k m → ((n : ℕ) → is_live n m.live ≡ true → Contains numbers n)
      → length numbers < 256 → (Contains numbers number → ⊥)
      → (has_place (begun_at moment m) number ≡ true) × ((v : World R) → Holds k m v → IsCounted k v → has_place (begun_at moment v) number ≡ true)

  -- After a legal note, the live puts with notification are among those before it and the one that
  -- its event begins.
  abbrev pub OneMayBegin : Type 0
  OneMayBegin = (base : World R) (log : List Note) (n : Note) (number : ℕ) → IsSound k base → IsLegal k base (log ++ n ∷ []) → number_given (entry_of n).call ≢ Some number
      → is_live number (map_of k base log).live ≡ false → is_live number (map_of k base (log ++ n ∷ [])).live ≡ false

  -- A held part stays held when a put with notification is canceled both in it and in the world of
  -- all.
  abbrev pub CancelIsHeld : Type 0
  CancelIsHeld = (m v : World R) (number : ℕ) → Holds k m v → Holds k (cancelled k number m) (cancelled k number v)

  -- A held part stays held when an event begins.
  abbrev pub BeginningIsHeld : Type 0
  BeginningIsHeld = (m v : World R) (moment : ℕ) → Holds k m v → Holds k (begun_at moment m) (begun_at moment v)

  -- A get, or the question whether a put with notification is live, with the reply that it has on a
  -- held part, is the same call of all records, and the part is held as it was.
  abbrev pub Asks : Type 0
  Asks = (base v : World R) (log : List Note) (desk number moment : ℕ) (asked : Call) (answers : Answers) (keys : List Key)
      → is_question asked ≡ true → (called k answers v asked).call ≡ asked → IsSound k base → IsLegal k base log → Holds k (map_of k base log) v
      → ((r : ℕ) → Contains (named_by_call asked) r → Has v r) → AskAlikeCall (begun_at moment v) (begun_at moment (map_of k base log)) asked → Cover keys v
      → GoesOn base log (question_note desk number moment asked keys) (λ m. Holds k m v)

  -- Whether a part is held depends on its records and its waiting lists alone.
  abbrev pub HeldAlike : Type 0
  HeldAlike = (m v w : World R) → Holds k m v → w.records ≡ v.records → w.waiting ≡ v.waiting → Holds k m w

  -- If a held part is divided in two that no link leaves, both are held.
  abbrev pub Falls : Type 0
  Falls = (m all one other : World R) → Holds k m all → AreHalves all one other → IsClosed k one → IsClosed k other → Holds k m one × Holds k m other

  -- Two held parts are held together.
  abbrev pub Gathers : Type 0
  Gathers = (m all one other : World R) → Holds k m one → Holds k m other → AreHalves all one other → WaitsWithin all → Holds k m all

  -- A part of a world that no link leaves or enters is held.
  abbrev pub Opens : Type 0
  Opens = (m v others : World R) → AreHalves m v others → IsClosed k v → IsClosed k others → Holds k m v

  -- A held part with every record has the records of the world.
  abbrev pub HoldsAll : Type 0
  HoldsAll = (m v : World R) → Holds k m v → ((n : ℕ) → Has m n → Has v n) → v.records ≡ m.records

  -- An event of a held part that divides it in two, such as a link change: it is an event of all
  -- records, and both parts are held.
  abbrev pub Parts : Type 0
  Parts = (base v w stay rest : World R) (log : List Note) (n : Note) → IsSound k base → IsLegal k base log → Holds k (map_of k base log) v
      → IsOf k (map_of k base log) v n → IsDone k v n w → AreHalves w stay rest → IsClosed k stay → IsClosed k rest
      → GoesOn base log n (λ m. Holds k m stay × Holds k m rest)

  -- An event of two held parts, such as a link change from one to the other: it is an event of all
  -- records, and the result is held.
  abbrev pub Joins : Type 0
  Joins = (base v o both w : World R) (log : List Note) (n : Note) → IsSound k base → IsLegal k base log
      → Holds k (map_of k base log) v → Holds k (map_of k base log) o → AreHalves both v o → WaitsWithin both
      → IsOf k (map_of k base log) both n → IsDone k both n w → GoesOn base log n (λ m. Holds k m w)

  -- A link change of a record of `v` to a record of `v`, or to none, after which `v` may part in
  -- two.
  abbrev pub LinkParts : Type 0
  LinkParts = (base v stay rest : World R) (log : List Note) (desk call moment s : ℕ) (field : FieldNo) (link : LinkField) (keys : List Key)
      → IsSound k base → IsLegal k base log → Holds k (map_of k base log) v → Cover keys v
      → TakesLink k v s field → ((t : ℕ) → Contains (named_by (use_of link)) t → Has v t)
      → AreHalves (with_link_changed k v s field link) stay rest → IsClosed k stay → IsClosed k rest
      → GoesOn base log (link_note desk call moment s field link keys) (λ m. Holds k m stay × Holds k m rest)

  -- A link change of a record of `v` to a record of `o`, after which `v` with its link changed and
  -- `o` are one part.
  abbrev pub LinkJoins : Type 0
  LinkJoins = (base v o all : World R) (log : List Note) (desk call moment s : ℕ) (field : FieldNo) (link : LinkField) (keys : List Key)
      → IsSound k base → IsLegal k base log → Holds k (map_of k base log) v → Holds k (map_of k base log) o → Cover keys v → Cover keys o
      → TakesLink k v s field → ((t : ℕ) → Contains (named_by (use_of link)) t → Has all t)
      → AreHalves all (with_link_changed k v s field link) o → WaitsWithin all
      → GoesOn base log (link_note desk call moment s field link keys) (λ m. Holds k m all)

  -- A link change of a record of `v` to a record of `o`, done in steps, if the old link was within
  -- `v`. With a link `between` in its place, `v` parts into `stay`, which has the record, and
  -- `rest`. Then `stay` with the new link joins `o`, and a change of the record's scan list is
  -- sent. Nothing of `between` remains in the record.
  abbrev pub LinkMoves : Type 0
  LinkMoves = (base v o stay rest joined : World R) (log : List Note) (desk call moment s : ℕ) (field : FieldNo) (between link : LinkField) (keys : List Key)
      → IsSound k base → IsLegal k base log → Holds k (map_of k base log) v → Holds k (map_of k base log) o → Cover keys v → Cover keys o
      → ((q : ℕ) → Has v q → Has o q → ⊥)
      → TakesLink k v s field → ((t : ℕ) → Contains (named_by (use_of link)) t → Has joined t)
      → AreHalves (put v s (k.with_link (at k v s) field between)) stay rest → Has stay s → IsClosed k rest
      → AreHalves joined (put stay s (k.with_link (at k stay s) field link)) o → WaitsWithin joined → IsClosed k joined
      → GoesOn base log (link_note desk call moment s field link keys) (λ m. Holds k m (rewired k (device_of k (at k v s)) joined s) × Holds k m rest)

  -- A change of a record's scan list may be sent by the part that has the record, or before the
  -- parts were divided; no link leaves the part by it.
  abbrev pub RescansApart : Type 0
  RescansApart = (all one other : World R) (device : List ℕ) (s : ℕ) → AreHalves all one other → Has one s
      → AreHalves (rewired k device all s) (rewired k device one s) other × (IsClosed k one → IsClosed k (rewired k device one s))

  -- A world at the load is sound if no link leaves it, no record is part of a put with
  -- notification, and nothing waits.
  abbrev pub BeginsSound : Type 0
  BeginsSound = (w : World R) → IsClosed k w → len w.records < 2 ^ 63 → w.live ≡ [] → w.waiting ≡ []
      → ((n : ℕ) → Has w n → (common_at k w n).notification ≡ Nothing_) → IsSound k w

  -- A legal list leads from a sound world to a sound world. Any list leads to a world with the same
  -- records, in which the records that are part of a put with notification are counted and no
  -- waiting request may start.
  abbrev pub StaysSound : Type 0
  StaysSound = (base : World R) (log : List Note) → IsSound k base
      → (IsLegal k base log → IsSound k (map_of k base log)) × KeepsRecords base (map_of k base log) × IsCounted k (map_of k base log) × NoneReady k (map_of k base log)

  -- A legal list is a run by the rules of events, each with its time stamp, its answers and its
  -- reply.
  abbrev pub Replays : Type 0
  Replays = (base : World R) (log : List Note) → IsLegal k base log → Replay k base (entries_of log) (map_of k base log)
