-- A put with notification that is canceled in all lock sets with its records. Application
-- Developer's Guide, "Put with Notification" (dbNotifyCancel): no record is part of it any more,
-- and it doesn't end.
use Rattle.std.specs.Prelude.{◌≡◌, ◌≢◌, ℕ, true, List, [], IsSome, Contains, None}
use Rattle.std.specs.List.{AllPairs, sum_by}
use Rattle.std.specs.FinMap.{get}
use Rattle.ioc_device.specs.declared.Ask.{Ask}
use Rattle.ioc_device.specs.declared.Answer.{Answer}
use Rattle.ioc_notify.specs.Living.{holders_of, is_live}
use Rattle.ioc_record.specs.RecordRules.{RecordRules}
use Rattle.ioc_store.specs.World.{World, cancelled}
use Rattle.ioc_events.specs.declared.event.Event.TheVariants.{Cancel}
use Rattle.ioc_events.specs.declared.event.Call.TheVariants as call
use Rattle.ioc_events.specs.declared.reply.Reply.{Reply}
use Rattle.ioc_events.specs.declared.reply.Reply.TheVariants.{Plain}
use Rattle.ioc_events.specs.declared.event.Entry.{Entry}
use Rattle.ioc_events.specs.declared.event.EventEntry.{EventEntry}
use Rattle.ioc_journal.specs.declared.entry.Note.{Note}
use Rattle.ioc_journal.specs.Key.{Key, Has as Has_key}
use Rattle.ioc_journal.specs.Legal.{IsLegal, map_of, notifications_key}
use Rattle.ioc_journal.specs.Legal.{IsSound as IsSound-world}
use Rattle.ioc_journal.specs.CountLaws.{CountsNothing}
use Rattle.ioc_journal.specs.Covering.{Holds, Cover}
use Rattle.ioc_journal.specs.Laws.{GoesOn}
use Rattle.ioc_set.specs.SetState.{SetState, now_of, held_after}
use Rattle.ioc_set.specs.Sound.{IsSound}
use Rattle.ioc_set.specs.Doing.{Does, IsShort, with_place}
use Rattle.ioc_journaled_set.specs.Puts.{told_at}

-- A cancel that was done, in which no device answers, as a set has it in its history, and as the
-- journal has it.
abbrev pub cancel_event : (moment number : ℕ) → EventEntry
cancel_event moment number = record { moment = moment; event = Cancel number; answers = []; reply = Plain }

abbrev pub cancel_entry : (moment number : ℕ) → Entry
cancel_entry moment number = told_at moment (call.Event (Cancel number) Plain)

-- The note of such a cancel.
abbrev pub cancel_note : (desk call moment number : ℕ) → List Key → Note
cancel_note desk call moment number keys = record { entry = record { desk = desk; call = call; entry = cancel_entry moment number }; keys = keys }

-- Holds if no record is in both sets.
abbrev pub ShareNone : {R D : Type 0} → SetState R D → SetState R D → Type 0
ShareNone one other = (q : ℕ) → IsSome (get one.records q) → get other.records q ≡ None

-- The count of a put with notification in all these sets.
abbrev pub holders_in_all : {R D : Type 0} → ℕ → List (SetState R D) → ℕ
holders_in_all number sets = sum_by (λ h. holders_of number h.live) sets

-- Holds if no device was called, nothing is sent and nothing has ended.
pub record CameToNothing {R : Type 0} (come_to : World R) : Type 0 where
  pub calls : come_to.calls ≡ []
  pub outbox : come_to.outbox ≡ []
  pub ended : come_to.ended ≡ []

module _ {R D : Type 0} (k : RecordRules R) where
  -- A put with notification is canceled in a set, which is otherwise unchanged; the cancel, with
  -- its time stamp, is appended to the set's own history, which keeps at most `most` entries.
  pub record GivesUp (most moment number : ℕ) (before after : SetState R D) : Type 0 where
    pub records : after.records ≡ (cancelled k number (now_of before)).records
    pub waiting : after.waiting ≡ (cancelled k number (now_of before)).waiting
    pub live : after.live ≡ (cancelled k number (now_of before)).live
    pub devices : get after.devices ≡ get before.devices
    pub tally : after.tally ≡ before.tally
    pub told : after ≡ held_after k (with_place most before) (cancel_event moment number) after.devices
    pub short : IsShort most after

  -- Holds if a set is sound and held, and these keys include those of its records.
  pub record IsHeldSoundly (m : World R) (keys : List Key) (h : SetState R D) : Type 0 where
    pub sound : IsSound k h
    pub holds : Holds k m (now_of h)
    pub covers : Cover keys (now_of h)

  -- Each of the sets in which the put with notification is canceled is held in the world of all
  -- records then; no record is part of it, the counts of all others are unchanged, and none ends.
  pub record IsGivenUpByAll (moment number : ℕ) (sets : List (SetState R D)) (before after : World R) : Type 0 where
    pub held : (most : ℕ) (h then : SetState R D) → Contains sets h → GivesUp most moment number h then → Holds k after (now_of then)
    pub nobody : holders_of number after.live ≡ 0
    pub others : (other : ℕ) → other ≢ number → holders_of other after.live ≡ holders_of other before.live
    pub none_ended : after.ended ≡ []

  -- The result of a cancel on a set.
  pub record IsCancelled (most moment number : ℕ) (before : SetState R D) (reply : Reply) (after : SetState R D) (come_to : World R) : Type 0 where
    pub answer : reply ≡ Plain
    pub gives_up : GivesUp most moment number before after
    pub nothing : CameToNothing come_to

  -- A cancel of a put with notification that is live on a sound set cancels it there and has no
  -- other effect.
  abbrev pub CancelGivesUp : (D → Ask → ℕ → Answer → D → Type 0) → Type 0
  CancelGivesUp gives = (most : ℕ) (before after : SetState R D) (moment number : ℕ) (reply : Reply) (come_to : World R)
      → IsSound k before → is_live number before.live ≡ true → Does k gives most before moment (Cancel number) reply after come_to
      → IsCancelled most moment number before reply after come_to

module _ {R : Type 0} (D : Type 0) (k : RecordRules R) where
  -- If the count of a put with notification in held sets without a common record is its count in
  -- the world of all, canceling it in all of them is one event of all records, which counts nothing
  -- and sends no once request. The note has the keys of all the sets and that of the puts with
  -- notification.
  abbrev pub SetsGiveUp : Type 0
  SetsGiveUp = (base : World R) (log : List Note) (sets : List (SetState R D)) (desk call moment number : ℕ) (keys : List Key)
      → IsSound-world k base → IsLegal k base log
      → ((h : SetState R D) → Contains sets h → IsHeldSoundly k (map_of k base log) keys h) → AllPairs ShareNone sets
      → holders_in_all number sets ≡ holders_of number (map_of k base log).live → holders_of number (map_of k base log).live ≢ 0
      → Has_key notifications_key keys
      → GoesOn k base log (cancel_note desk call moment number keys) (IsGivenUpByAll k moment number sets (map_of k base log)) × CountsNothing k (map_of k base log) (cancel_note desk call moment number keys)
