-- The counts of calls, the requests among them, and the once requests that they send. Application
-- Developer's Guide, "Scanning": scanOnce. The counts are this project's own.
use Rattle.std.specs.Prelude.{◌≡◌, ℕ, ◌+◌, ◌<◌, ◌^◌, Bool, true, false, List, [], ◌∷◌, length, Option, Some, None, MatchOption}
use Rattle.std.specs.Option.{IfSome}
use Rattle.ioc_ledger.specs.Requests.{Requests, counted_all, no_counts}
use Rattle.ioc_ledger.specs.Shared.{ShareView, share_view}
use Rattle.ioc_ledger.specs.declared.tally.Tally.{Tally}
use Rattle.ioc_record.specs.RecordRules.{RecordRules}
use Rattle.ioc_store.specs.World.{World, begun_at}
use Rattle.ioc_store.specs.Given.{later_among}
use Rattle.ioc_store.specs.declared.outbox.OutboxItem.{OutboxItem}
use Rattle.ioc_store.specs.declared.outbox.OutboxItem.TheVariants.{Once, Post, Change}
use Rattle.ioc_events.specs.declared.event.Entry.{Entry}
use Rattle.ioc_events.specs.declared.event.Call.{Call}
use Rattle.ioc_events.specs.declared.event.Call.TheVariants as call
use Rattle.ioc_events.specs.declared.event.Event.TheVariants.{Process}
use Rattle.ioc_events.specs.Step.{completes, calls_since}
use Rattle.ioc_journal.specs.declared.entry.Note.{Note}
use Rattle.ioc_journal.specs.declared.event_counts.SentCounts.{SentCounts}
use Rattle.ioc_journal.specs.declared.cell.View.{View}
use Rattle.ioc_journal.specs.Key.{Key}
use Rattle.ioc_journal.specs.Legal.{entry_of, done, map_of}
use Rattle.ioc_journal.specs.Tickets.{TicketsView, AreTickets}
use Rattle.ioc_journal.specs.Account.{AfterAny, AfterBoth, MayFollow, BothMayFollow, MayBegin}

-- The records of the once requests among these items, in order.
abbrev pub once_in : List OutboxItem → List ℕ
once_in [] = []
once_in (Once number ∷ items) = number ∷ once_in items
once_in (Post _ ∷ items) = once_in items
once_in (Change _ ∷ items) = once_in items

-- So many once requests were sent, and so many items dropped.
abbrev pub sent_counts : (once dropped : ℕ) → SentCounts
sent_counts once dropped = record { once = once; dropped = dropped }

abbrev pub nothing_sent : SentCounts
nothing_sent = sent_counts 0 0

-- What an event has sent that leaves this world.
abbrev pub sent_in : {R : Type 0} → World R → SentCounts
sent_in w = sent_counts (length (once_in w.outbox)) w.dropped

-- Whether a call is a request.
abbrev pub is_request : Call → Bool
is_request (call.Event (Process s) reply) = true
is_request _ = false

-- 1 for a request, else 0.
abbrev pub one_if_request : Call → ℕ
one_if_request (call.Event (Process s) reply) = 1
one_if_request _ = 0

-- Holds of a completion that isn't refused.
abbrev pub is_completion : Call → Bool
is_completion (call.Event event reply) = completes event reply
is_completion _ = false

-- The number of requests among these calls.
abbrev pub requests_in : List Note → ℕ
requests_in [] = 0
requests_in (n ∷ notes) = one_if_request (entry_of n).call + requests_in notes

-- Holds if the share, if there is one, has a part, and the counts before an event.
abbrev pub IsBacked : Option ShareView → Tally → Type 0
IsBacked share before = IfSome share (λ s. (0 < s.parts) × (s.counts ≡ before))

-- Holds if what an event adds to these counts are requests, calls that are answered later, and a
-- completion.
abbrev pub IsCountedOn : Tally → Tally → Type 0
IsCountedOn before after = (requests : Requests) × (later : ℕ) × (completes : Bool) × (after ≡ counted_all before requests later completes)

-- Holds if the share, if there is one, is given back with the counts after an event.
abbrev pub IsGivenBack : Option ShareView → Tally → Option ShareView → Type 0
IsGivenBack share after back = MatchOption share (back ≡ None) (λ s. back ≡ Some (share_view s.parts after))

-- Holds if the book counts what has moved the counts of a share on from one tally to another, and is
-- unchanged without a share.
abbrev pub IsRecorded : Option ShareView → (before after book book_then : Tally) → Type 0
IsRecorded share before after book book_then =
    MatchOption share (book_then ≡ book)
    (λ _. (requests : Requests) (later : ℕ) (completes : Bool) → after ≡ counted_all before requests later completes → book_then ≡ counted_all book requests later completes)

module _ {R : Type 0} (k : RecordRules R) where
  -- The tally with what the call of a note counts on a world: each request, each call of a device
  -- that is answered later, and a completion.
  abbrev pub tallied_by : Tally → World R → Note → Tally
  tallied_by t m n =
      let d = done k m n in
      counted_all t d.requests (later_among (calls_since (begun_at (entry_of n).moment m) d.world)) (is_completion d.call)

  -- What the event of a note sends, and the number of once requests among it.
  abbrev pub sent_by : World R → Note → SentCounts
  sent_by m n = sent_in (done k m n).world

  abbrev pub once_by : World R → Note → ℕ
  once_by m n = (sent_by m n).once

  -- The number of once requests that these calls send.
  abbrev pub once_sent : World R → List Note → ℕ
  once_sent m [] = 0
  once_sent m (n ∷ notes) = once_by m n + once_sent (done k m n).world notes

  -- The number of items that the events of these calls drop.
  abbrev pub dropped_in : World R → List Note → ℕ
  dropped_in m [] = 0
  dropped_in m (n ∷ notes) = (sent_by m n).dropped + dropped_in (done k m n).world notes

  -- Holds if the event counts the same in both worlds, sends as many once requests, and drops as many
  -- items.
  pub record CountAlike (m v : World R) (n : Note) : Type 0 where
    pub tally : (t : Tally) → tallied_by t m n ≡ tallied_by t v n
    pub sent : sent_by m n ≡ sent_by v n

  -- The tally with what these calls count on a world and those that follow it.
  abbrev pub counts_on : Tally → World R → List Note → Tally
  counts_on t m [] = t
  counts_on t m (n ∷ notes) = counts_on (tallied_by t m n) (done k m n).world notes

  -- The counts of these calls: of all requests that they make, of the calls of devices that are
  -- answered later, and of the completions among them.
  abbrev pub counts_of : World R → List Note → Tally
  counts_of m notes = counts_on no_counts m notes

  -- Holds if the event of a note moves the tally of its set on from one to another, or, if it comes
  -- without a share, counts nothing.
  abbrev pub DoesCount : World R → Note → Option ShareView → Tally → Tally → Type 0
  DoesCount m n share before after = MatchOption share ((t : Tally) → tallied_by t m n ≡ t) (λ _. after ≡ tallied_by before m n)

  module _ (base : World R) where
    -- Holds if an event sends this.
    abbrev Sends : SentCounts → List Note → Note → Type 0
    Sends sent log n = sent ≡ sent_by (map_of k base log) n

    -- Holds if an event counts this.
    abbrev CountsThis : Option ShareView → Tally → Tally → List Note → Note → Type 0
    CountsThis share before after log n = DoesCount (map_of k base log) n share before after

    -- Holds if an event sends this whatever list it follows, as in `AfterAny`.
    abbrev pub MaySend : List Note → List Key → Entry → SentCounts → Type 0
    MaySend seen owned made sent = AfterAny k base seen owned made (Sends sent)

    abbrev pub BothMaySend : List Note → List Key → List Note → List Key → Entry → SentCounts → Type 0
    BothMaySend seen owned also_seen also_owned made sent = AfterBoth k base seen owned also_seen also_owned made (Sends sent)

    -- Holds if an event counts this whatever list it follows.
    abbrev pub MayCount : List Note → List Key → Entry → Option ShareView → Tally → Tally → Type 0
    MayCount seen owned made share before after = AfterAny k base seen owned made (CountsThis share before after)

    abbrev pub BothMayCount : List Note → List Key → List Note → List Key → Entry → Option ShareView → Tally → Tally → Type 0
    BothMayCount seen owned also_seen also_owned made share before after = AfterBoth k base seen owned also_seen also_owned made (CountsThis share before after)

    -- What an event fulfils that may be appended by the owner of one pass: it may follow, and this
    -- is what it sends and counts.
    pub record MayAppend (pass : View) (made : Entry) (sent : SentCounts) (share : Option ShareView) (before after : Tally) : Type 0 where
      pub follows : MayFollow k base pass.seen pass.owns made
      pub begins : MayBegin pass.seen pass.owns made.call
      pub sends : MaySend pass.seen pass.owns made sent
      pub counts : MayCount pass.seen pass.owns made share before after
      pub backed : IsBacked share before

    -- The same for the owner of two passes. The second has the key of the puts with notification,
    -- if the event begins one.
    pub record BothMayAppend (one other : View) (made : Entry) (sent : SentCounts) (share : Option ShareView) (before after : Tally) : Type 0 where
      pub follows : BothMayFollow k base one.seen one.owns other.seen other.owns made
      pub begins : MayBegin other.seen other.owns made.call
      pub sends : BothMaySend one.seen one.owns other.seen other.owns made sent
      pub counts : BothMayCount one.seen one.owns other.seen other.owns made share before after
      pub backed : IsBacked share before

    -- Holds if the requests of these calls and the once requests that they send are fewer than 2^63.
    abbrev pub IsFew : List Note → Type 0
    IsFew log = requests_in log + once_sent base log < 2 ^ 63

    -- Holds if these are the tickets of the calls of a list.
    abbrev pub AreTicketsOf : List Note → TicketsView → Type 0
    AreTicketsOf log tickets = AreTickets tickets (requests_in log) (once_sent base log)
