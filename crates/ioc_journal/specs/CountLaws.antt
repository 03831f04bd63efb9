-- The laws of counts. Application Developer's Guide, "Database Locking, Scanning, and Processing".
use Rattle.std.specs.Prelude.{◌≡◌, Bool, true, false, List}
use Rattle.ioc_ledger.specs.declared.tally.Tally.{Tally}
use Rattle.ioc_record.specs.RecordRules.{RecordRules}
use Rattle.ioc_store.specs.World.{World}
use Rattle.ioc_events.specs.declared.event.Call.{Call}
use Rattle.ioc_events.specs.declared.event.Call.TheVariants as call
use Rattle.ioc_journal.specs.declared.entry.Note.{Note}
use Rattle.ioc_journal.specs.Legal.{IsLegal, IsSound, entry_of, map_of}
use Rattle.ioc_journal.specs.Covering.{Holds, IsOf}
use Rattle.ioc_journal.specs.Counting.{tallied_by, sent_by, once_by, nothing_sent, CountAlike}

-- Holds of a call that changes nothing: a get, the question whether a put with notification is live, a
-- posted event, and an interrupt.
abbrev pub counts_nothing : Call → Bool
counts_nothing (call.Event event reply) = false
counts_nothing (call.Link s field link reply) = false
counts_nothing _ = true

abbrev pub is_link_change : Call → Bool
is_link_change (call.Link s field link reply) = true
is_link_change _ = false

module _ {R : Type 0} (k : RecordRules R) where
  -- Holds if the event of a note counts nothing, sends no once request, and drops nothing.
  pub record CountsNothing (m : World R) (n : Note) : Type 0 where
    pub tally : (t : Tally) → tallied_by k t m n ≡ t
    pub sent : sent_by k m n ≡ nothing_sent

  -- An event of a held part counts the same in the part as among all records.
  abbrev pub PartsCountAlike : Type 0
  PartsCountAlike = (base v : World R) (log : List Note) (n : Note) → IsSound k base → IsLegal k base log → Holds k (map_of k base log) v
      → IsOf k (map_of k base log) v n → CountAlike k (map_of k base log) v n

  -- Neither a get, the question whether a put with notification is live, nor a posted event or an
  -- interrupt counts anything.
  abbrev pub QuestionsCountNothing : Type 0
  QuestionsCountNothing = (m : World R) (n : Note) → counts_nothing (entry_of n).call ≡ true → CountsNothing m n

  -- A link change counts nothing and sends no once request.
  abbrev pub LinksCountNothing : Type 0
  LinksCountNothing = (m : World R) (n : Note) → is_link_change (entry_of n).call ≡ true → ((t : Tally) → tallied_by k t m n ≡ t) × (once_by k m n ≡ 0)
