-- What an event counts: tickets of the once requests that it has sent, and nothing if it is a
-- question. This project's own.
use Rattle.std.specs.Prelude.{◌≡◌, ℕ, List, ◌++◌, length}
use Rattle.ioc_record.specs.RecordRules.{RecordRules}
use Rattle.ioc_store.specs.World.{World}
use Rattle.ioc_store.specs.declared.outbox.OutboxItem.{OutboxItem}
use Rattle.ioc_events.specs.declared.event.Entry.{Entry}
use Rattle.ioc_journal.specs.declared.entry.Note.{Note}
use Rattle.ioc_journal.specs.Key.{Key}
use Rattle.ioc_journal.specs.Line.{noted, Continues}
use Rattle.ioc_journal.specs.Legal.{map_of, IsLegal, IsSound}
use Rattle.ioc_journal.specs.Account.{journalled}
use Rattle.ioc_journal.specs.CountLaws.{CountsNothing}
use Rattle.ioc_journal.specs.Counting.{once_in, IsFew}

-- Holds if there are as many tickets as once requests among these items, provided that the requests
-- and once requests of all calls are fewer than 2^63.
abbrev pub AreTicketsFor : {R : Type 0} → RecordRules R → World R → List Note → List OutboxItem → ℕ → Type 0
AreTicketsFor k base log items tickets = IsFew k base log → tickets ≡ length (once_in items)

module _ {R : Type 0} (k : RecordRules R) (base : World R) where
  -- Holds if an event counts nothing and sends no once request after any legal list that continues
  -- from one that was seen, without the keys.
  abbrev pub MayCountNothing : List Note → List Key → Entry → Type 0
  MayCountNothing seen owned made = (log : List Note) (desk call : ℕ) (own : List Key) → IsSound k base → Continues seen owned log → IsLegal k base log
      → CountsNothing k (map_of k base log) (noted (journalled desk call made) (owned ++ own))
