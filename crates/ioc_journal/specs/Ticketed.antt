-- The tickets that stand beside a journal. This project's own.
use Rattle.std.specs.Prelude.{◌≡◌, ◌+◌, List}
use Rattle.ioc_record.specs.RecordRules.{RecordRules}
use Rattle.ioc_store.specs.World.{World}
use Rattle.ioc_journal.specs.declared.entry.Note.{Note}
use Rattle.ioc_journal.specs.declared.request_tickets.TicketTally.{TicketTally}
use Rattle.ioc_journal.specs.Counting.{requests_in, once_sent, IsFew}
pub use Rattle.ioc_journal.specs.Tickets.{TicketsView, tickets_view, TakesTicket, AreCalled, AreBack}

-- Holds if each ticket that was begun was spent, was handed back, or is out; each request among these
-- calls has spent one; one was begun for each once request that the calls have sent; and a ticket was
-- begun for each of these, but for the requests that came with one, and for each request on a
-- callback queue. The last three hold if the requests and once requests are fewer than 2^63 together.
pub record AreTicketed {R : Type 0} (k : RecordRules R) (base : World R) (log : List Note) (t : TicketTally) : Type 0 where
  pub each : t.begun ≡ t.spent + t.handed_back + t.out
  pub spent : IsFew k base log → t.spent ≡ requests_in log
  pub sent : IsFew k base log → t.sent ≡ once_sent k base log
  pub begun_are : IsFew k base log → t.begun + t.served ≡ t.spent + t.sent + t.called
