-- The tickets of requests, and the steps by which their numbers move. Application Developer's Guide,
-- "Scanning": scanOnce, callback tasks. The tickets are this project's own.
use Rattle.std.specs.Prelude.{◌≡◌, ◌+◌, ◌<◌, ◌≤◌, ◌^◌, ℕ, Bool, true, false, Option, Some, None, if◌then◌else◌}
use Rattle.ioc_ledger.specs.Counts.{Counts}

-- The counts of the ledger of tickets, and the numbers of tickets that were begun for once requests,
-- that were begun for requests on callback queues, and that were spent by requests which came with
-- them.
pub record TicketsView : Type 0 where
  pub counts : Counts
  pub sent : ℕ
  pub called : ℕ
  pub served : ℕ

abbrev pub tickets_view : Counts → ℕ → ℕ → ℕ → TicketsView
tickets_view counts sent called served = record { counts = counts; sent = sent; called = called; served = served }

-- Holds if each request has spent a ticket, and each once request that was sent had one begun for
-- it. A request that came with a ticket has spent that one, and a ticket was begun for every other,
-- for each once request, and for each request on a callback queue; for nothing else. Nothing is said
-- of these if the requests and once requests are 2^63 or more. No more than 2^63 tickets were begun
-- for callback queues.
pub record AreTickets (t : TicketsView) (requests once : ℕ) : Type 0 where
  pub most : t.called ≤ 2 ^ 63
  pub spent : requests + once < 2 ^ 63 → t.counts.spent ≡ requests
  pub sent_are : requests + once < 2 ^ 63 → t.sent ≡ once
  pub begun_are : requests + once < 2 ^ 63 → t.counts.begun + t.served ≡ requests + once + t.called

-- The number of tickets that a call spends of those that it came with: a request spends the one that
-- is counted.
abbrev pub served_by : Bool → Option Bool → ℕ
served_by true (Some true) = 1
served_by _ _ = 0

-- The number of tickets that are handed back since they came with a call that is no request.
abbrev pub returned_by : Bool → Option Bool → ℕ
returned_by false (Some true) = 1
returned_by _ _ = 0

-- The ticket that a call spends of those that it came with: that of a request.
abbrev pub spent_by : Bool → Option Bool → Option Bool
spent_by is_request ticket = if is_request then ticket else None

-- Holds if a call, which may be a request, has spent the ticket that it came with or else handed it
-- back.
pub record TakesTicket (is_request : Bool) (ticket : Option Bool) (before after : TicketsView) : Type 0 where
  pub served : after.served ≡ before.served + served_by is_request ticket
  pub back : after.counts.back ≡ before.counts.back + returned_by is_request ticket
  pub called : after.called ≡ before.called

-- Holds if this many tickets were begun for requests on callback queues.
pub record AreCalled (count : ℕ) (before after : TicketsView) : Type 0 where
  pub begun : after.counts.begun ≡ before.counts.begun + count
  pub spent : after.counts.spent ≡ before.counts.spent
  pub back : after.counts.back ≡ before.counts.back
  pub out : after.counts.out ≡ before.counts.out + count
  pub sent : after.sent ≡ before.sent
  pub called : after.called ≡ before.called + count
  pub served : after.served ≡ before.served

-- Holds if this many tickets that were out were handed back.
pub record AreBack (count : ℕ) (before after : TicketsView) : Type 0 where
  pub begun : after.counts.begun ≡ before.counts.begun
  pub spent : after.counts.spent ≡ before.counts.spent
  pub back : after.counts.back ≡ before.counts.back + count
  pub out : after.counts.out + count ≡ before.counts.out
  pub sent : after.sent ≡ before.sent
  pub called : after.called ≡ before.called
  pub served : after.served ≡ before.served
