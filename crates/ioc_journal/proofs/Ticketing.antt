-- The tickets of a call that sends once requests.
use Rattle.std.proofs.Common.{◌≡◌, ℕ, ◌+◌, ◌<◌, ◌^◌, ap, ◌∙◌, arith}
use Rattle.ioc_ledger.specs.Counts.{Counts, counts}
use Rattle.ioc_journal.specs.Tickets.{TicketsView, tickets_view, AreTickets}

module _ (t : TicketsView) (batch sent : ℕ) (then : Counts)
    (counted : t.counts.begun + sent < 2 ^ 64 → (batch ≡ sent) × (then ≡ counts (t.counts.begun + sent) t.counts.spent t.counts.back (t.counts.out + sent)))
    (requests once : ℕ) (are : AreTickets t requests once) where
  room : requests + (sent + once) < 2 ^ 63 → t.counts.begun + sent < 2 ^ 64
  room few = let is = are.begun_are (omega (arith, few)) in omega (arith, is, are.most, few)

  pub batch-is : requests + (sent + once) < 2 ^ 63 → batch ≡ sent
  batch-is few = (counted (room few)).0

  pub sent-then : (sum : ℕ) → (t.sent + sent < 2 ^ 64 → sum ≡ t.sent + sent) → AreTickets (tickets_view then sum t.called t.served) requests (sent + once)
  sent-then sum sum_is = record {
    most = are.most;
    spent = λ few. ap (λ (x : Counts). x.spent) (counted (room few)).1 ∙ are.spent (omega (arith, few));
    sent_are = λ few. let is = are.sent_are (omega (arith, few)) in let summed = sum_is (omega (arith, is, few)) in omega (arith, is, summed);
    begun_are = λ few. let is = are.begun_are (omega (arith, few)) in let more = ap (λ (x : Counts). x.begun) (counted (room few)).1 in omega (arith, is, more);
  }
