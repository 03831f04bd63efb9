use Rattle.std.proofs.Common.{◌+◌, ℕ, if◌then◌else◌, sym, subst, arith}
use Rattle.ioc_journal.specs.Tickets.{TicketsView, tickets_view, AreTickets}
use Rattle.ioc_journal.proofs.Ticketing.{batch-is, sent-then}
use Rattle.ioc_journal.proofs.request_tickets.TicketCounts.add.Goals as goal

pub returns-then-sent-eq0-clause-tickets : goal.returns-then-sent-eq0-clause-tickets
returns-then-sent-eq0-clause-tickets g c = λ requests once are.
    let s = c.self.inside in
    let t = tickets_view s.ledger s.sent s.called s.served in
    let made = (if c.args.is_request then 1 else 0) + requests in
    let taken = subst (λ (v : TicketsView). AreTickets v made once) (sym c.self.view_is) (c.take-spent.ensures.tickets requests once are) in
    subst (λ (n : ℕ). AreTickets (tickets_view c.begin_many-begun.new.self s.sent s.called s.served) made (n + once)) (sym c.if-sent-eq0.true)
    (sent-then t c.begin_many-begun.result 0 c.begin_many-begun.new.self c.begin_many-begun.ensures.counted made once taken s.sent (λ few. omega arith))

pub returns-clause-tickets : goal.returns-clause-tickets
returns-clause-tickets g c = λ requests once are.
    let s = c.self.inside in
    let t = tickets_view s.ledger s.sent s.called s.served in
    let made = (if c.args.is_request then 1 else 0) + requests in
    let taken = subst (λ (v : TicketsView). AreTickets v made once) (sym c.self.view_is) (c.take-spent.ensures.tickets requests once are) in
    sent-then t c.begin_many-begun-2.result c.args.sent c.begin_many-begun-2.new.self c.begin_many-begun-2.ensures.counted made once taken c.saturating_add-self-inside.result
    (λ few. omega (arith, c.saturating_add-self-inside.ensures, few))

pub returns-clause-begun : goal.returns-clause-begun
returns-clause-begun g c = λ requests once are few.
    let s = c.self.inside in
    let t = tickets_view s.ledger s.sent s.called s.served in
    let made = (if c.args.is_request then 1 else 0) + requests in
    let taken = subst (λ (v : TicketsView). AreTickets v made once) (sym c.self.view_is) (c.take-spent.ensures.tickets requests once are) in
    batch-is t c.begin_many-begun-2.result c.args.sent c.begin_many-begun-2.new.self c.begin_many-begun-2.ensures.counted made once taken few
