use Rattle.std.proofs.Common.{◌+◌, Bool, if◌then◌else◌, sym, subst}
use Rattle.ioc_journal.specs.Tickets.{AreTickets}
use Rattle.ioc_journal.proofs.request_tickets.TicketCounts.take.Goals as goal

pub returns-in-Some-clause-tickets : goal.returns-in-Some-clause-tickets
returns-in-Some-clause-tickets g c = λ requests once are.
    subst (λ (b : Bool). AreTickets c.spend.new.self ((if b then 1 else 0) + requests) once) (sym c.if-is_request.true) (c.spend.ensures.tickets requests once are)

pub returns-in-None-clause-tickets : goal.returns-in-None-clause-tickets
returns-in-None-clause-tickets g c = λ requests once are.
    subst (λ (b : Bool). AreTickets c.spend_new.new.self ((if b then 1 else 0) + requests) once) (sym c.if-is_request-2.true) (c.spend_new.ensures.tickets requests once are)
