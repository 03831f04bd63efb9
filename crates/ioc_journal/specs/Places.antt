-- A list with a limited number of places, and a journal, which has such a list. This project's own.
use Rattle.std.specs.Prelude.{◌≡◌, ◌⊎◌, ◌≤◌, ◌+◌, ℕ, List}
use Rattle.ioc_values.specs.declared.error.IocError.{IocError}
use Rattle.ioc_values.specs.declared.error.IocError.TheVariants.{NoMemory, JournalFull}
use Rattle.ioc_journal.specs.declared.limits.Limits.{Limits}
use Rattle.ioc_journal.specs.Tickets.{TicketsView}

-- The filled places, the number of places that have memory, and the limit of that number.
pub record PlacesOf (X : Type 0) : Type 0 where
  pub filled : List X
  pub given : ℕ
  pub limit : ℕ

abbrev pub places_of : {X : Type 0} → List X → ℕ → ℕ → PlacesOf X
places_of filled given limit = record { filled = filled; given = given; limit = limit }

-- A journal: the list of all that was added, the number of those whose entries were dropped, the
-- number of places that have memory, the limit of that number, the number of desks that were opened,
-- and the tickets of requests.
pub record JournalOf (X : Type 0) : Type 0 where
  pub filled : List X
  pub dropped : ℕ
  pub given : ℕ
  pub limit : ℕ
  pub desks : ℕ
  pub tickets : TicketsView

abbrev pub journal_of : {X : Type 0} → List X → ℕ → ℕ → ℕ → ℕ → TicketsView → JournalOf X
journal_of filled dropped given limit desks tickets = record { filled = filled; dropped = dropped; given = given; limit = limit; desks = desks; tickets = tickets }

-- The same with one more desk opened.
abbrev pub one_more_desk : {X : Type 0} → JournalOf X → JournalOf X
one_more_desk j = journal_of j.filled j.dropped j.given j.limit (j.desks + 1) j.tickets

-- The same with other tickets.
abbrev pub with_tickets : {X : Type 0} → JournalOf X → TicketsView → JournalOf X
with_tickets j tickets = journal_of j.filled j.dropped j.given j.limit j.desks tickets

-- The errors of a call for which no place can be held.
abbrev pub IsNoPlace : IocError → Type 0
IsNoPlace error = (error ≡ JournalFull) ⊎ (error ≡ NoMemory)

-- The number of places that a journal may have, that may be free when a checkpoint is made, and of
-- events that a set may keep.
abbrev pub AreAllowed : Limits → Type 0
AreAllowed limits = (1 ≤ limits.journal) × (limits.journal ≤ 4194304) × (limits.checkpoint_at ≤ limits.journal) × (1 ≤ limits.history) × (limits.history ≤ 64)
