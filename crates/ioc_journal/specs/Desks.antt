-- The invariants of the journal, a desk and a receipt.
use Rattle.std.specs.Prelude.{◌≡◌, ℕ, ◌+◌, ◌<◌, ◌≤◌, ◌^◌, List, [], ◌∷◌, length, take, drop, Option, MatchOption}
use Rattle.atomic_table.specs.Seated.{TableId}
use Rattle.ioc_ledger.specs.declared.tally.Tally.{Tally}
use Rattle.ioc_ledger.specs.Requests.{capped}
use Rattle.ioc_record.specs.RecordRules.{RecordRules}
use Rattle.ioc_store.specs.World.{World}
use Rattle.ioc_journal.specs.declared.entry.JournalEntry.{JournalEntry}
use Rattle.ioc_journal.specs.declared.entry.Note.{Note}
use Rattle.ioc_journal.specs.declared.base.JournalBase.{JournalBase}
use Rattle.ioc_journal.specs.declared.cell.View.{View}
use Rattle.ioc_journal.specs.Key.{Key, Has}
use Rattle.ioc_journal.specs.Line.{keeper, holder}
use Rattle.ioc_journal.specs.Legal.{IsSound, map_of}
use Rattle.ioc_journal.specs.Base.{IsBaseOf}
use Rattle.ioc_journal.specs.Tickets.{TicketsView}
use Rattle.ioc_journal.specs.Counting.{AreTicketsOf, counts_of, dropped_in}
use Rattle.ioc_journal.specs.Account.{calls, desk_key, Below, IsAccount}

-- The first of these calls were dropped. They lead to the base, if there is one; otherwise none were
-- dropped.
abbrev pub LeadsFrom : {R : Type 0} → RecordRules R → World R → Option (JournalBase R) → ℕ → List Note → Type 0
LeadsFrom {R} k base from dropped seen = MatchOption from (dropped ≡ 0) (λ (b : JournalBase R). IsBaseOf (map_of k base (take dropped seen)) b.records.items b.waiting.items)

module _ {R : Type 0} (k : RecordRules R) (base : World R) (table id : TableId) (v : View) where
  -- The invariant of a journal: its pass is the keeper's, its entries are the calls of the list
  -- behind those that were dropped, these lead to the base, if some were, the list is legal from a
  -- sound world on, its requests have their tickets, what its calls count is in the book, and
  -- the items that they drop are counted.
  pub record IsKept (items : List JournalEntry) (dropped : ℕ) (from : Option (JournalBase R)) (desks : ℕ) (tickets : TicketsView) (book : Tally) (items_dropped : ℕ) : Type 0 where
    pub same : id ≡ table
    pub keeps : v ≡ keeper v.seen v.born
    pub items_are : items ≡ drop dropped (calls v.seen)
    pub within : dropped ≤ length v.seen
    pub few : dropped ≤ 2 ^ 63
    pub leads_from : LeadsFrom k base from dropped v.seen
    pub sound : IsSound k base
    pub account : IsAccount k base v.seen
    -- Only desks below this number have keys and calls.
    pub given : (key : Key) → Has key v.born → key.0 ≡ 1 → key.1 < desks
    pub new_desk : (d : ℕ) → desks ≤ d → Below d 0 (calls v.seen)
    pub tickets_are : AreTicketsOf k base v.seen tickets
    pub counted : book ≡ counts_of k base v.seen
    pub drops : items_dropped ≡ capped (dropped_in k base v.seen)

  -- The invariant of a desk: its pass owns its key, its calls have numbers below the next one,
  -- which is at most the number of calls that it has seen, and the list of these is legal.
  pub record IsDesk (number next : ℕ) : Type 0 where
    pub same : id ≡ table
    pub holds : v ≡ holder v.seen (desk_key number ∷ [])
    pub below : Below number next (calls v.seen)
    pub count : next ≤ length v.seen
    pub account : IsAccount k base v.seen

  -- The invariant of a receipt: its pass owns nothing, and its legal list ends at its place.
  pub record IsReceipt (place : ℕ) : Type 0 where
    pub same : id ≡ table
    pub holds : v ≡ holder v.seen []
    pub ends : length v.seen ≡ place + 1
    pub account : IsAccount k base v.seen
