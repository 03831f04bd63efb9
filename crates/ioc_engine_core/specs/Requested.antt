-- Requests that a desk has served, one after another. Application Developer's Guide, "Scanning
-- Specification": periodic scans, callback tasks. The journal is this project's own.
use Rattle.std.specs.Prelude.{◌≡◌, ◌+◌, ◌++◌, ℕ, true, List, All, length}
use Rattle.ioc_journal.specs.declared.entry.JournalEntry.{JournalEntry}
use Rattle.ioc_journal.specs.Line.{Begins}
use Rattle.ioc_journal.specs.Account.{DeskView, calls, calls_by}
use Rattle.ioc_journal.specs.Counting.{is_request}

-- A desk has served this many requests and made no other call: it is the same desk, its list goes on
-- from the one that it had seen, and its own calls since are these requests.
pub record HasServed (count : ℕ) (before after : DeskView) : Type 0 where
  pub served : List JournalEntry
  pub number : after.number ≡ before.number
  pub next : after.next ≡ before.next + count
  pub begins : Begins before.seen after.seen
  pub own : calls_by after.number (calls after.seen) ≡ calls_by before.number (calls before.seen) ++ served
  pub many : length served ≡ count
  pub requests : All (λ e. is_request e.entry.call ≡ true) served

-- A desk has served requests, or none, and made no other call.
abbrev pub HasServedSome : DeskView → DeskView → Type 0
HasServedSome before after = (count : ℕ) × HasServed count before after
