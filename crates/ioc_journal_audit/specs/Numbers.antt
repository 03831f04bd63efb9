-- The numbers of entries, of the calls of each desk, and of puts with notification.
use Rattle.std.specs.Prelude.{ℕ, suc, nat_eq, Bool, List, Option, Some, None, Contains}
use Rattle.std.specs.Bool.{Decides}
use Rattle.std.specs.HashMap.{get}
use Rattle.std.specs.HashSet.{contains}
use Rattle.ioc_journal_audit.specs.declared.counts.DeskCounts.{DeskCounts}
use Rattle.ioc_journal_audit.specs.declared.counts.NumbersBegun.{NumbersBegun}

-- How many numbers there are, from 0 on to the last one.
abbrev pub count_to : Option ℕ → ℕ
count_to None = 0
count_to (Some last) = suc last

-- How many calls a desk has made.
unfoldable pub count_in : DeskCounts → ℕ → ℕ
count_in counts desk = count_to (get nat_eq counts.last desk)

-- Holds if a put with notification has begun under this number.
unfoldable pub has_begun : NumbersBegun → ℕ → Bool
has_begun begun number = contains nat_eq begun.numbers number

-- Holds if these are the numbers under which puts with notification have begun.
abbrev pub AreBegun : NumbersBegun → List ℕ → Type 0
AreBegun begun numbers = (number : ℕ) → Decides (has_begun begun number) (Contains numbers number)
