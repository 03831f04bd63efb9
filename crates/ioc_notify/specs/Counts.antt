-- How many records and waiting lists are part of each put with notification, over all lock sets.
-- Application Developer's Guide, "Put with Notification" (dbPutNotify): it is complete when all
-- that it has reached is done.
use Rattle.std.specs.Prelude.{ℕ, ◌≤◌, ◌==◌, if◌then◌else◌, List}
use Rattle.std.specs.List.{sum_by}
use Rattle.ioc_notify.specs.declared.live_numbers.Live.{Live}

-- The live ones, and the number for which there is room.
pub record Table : Type 0 where
  pub live : List Live
  pub room : ℕ

-- The count of this number by one line.
abbrev pub has_by : ℕ → Live → ℕ
has_by number l = if l.number == number then l.holders else 0

-- The count of this number by these lines together.
abbrev pub holders_in : ℕ → List Live → ℕ
holders_in number ls = sum_by (λ l. has_by number l) ls

-- The number of lines for this number.
abbrev pub lines_of : ℕ → List Live → ℕ
lines_of number ls = sum_by (λ l. if l.number == number then 1 else 0) ls

-- Holds if each number has at most one line, and no line has the count 0.
pub record IsTable (live : List Live) : Type 0 where
  pub once : (n : ℕ) → lines_of n live ≤ 1
  pub held : (n : ℕ) → lines_of n live ≤ holders_in n live
