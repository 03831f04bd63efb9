use Rattle.std.proofs.Common.{◌≡◌, ◌<◌, ◌+◌, ◌^◌, ◌++◌, length}
use Rattle.ioc_journal_file.specs.Entries.{entry_lines}
use Rattle.ioc_journal_file.proofs.entries.add_entries.Given as goal

-- The lines so far and those of the rest are the lines of all, and so are the places.
abbrev pub invariant-loop-rest : goal.invariant-loop-rest
invariant-loop-rest l =
    l.first + length l.entries < 2 ^ 64
    → (l.text.items ++ entry_lines l.place l.rest ≡ l.initial.text.items ++ entry_lines l.first l.entries)
    × (l.place + length l.rest ≡ l.first + length l.entries)

abbrev pub decreases-loop-rest : goal.decreases-loop-rest
decreases-loop-rest l = length l.rest
