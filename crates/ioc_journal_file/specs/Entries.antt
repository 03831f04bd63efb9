-- The lines of the journal's entries, in the order of their places.
use Rattle.std.specs.Prelude.{ℕ, ◌+◌, List, [], ◌∷◌, ◌++◌}
use Rattle.ioc_journal.specs.declared.entry.JournalEntry.{JournalEntry}
use Rattle.ioc_journal_file.specs.Form.{line_of}

-- The line of the entry at a place.
unfoldable pub entry_line : ℕ → JournalEntry → List ℕ
entry_line place kept =
    line_of (record { place = place; desk = kept.desk; call = kept.call; moment = kept.entry.moment }) kept.entry.call kept.entry.answers

-- The lines of entries, of which the first is at this place.
abbrev pub entry_lines : ℕ → List JournalEntry → List ℕ
entry_lines place [] = []
entry_lines place (kept ∷ entries) = entry_line place kept ++ entry_lines (place + 1) entries
