-- The encoding of a list of places, and of a journal, each as a tuple of its parts.
use Rattle.std.specs.Prelude.{ℕ, List, refl}
use Rattle.std.specs.Coded.{Coded, code_by, coded×, coded_list, coded_ℕ}
use Rattle.ioc_journal.specs.declared.entry.JournalEntry.{JournalEntry}
use Rattle.ioc_journal.specs.declared.entry.Note.{Note}
use Rattle.ioc_journal.specs.contracts.entry.JournalEntry as entry_row
use Rattle.ioc_journal.specs.contracts.entry.Note as note_row
use Rattle.ioc_ledger.specs.Counts.{counts}
use Rattle.ioc_journal.specs.Tickets.{tickets_view}
use Rattle.ioc_journal.specs.Places.{PlacesOf, JournalOf, places_of, journal_of}

abbrev pub places_code : {X : Type 0} → Coded X → Coded (PlacesOf X)
places_code {X} x =
    code_by (List X × (ℕ × ℕ)) (coded× (coded_list x) (coded× coded_ℕ coded_ℕ))
    (λ p. (p.filled, (p.given, p.limit)))
    (λ p. places_of p.0 p.1.0 p.1.1)
    (λ _. refl)

abbrev pub entries_code : Coded (PlacesOf JournalEntry)
entries_code = places_code entry_row.the_row.coded

abbrev pub journal_code : Coded (JournalOf Note)
journal_code =
    code_by (List Note × (ℕ × (ℕ × (ℕ × (ℕ × (ℕ × (ℕ × (ℕ × (ℕ × (ℕ × (ℕ × ℕ))))))))))) (coded× (coded_list note_row.the_row.coded) (coded× coded_ℕ (coded× coded_ℕ (coded× coded_ℕ (coded× coded_ℕ (coded× coded_ℕ (coded× coded_ℕ (coded× coded_ℕ (coded× coded_ℕ (coded× coded_ℕ (coded× coded_ℕ coded_ℕ)))))))))))
    (λ j. (j.filled, (j.dropped, (j.given, (j.limit, (j.desks, (j.tickets.counts.begun, (j.tickets.counts.spent, (j.tickets.counts.back, (j.tickets.counts.out, (j.tickets.sent, (j.tickets.called, j.tickets.served))))))))))))
    (λ p. journal_of p.0 p.1.0 p.1.1.0 p.1.1.1.0 p.1.1.1.1.0 (tickets_view (counts p.1.1.1.1.1.0 p.1.1.1.1.1.1.0 p.1.1.1.1.1.1.1.0 p.1.1.1.1.1.1.1.1.0) p.1.1.1.1.1.1.1.1.1.0 p.1.1.1.1.1.1.1.1.1.1.0 p.1.1.1.1.1.1.1.1.1.1.1))
    (λ _. refl)
