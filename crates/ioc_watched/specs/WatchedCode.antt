-- The encoding of a watched record as a pair of its parts.
use Rattle.std.specs.Prelude.{ℕ, Bool, List, refl}
use Rattle.std.specs.Coded.{Coded, code_by, coded×, coded_ℕ, coded_bool, coded_list}
use Rattle.ioc_journal.specs.declared.entry.Note.{Note}
use Rattle.ioc_journal.specs.contracts.entry.Note as note_row
use Rattle.ioc_watched.specs.Watched.{WatchedRecord}

abbrev pub watched_code : Coded WatchedRecord
watched_code =
    code_by (ℕ × (List Note × Bool)) (coded× coded_ℕ (coded× (coded_list note_row.the_row.coded) coded_bool)) (λ w. (w.number, (w.told, w.is_marked)))
    (λ p. record { number = p.0; told = p.1.0; is_marked = p.1.1 }) (λ _. refl)
