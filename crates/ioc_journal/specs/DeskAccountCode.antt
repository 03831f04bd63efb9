-- The encoding of a desk as a tuple of its parts.
use Rattle.std.specs.Prelude.{ℕ, List, refl}
use Rattle.std.specs.Coded.{Coded, code_by, coded×, coded_list, coded_ℕ}
use Rattle.ioc_journal.specs.declared.entry.Note.{Note}
use Rattle.ioc_journal.specs.contracts.entry.Note as note_row
use Rattle.ioc_journal.specs.Account.{DeskView, desk_view}

abbrev pub desk_code : Coded DeskView
desk_code =
    code_by (ℕ × (ℕ × List Note)) (coded× coded_ℕ (coded× coded_ℕ (coded_list note_row.the_row.coded)))
    (λ d. (d.number, (d.next, d.seen)))
    (λ p. desk_view p.0 p.1.0 p.1.1)
    (λ _. refl)
