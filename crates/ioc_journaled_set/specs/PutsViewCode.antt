-- The encoding of the puts with notification as a tuple of their parts.
use Rattle.std.specs.Prelude.{ℕ, List, refl}
use Rattle.std.specs.Coded.{Coded, code_by, coded×, coded_list, coded_ℕ}
use Rattle.ioc_notify.specs.declared.live_numbers.Live.{Live}
use Rattle.ioc_notify.specs.contracts.live_numbers.Live as live_row
use Rattle.ioc_journal.specs.declared.entry.Note.{Note}
use Rattle.ioc_journal.specs.contracts.entry.Note as note_row
use Rattle.ioc_journaled_set.specs.Puts.{PutsView, puts_view}

abbrev pub puts_code : Coded PutsView
puts_code =
    code_by (List Live × (List ℕ × (ℕ × List Note))) (coded× (coded_list live_row.the_row.coded) (coded× (coded_list coded_ℕ) (coded× coded_ℕ (coded_list note_row.the_row.coded))))
    (λ p. (p.live, (p.taken, (p.last, p.seen))))
    (λ p. puts_view p.0 p.1.0 p.1.1.0 p.1.1.1)
    (λ _. refl)
