-- The encoding of a journaled set as a pair of its parts.
use Rattle.std.specs.Prelude.{List, refl}
use Rattle.std.specs.Coded.{Coded, code_by, coded×, coded_list}
use Rattle.ioc_journal.specs.declared.entry.Note.{Note}
use Rattle.ioc_journal.specs.contracts.entry.Note as note_row
use Rattle.ioc_set.specs.SetState.{SetState}
use Rattle.ioc_set.specs.SetStateCode.{held_code}
use Rattle.ioc_watched.specs.Watched.{WatchedRecord}
use Rattle.ioc_watched.specs.WatchedCode.{watched_code}
use Rattle.ioc_journaled_set.specs.Holding.{HeldView, watching}

abbrev pub held_view_code : {R D : Type 0} → Coded R → Coded D → Coded (HeldView R D)
held_view_code {R} {D} r d =
    code_by (SetState R D × (List Note × List WatchedRecord)) (coded× (held_code r d) (coded× (coded_list note_row.the_row.coded) (coded_list watched_code)))
    (λ h. (h.set, (h.seen, h.watched))) (λ p. watching p.0 p.1.0 p.1.1) (λ _. refl)
