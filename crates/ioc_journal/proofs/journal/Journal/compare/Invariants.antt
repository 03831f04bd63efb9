use Rattle.crossbeam_utils.specs.Seq.{cell_view}
use Rattle.ioc_journal.proofs.journal.Journal.compare.Given as goal

abbrev pub ghosts-compare : goal.ghosts-compare
ghosts-compare g a = record { keys = (cell_view a.a.now).owns; rest = (cell_view a.b.now).owns }
