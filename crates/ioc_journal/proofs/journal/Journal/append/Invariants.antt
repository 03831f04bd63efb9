use Rattle.std.specs.Prelude.{◌++◌}
use Rattle.crossbeam_utils.specs.Seq.{cell_view}
use Rattle.ioc_journal.specs.Line.{noted}
use Rattle.ioc_journal.proofs.journal.Journal.append.Given as goal

abbrev pub ghosts-append-K-Keys : goal.ghosts-append-K-Keys
ghosts-append-K-Keys g a = record { keys = (cell_view a.set.now).owns; rest = (cell_view a.desk.now).owns }

abbrev pub ghosts-append-S-NoteName : goal.ghosts-append-S-NoteName
ghosts-append-S-NoteName g a = record { note = noted a.entry.now ((cell_view a.set.now).owns ++ (cell_view a.desk.now).owns) }
