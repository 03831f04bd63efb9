use Rattle.std.specs.Prelude.{◌++◌}
use Rattle.crossbeam_utils.specs.Seq.{cell_view}
use Rattle.ioc_journal.specs.Line.{noted}
use Rattle.ioc_journal.proofs.journal.Journal.append_two.Given as goal

abbrev pub ghosts-deal-K-Keys : goal.ghosts-deal-K-Keys
ghosts-deal-K-Keys g a = record { keys = g.P.Keys.keys; rest = g.P.Keys.rest ++ (cell_view a.desk.now).owns }

abbrev pub ghosts-deal-L-Keys : goal.ghosts-deal-L-Keys
ghosts-deal-L-Keys g a = record { keys = g.P.Keys.rest; rest = (cell_view a.desk.now).owns }

abbrev pub ghosts-deal-S-NoteName : goal.ghosts-deal-S-NoteName
ghosts-deal-S-NoteName g a = record { note = noted a.entry.now (((cell_view a.a.now).owns ++ (cell_view a.b.now).owns) ++ (cell_view a.desk.now).owns) }
