use Rattle.ioc_engine.specs.Named.{name_of, devices_of, cell_of}
use Rattle.ioc_engine.proofs.lending.with_engine.Given as goal

-- The name of the engine.
abbrev pub ghosts-lend-B-JournalName : goal.ghosts-lend-B-JournalName
ghosts-lend-B-JournalName g a = name_of a.seed

abbrev pub ghosts-lend-B-CellName : goal.ghosts-lend-B-CellName
ghosts-lend-B-CellName g a = cell_of a.seed

abbrev pub ghosts-lend-B-SetsName : goal.ghosts-lend-B-SetsName
ghosts-lend-B-SetsName g a = devices_of a.seed
