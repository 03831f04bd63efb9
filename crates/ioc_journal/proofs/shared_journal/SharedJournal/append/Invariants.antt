use Rattle.ioc_journal.proofs.shared_journal.SharedJournal.append.Given as goal

abbrev pub ghosts-append_as : goal.ghosts-append_as
ghosts-append_as g a = record { entry = a.entry }
