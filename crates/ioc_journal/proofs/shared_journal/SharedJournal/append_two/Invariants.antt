use Rattle.ioc_journal.proofs.shared_journal.SharedJournal.append_two.Given as goal

abbrev pub ghosts-append_two_as : goal.ghosts-append_two_as
ghosts-append_two_as g a = record { entry = a.entry }
