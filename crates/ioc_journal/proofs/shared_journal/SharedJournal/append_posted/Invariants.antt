use Rattle.ioc_journal.proofs.shared_journal.SharedJournal.append_posted.Given as goal

abbrev pub ghosts-append_posted_as : goal.ghosts-append_posted_as
ghosts-append_posted_as g a = record { entry = a.entry }
