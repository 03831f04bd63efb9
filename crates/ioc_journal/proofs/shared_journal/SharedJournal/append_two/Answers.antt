use Rattle.ioc_journal.proofs.shared_journal.SharedJournal.append_two.Goals as goal

pub append_two_as-requires-clause-may : goal.append_two_as-requires-clause-may
append_two_as-requires-clause-may g c = record { follows = c.requires.follows; begins = c.requires.begins; sends = c.requires.sent; counts = c.requires.counts; backed = c.requires.backed }
