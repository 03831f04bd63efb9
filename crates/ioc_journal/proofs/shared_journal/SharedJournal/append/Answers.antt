use Rattle.ioc_journal.proofs.shared_journal.SharedJournal.append.Goals as goal

pub append_as-requires-clause-may : goal.append_as-requires-clause-may
append_as-requires-clause-may g c = record { follows = c.requires.follows; begins = c.requires.begins; sends = c.requires.sent; counts = c.requires.counts; backed = c.requires.backed }
