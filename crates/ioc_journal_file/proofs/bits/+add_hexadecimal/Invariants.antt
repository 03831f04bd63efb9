use Rattle.ioc_journal_file.proofs.bits.+add_hexadecimal.Given as goal

abbrev pub decreases-add_hexadecimal : goal.decreases-add_hexadecimal
decreases-add_hexadecimal l = l.count
