use Rattle.std.proofs.Common.{◌≡◌, length}
use Rattle.ioc_journal_file.specs.Bits.{number_after}
use Rattle.ioc_journal_file.proofs.bits.number_of_digits.Given as goal

abbrev pub invariant-loop-rest : goal.invariant-loop-rest
invariant-loop-rest l = number_after l.number l.rest ≡ number_after 0 l.digits

abbrev pub decreases-loop-rest : goal.decreases-loop-rest
decreases-loop-rest l = length l.rest
