use Rattle.std.proofs.Common.{◌≡◌, ◌≤◌, ◌++◌, length, take, drop}
use Rattle.ioc_journal_lines.specs.Words.{word_of, after_word}
use Rattle.ioc_journal_lines.proofs.words.split.Given as goal

abbrev pub invariant-loop-rest : goal.invariant-loop-rest
invariant-loop-rest l =
    (l.rest ≡ drop l.count l.bytes) × (l.count ≤ length l.bytes) × (take l.count l.bytes ++ word_of l.rest ≡ word_of l.bytes) × (after_word l.rest ≡ after_word l.bytes)

abbrev pub decreases-loop-rest : goal.decreases-loop-rest
decreases-loop-rest l = length l.rest
