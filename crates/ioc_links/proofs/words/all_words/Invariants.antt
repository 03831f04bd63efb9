use Rattle.std.proofs.Common.{◌≡◌, length}
use Rattle.ioc_links.specs.Words.{words}
use Rattle.ioc_links.specs.Grammar.{all_words}
use Rattle.ioc_links.proofs.words.all_words.Given as goal

abbrev pub invariant-loop-word : goal.invariant-loop-word
invariant-loop-word l = all_words (words l.rest) ≡ all_words (words l.text)

abbrev pub decreases-loop-word : goal.decreases-loop-word
decreases-loop-word l = length l.rest
