use Rattle.std.proofs.Common.{◌≡◌, length}
use Rattle.ioc_links.specs.Words.{words, has}
use Rattle.ioc_links.proofs.words.has.Given as goal

abbrev pub invariant-loop-first : goal.invariant-loop-first
invariant-loop-first l = has l.word (words l.rest) ≡ has l.word (words l.text)

abbrev pub decreases-loop-first : goal.decreases-loop-first
decreases-loop-first l = length l.rest
