use Rattle.std.proofs.Common.{arith}
use Rattle.ioc_links.proofs.WordLemmas.{next_none, next_some}
use Rattle.ioc_links.proofs.words.next_word.Goals as goal

pub returns-then-is_empty : goal.returns-then-is_empty
returns-then-is_empty c =
    next_none c.args.text.now c.skip_front-text.result.now c.skip_front-text.ensures.value (grind arith)

pub returns : goal.returns
returns c =
    next_some c.args.text.now c.skip_front-text.result.now _ _ c.skip_front-text.ensures.value c.split_at.ensures.front c.split_at.ensures.back (grind arith)
