use Rattle.std.proofs.Common.{◌∷◌, [], sym, ◌∙◌, append_assoc}
use Rattle.std.specs.Prelude.{codes}
use Rattle.ioc_main.specs.Replies.{outcome_words}
use Rattle.ioc_main.proofs.reply_line.say_outcome.Goals as goal

pub returns-in-Reprocess : goal.returns-in-Reprocess
unfolding outcome_words
returns-in-Reprocess g c =
    rw c.in-Reprocess.is (c.extend-in-Reprocess.ensures ∙ sym (append_assoc c.args.out.now (codes "ok reprocess") (10 ∷ [])))
