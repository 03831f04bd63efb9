use Rattle.std.proofs.Common.{◌∙◌}
use Rattle.ioc_journaled_set.proofs.Folding.{same_folded, folded_again}
use Rattle.ioc_journaled_set.proofs.checkpoint.checkpoint_giving.Goals as goal

pub returns-in_err-excerpt-clause-same : goal.returns-in_err-excerpt-clause-same
returns-in_err-excerpt-clause-same g c = same_folded c.give_entries.new.sets c.args.sets.now c.in_err-excerpt.ensures.sets

pub returns-clause-same : goal.returns-clause-same
returns-clause-same g c = folded_again c.fold_all.new.sets c.give_entries.new.sets c.fold_all.ensures ∙ same_folded c.give_entries.new.sets c.args.sets.now c.in_ok-excerpt.ensures.sets
