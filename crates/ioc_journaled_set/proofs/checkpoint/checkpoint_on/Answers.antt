use Rattle.std.proofs.Common.{◌∙◌}
use Rattle.ioc_journaled_set.proofs.Folding.{same_folded, folded_again}
use Rattle.ioc_journaled_set.proofs.checkpoint.checkpoint_on.Goals as goal

pub returns-then-not-drop_entries-clause-same : goal.returns-then-not-drop_entries-clause-same
returns-then-not-drop_entries-clause-same g c = same_folded c.drop_entries.new.sets c.args.sets.now c.drop_entries.ensures

pub returns-clause-same : goal.returns-clause-same
returns-clause-same g c = folded_again c.fold_all.new.sets c.drop_entries.new.sets c.fold_all.ensures ∙ same_folded c.drop_entries.new.sets c.args.sets.now c.drop_entries.ensures
