use Rattle.std.proofs.Common.{◌++◌, List, ap₂, subst}
use Rattle.crossbeam_utils.specs.Seq.{cell_view}
use Rattle.ioc_journal.specs.Key.{Key, Has}
use Rattle.ioc_journaled_set.proofs.KeysOfSets.{own_within, own_apart}
use Rattle.ioc_journaled_set.proofs.together.dealing.give_records.Goals as goal

pub give-requires-clause-within : goal.give-requires-clause-within
give-requires-clause-within g c = λ key has.
    own_within c.args.set.now (cell_view c.args.keeper.now).owns c.requires.covers key
    (subst (Has key) (ap₂ (λ (x y : List Key). x ++ y) c.requires.keys.0 c.requires.keys.1) has)

pub give-requires-clause-apart : goal.give-requires-clause-apart
give-requires-clause-apart g c = λ key x y.
    own_apart c.args.set.now (cell_view c.args.keeper.now).owns key (subst (Has key) c.requires.keys.0 x) (subst (Has key) c.requires.keys.1 y)
