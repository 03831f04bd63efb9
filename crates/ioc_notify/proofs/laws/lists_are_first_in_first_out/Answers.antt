use Rattle.ioc_notify.proofs.Lists.{removed_from_each}
use Rattle.ioc_notify.proofs.laws.lists_are_first_in_first_out.Goals as goal

pub returns-clause-removed : goal.returns-clause-removed
returns-clause-removed c = removed_from_each c.args.lists.now.waiting c.args.number c.args.target
