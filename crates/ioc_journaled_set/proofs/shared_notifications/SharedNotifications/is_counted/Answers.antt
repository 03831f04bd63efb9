use Rattle.std.proofs.Common.{subst}
use Rattle.ioc_journaled_set.specs.Puts.{PutsView, AreTaken}
use Rattle.ioc_journaled_set.proofs.shared_notifications.SharedNotifications.is_counted.Goals as goal

pub returns-clause-taken : goal.returns-clause-taken
returns-clause-taken g c = subst (λ (v : PutsView). AreTaken v.live v.taken v.last v.seen) c.self.view_is c.self.invariant.taken
