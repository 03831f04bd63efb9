use Rattle.std.proofs.Common.{subst}
use Rattle.ioc_set_records.specs.Contents.{Contents, DevicesAreOwned, BaseHasTheSame}
use Rattle.ioc_set_records.proofs.Seen.{owned}
use Rattle.ioc_set_records.proofs.Twins.{bases_there}
use Rattle.ioc_set_records.proofs.members.Members.devices_are_owned.Goals as goal

pub returns-clause-devices : goal.returns-clause-devices
returns-clause-devices g c = subst (λ (z : Contents g.row.K.Denot g.row.D.Denot). DevicesAreOwned z) c.self.view_is (owned c.self.inside.slots.items c.self.invariant.ascending)

pub returns-clause-base : goal.returns-clause-base
returns-clause-base g c = subst (λ (z : Contents g.row.K.Denot g.row.D.Denot). BaseHasTheSame z) c.self.view_is (bases_there c.self.inside.slots.items)
