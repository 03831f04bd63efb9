use Rattle.std.proofs.Common.{rules}
use Rattle.ioc_dbfile.specs.OwnerTable.{owner_in}
use Rattle.ioc_dbfile.proofs.owners.Owners.owner.Goals as goal

pub returns : goal.returns
unfolding owner_in
returns c = search rules
