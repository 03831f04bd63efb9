use Rattle.ioc_fields.proofs.Types.{type_of-exact}
use Rattle.ioc_fields.proofs.record_type.RecordType.from_name.Goals as goal

pub returns-clause-exact : goal.returns-clause-exact
returns-clause-exact c = rw c.first_named.ensures (type_of-exact c.args.name.now)
