use Rattle.ioc_set_records.proofs.Linked.{dealt_parts}
use Rattle.ioc_set_records.proofs.loaded_laws.dealt_sets_are_parts.Goals as goal

pub returns : goal.returns
returns g c = λ all parts sets are dealt. dealt_parts g.K.RecordKind.rules all parts sets are dealt
