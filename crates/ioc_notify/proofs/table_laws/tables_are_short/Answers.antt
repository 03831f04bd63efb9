use Rattle.ioc_notify.proofs.Short.{table_short}
use Rattle.ioc_notify.proofs.table_laws.tables_are_short.Goals as goal

pub returns : goal.returns
returns c = table_short
