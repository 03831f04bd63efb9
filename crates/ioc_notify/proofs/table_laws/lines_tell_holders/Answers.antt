use Rattle.ioc_notify.proofs.Telling.{told, lives, held}
use Rattle.ioc_notify.proofs.table_laws.lines_tell_holders.Goals as goal

pub returns-clause-holders : goal.returns-clause-holders
returns-clause-holders c = told

pub returns-clause-live : goal.returns-clause-live
returns-clause-live c = lives

pub returns-clause-held : goal.returns-clause-held
returns-clause-held c = held
