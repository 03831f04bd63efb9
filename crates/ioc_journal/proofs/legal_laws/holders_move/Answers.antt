use Rattle.ioc_journal.proofs.Doing.{holders-move}
use Rattle.ioc_journal.proofs.Few.{holders-few}
use Rattle.ioc_journal.proofs.Placing.{held-are-fewer}
use Rattle.ioc_journal.proofs.legal_laws.holders_move.Goals as goal

pub returns-clause-fewer : goal.returns-clause-fewer
returns-clause-fewer g c = held-are-fewer g.K.RecordKind.rules

pub returns-clause-few : goal.returns-clause-few
returns-clause-few g c = holders-few g.K.RecordKind.rules

pub returns-clause-moves : goal.returns-clause-moves
returns-clause-moves g c = holders-move g.K.RecordKind.rules g.met.K.RecordKind.lawful c.events_have_laws.ensures
