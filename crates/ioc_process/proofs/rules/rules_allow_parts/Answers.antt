use Rattle.ioc_process.specs.RulesAllowed.{cause-allowed, follow-allowed, reads-allowed, gets-allowed, puts_out-allowed, finish-allowed, proceed-allowed, run-allowed}
use Rattle.ioc_process.proofs.rules.rules_allow_parts.Goals as goal

pub returns-clause-causes : goal.returns-clause-causes
returns-clause-causes g c = λ answers w s t. cause-allowed g.K.RecordKind.rules g.met.K.RecordKind.lawful answers w s t

pub returns-clause-reads : goal.returns-clause-reads
returns-clause-reads g c = λ answers kind w s link. reads-allowed g.K.RecordKind.rules g.met.K.RecordKind.lawful answers kind w s link

pub returns-clause-gets : goal.returns-clause-gets
returns-clause-gets g c = λ answers w s want. gets-allowed g.K.RecordKind.rules g.met.K.RecordKind.lawful answers w s want

pub returns-clause-follows : goal.returns-clause-follows
returns-clause-follows g c = λ answers w s link. follow-allowed g.K.RecordKind.rules g.met.K.RecordKind.lawful answers w s link

pub returns-clause-puts_out : goal.returns-clause-puts_out
returns-clause-puts_out g c = λ answers w s output. puts_out-allowed g.K.RecordKind.rules g.met.K.RecordKind.lawful answers w s output

pub returns-clause-finishes : goal.returns-clause-finishes
returns-clause-finishes g c = λ answers w s. finish-allowed g.K.RecordKind.rules g.met.K.RecordKind.lawful answers w s

pub returns-clause-proceeds : goal.returns-clause-proceeds
returns-clause-proceeds g c = λ answers w s got. proceed-allowed g.K.RecordKind.rules g.met.K.RecordKind.lawful answers w s got

pub returns-clause-runs : goal.returns-clause-runs
returns-clause-runs g c = λ answers w s inactive. run-allowed g.K.RecordKind.rules g.met.K.RecordKind.lawful answers w s inactive
