use Rattle.ioc_process.specs.RulesAlone.{caused-is, read_link-is, write_link-is, followed-is, put_out-is, input-is, finished-is, completed-is, body-is}
use Rattle.ioc_process.proofs.rules.rules_are_parts.Goals as goal

pub returns-clause-causes : goal.returns-clause-causes
returns-clause-causes g c = λ answers w after s t requests r. caused-is g.K.RecordKind.rules g.met.K.RecordKind.lawful answers r

pub returns-clause-reads : goal.returns-clause-reads
returns-clause-reads g c = λ answers kind w after s link got requests r. read_link-is g.K.RecordKind.rules g.met.K.RecordKind.lawful answers r

pub returns-clause-gets : goal.returns-clause-gets
returns-clause-gets g c = λ answers w after s want came requests r. input-is g.K.RecordKind.rules g.met.K.RecordKind.lawful answers r

pub returns-clause-writes : goal.returns-clause-writes
returns-clause-writes g c = λ answers w after s link value requests r. write_link-is g.K.RecordKind.rules g.met.K.RecordKind.lawful answers r

pub returns-clause-follows : goal.returns-clause-follows
returns-clause-follows g c = λ answers w after s link requests r. followed-is g.K.RecordKind.rules g.met.K.RecordKind.lawful answers r

pub returns-clause-puts_out : goal.returns-clause-puts_out
returns-clause-puts_out g c = λ answers w after s output goes_on requests r. put_out-is g.K.RecordKind.rules g.met.K.RecordKind.lawful answers r

pub returns-clause-finishes : goal.returns-clause-finishes
returns-clause-finishes g c = λ answers w after s requests r. finished-is g.K.RecordKind.rules g.met.K.RecordKind.lawful answers r

pub returns-clause-proceeds : goal.returns-clause-proceeds
returns-clause-proceeds g c = λ answers w after s got requests r. completed-is g.K.RecordKind.rules g.met.K.RecordKind.lawful answers r

pub returns-clause-runs : goal.returns-clause-runs
returns-clause-runs g c = λ answers w after s requests r. body-is g.K.RecordKind.rules g.met.K.RecordKind.lawful answers r
