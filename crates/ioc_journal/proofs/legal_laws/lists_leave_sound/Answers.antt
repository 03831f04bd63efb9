use Rattle.ioc_journal.proofs.Doing.{begins-sound, stays-sound}
use Rattle.ioc_journal.proofs.legal_laws.lists_leave_sound.Goals as goal

pub returns-clause-first : goal.returns-clause-first
returns-clause-first g c = begins-sound g.K.RecordKind.rules c.events_have_laws.ensures

pub returns-clause-after : goal.returns-clause-after
returns-clause-after g c = stays-sound g.K.RecordKind.rules g.met.K.RecordKind.lawful c.events_have_laws.ensures
