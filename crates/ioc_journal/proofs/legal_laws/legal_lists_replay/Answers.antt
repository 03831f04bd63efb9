use Rattle.ioc_journal.proofs.Replaying.{replays}
use Rattle.ioc_journal.proofs.legal_laws.legal_lists_replay.Goals as goal

pub returns : goal.returns
returns g c = replays g.K.RecordKind.rules c.events_have_laws.ensures
