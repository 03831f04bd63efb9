use Rattle.std.proofs.Common.{ap}
use Rattle.std.specs.FinMap.{get}
use Rattle.ioc_journal.proofs.Linking.{held-alike}
use Rattle.ioc_journal.proofs.Rescanning.{rescans-apart}
use Rattle.ioc_journal.proofs.Sharing.{falls, gathers, opens, holds-all}
use Rattle.ioc_journal.proofs.legal_laws.parts_share_what_is_held.Goals as goal

pub returns-clause-alike : goal.returns-clause-alike
returns-clause-alike g c m v w holds records waits = held-alike g.K.RecordKind.rules m v w (λ q. ap (λ r. get r q) records) waits holds

pub returns-clause-falls : goal.returns-clause-falls
returns-clause-falls g c = falls g.K.RecordKind.rules

pub returns-clause-gathers : goal.returns-clause-gathers
returns-clause-gathers g c = gathers g.K.RecordKind.rules g.met.K.RecordKind.lawful

pub returns-clause-opens : goal.returns-clause-opens
returns-clause-opens g c = opens g.K.RecordKind.rules g.met.K.RecordKind.lawful

pub returns-clause-all : goal.returns-clause-all
returns-clause-all g c = holds-all g.K.RecordKind.rules

pub returns-clause-rescans : goal.returns-clause-rescans
returns-clause-rescans g c = rescans-apart g.K.RecordKind.rules g.met.K.RecordKind.lawful
