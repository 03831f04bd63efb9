use Rattle.ioc_events.proofs.Ended.{first-counted, step-counted, replay-counted, live-is}
use Rattle.ioc_events.proofs.notification_rules.events_count_holders.Goals as goal

pub returns-clause-first : goal.returns-clause-first
returns-clause-first g c = λ w closed few live waiting none. first-counted g.K.RecordKind.rules g.met.K.RecordKind.lawful w closed few live waiting none

pub returns-clause-event : goal.returns-clause-event
returns-clause-event g c = λ answers w after event reply requests r is. step-counted g.K.RecordKind.rules g.met.K.RecordKind.lawful answers r is

pub returns-clause-events : goal.returns-clause-events
returns-clause-events g c = λ w after entries r is. replay-counted g.K.RecordKind.rules g.met.K.RecordKind.lawful r is

pub returns-clause-live : goal.returns-clause-live
returns-clause-live g c = λ w n is. live-is g.K.RecordKind.rules g.met.K.RecordKind.lawful w n is
