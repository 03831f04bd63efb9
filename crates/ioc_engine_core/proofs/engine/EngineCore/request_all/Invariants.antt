use Rattle.std.proofs.Common.{length}
use Rattle.std.specs.Prelude.{map}
use Rattle.ioc_journal.specs.Account.{DeskView}
use Rattle.ioc_engine_core.specs.Queued.{AreRequested}
use Rattle.ioc_engine_core.proofs.engine.EngineCore.request_all.Given as goal

-- A desk that requests what is left has requested all.
abbrev pub invariant-loop-rest : goal.invariant-loop-rest
invariant-loop-rest g l =
    (after : DeskView) → AreRequested g.row.D.Denot g.K.RecordKind.rules g.B.JournalName.base g.D.Device.gives l.self.history (g.C.Clock.gives l.clock) (map (λ item. item.number) l.rest) l.desk.account after
    → AreRequested g.row.D.Denot g.K.RecordKind.rules g.B.JournalName.base g.D.Device.gives l.self.history (g.C.Clock.gives l.clock) (map (λ item. item.number) l.listed) l.fn.desk.account after

abbrev pub decreases-loop-rest : goal.decreases-loop-rest
decreases-loop-rest g l = length l.rest
