use Rattle.std.proofs.Common.{◌<◌, ℕ, All}
use Rattle.std.specs.Prelude.{Any, Contains}
use Rattle.ioc_topology.specs.Gathered.{IsMarked}
use Rattle.ioc_journal.specs.Account.{HasSeenMore}
use Rattle.ioc_engine_core.specs.Seen.{IsPartSeen}
use Rattle.ioc_engine_core.proofs.engine.EngineCore.parts.Given as goal

-- Each part was seen, each record so far is in one of them, and so is each marked record. The desk has
-- seen more of the list.
abbrev pub invariant-loop-number : goal.invariant-loop-number
invariant-loop-number g l = record {
  seen : All (λ v. IsPartSeen g.row.D.Denot g.K.RecordKind.rules g.B.JournalName.base l.fn.desk.account.seen l.desk.account.seen v.items) l.parts.items;
  marked : (q : ℕ) → IsMarked l.marks.items q → Any (λ v. Contains v.items q) l.parts.items;
  each : (q : ℕ) → q < l.number → Any (λ v. Contains v.items q) l.parts.items;
  desk : HasSeenMore l.fn.desk.account l.desk.account;
}
