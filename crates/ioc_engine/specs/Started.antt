-- The start of an engine: the requests of its records with PINI. Record Reference Manual, "Scan
-- Fields": PINI. Desks and the journal are this project's own.
use Rattle.std.specs.Prelude.{◌≡◌, ℕ, List, []}
use Rattle.ioc_device.specs.declared.Ask.{Ask}
use Rattle.ioc_device.specs.declared.Answer.{Answer}
use Rattle.ioc_record.specs.RecordRules.{RecordRules}
use Rattle.ioc_store.specs.World.{World}
use Rattle.ioc_journal.specs.Account.{DeskView, calls, calls_by}
use Rattle.ioc_engine_core.specs.Queued.{AreRequested}

-- The desk has requested these records, each once and in this order, and has made no other call. Their sets keep at most
-- `limit` events.
abbrev pub HasStarted : {R : Type 0} → (D : Type 0) → RecordRules R → World R → (D → Ask → ℕ → Answer → D → Type 0) → ℕ → (ℕ → Type 0) → List ℕ → DeskView → Type 0
HasStarted D k base gives limit clock_gives numbers desk =
    (opened : DeskView) × (opened.next ≡ 0) × (calls_by opened.number (calls opened.seen) ≡ []) × AreRequested D k base gives limit clock_gives numbers opened desk
