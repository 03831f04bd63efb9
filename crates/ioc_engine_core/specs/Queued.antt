-- Requests that were taken from a queue. Application Developer's Guide, "Scanning Specification":
-- callback tasks, scanOnce. The journal is this project's own.
use Rattle.std.specs.Prelude.{◌≡◌, ℕ, List, [], ◌∷◌}
use Rattle.ioc_device.specs.declared.Ask.{Ask}
use Rattle.ioc_device.specs.declared.Answer.{Answer}
use Rattle.ioc_record.specs.RecordRules.{RecordRules}
use Rattle.ioc_store.specs.World.{World}
use Rattle.ioc_events.specs.declared.event.Event.TheVariants.{Process}
use Rattle.ioc_events.specs.declared.reply.Reply.{Reply}
use Rattle.ioc_journal.specs.Account.{DeskView}
use Rattle.ioc_engine_core.specs.Served.{WasServed}

-- A request of this record was done by a desk as one call, at a time that the clock may give.
abbrev pub WasQueueServed : {R : Type 0} → (D : Type 0) → RecordRules R → World R → (D → Ask → ℕ → Answer → D → Type 0) → ℕ → (ℕ → Type 0) → ℕ → DeskView → DeskView → World R → Type 0
WasQueueServed D k base gives limit clock_gives number desk desk_then come_to =
    (moment : ℕ) × (reply : Reply) × clock_gives moment × WasServed D k base gives limit number desk moment (Process number) reply desk_then come_to

module _ {R : Type 0} (D : Type 0) (k : RecordRules R) (base : World R) (gives : D → Ask → ℕ → Answer → D → Type 0) (limit : ℕ) (clock_gives : ℕ → Type 0) where
  -- These records were requested one after another, each by one call of the desk, which made no other.
  abbrev pub AreRequested : List ℕ → DeskView → DeskView → Type 0
  AreRequested [] desk desk_then = desk_then ≡ desk
  AreRequested (number ∷ numbers) desk desk_then =
      (between : DeskView) × (come_to : World R) × WasQueueServed D k base gives limit clock_gives number desk between come_to × AreRequested numbers between desk_then
