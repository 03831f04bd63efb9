-- What an event needs to begin, and what it leaves.
use Rattle.std.specs.Global.{Vec}
use Rattle.std.specs.Prelude.{◌≡◌, ◌≤◌, ℕ, [], vec_capacity}
use Rattle.std.specs.FinMap.{len}
use Rattle.ioc_device.specs.declared.Ask.{Ask}
use Rattle.ioc_device.specs.declared.Answer.{Answer}
use Rattle.ioc_record.specs.RecordRules.{RecordRules}
use Rattle.ioc_store.specs.World.{World, Has, IsClosed, Keeps}
use Rattle.ioc_store.specs.Given.{Given, Begins}
use Rattle.ioc_store.specs.declared.frames.Frame.{Frame}

-- Holds if an event may begin: no link leaves the world, no frame is open, and there is room for a
-- frame of each record.
pub record CanRun {R : Type 0} (k : RecordRules R) (w : World R) (frames : Vec Frame) : Type 0 where
  pub closed : IsClosed k w
  pub empty : frames.items ≡ []
  pub room : len w.records ≤ vec_capacity frames

-- Holds if an event of record `s`, which exists, may begin.
pub record CanProcess {R : Type 0} (k : RecordRules R) (w : World R) (s : ℕ) (frames : Vec Frame) : Type 0 where
  pub there : Has w s
  pub run : CanRun k w frames

-- Holds if an event, or a part of one, may have led from one world to another: all records and
-- links are kept, each device that was asked gave its answer by its own relation, and no frame is
-- open, with room for as many as before.
pub record HasRun {R D : Type 0} (k : RecordRules R) (gives : D → Ask → ℕ → Answer → D → Type 0) (w after : World R) (asked asked_then : Given D) (frames frames_then : Vec Frame) : Type 0 where
  pub keeps : Keeps k w after
  pub given : Begins gives asked asked_then
  pub empty : frames_then.items ≡ []
  pub room : vec_capacity frames_then ≡ vec_capacity frames
