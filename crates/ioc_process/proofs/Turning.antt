-- Turns, given what comes before them.
use Rattle.std.proofs.Common.{◌≡◌, ℕ, ◌+◌, ◌≤◌, Bool, true, false, cond, refl, ap, arith}
use Rattle.ioc_menus.specs.declared.severity.Severity.TheVariants.{Invalid}
use Rattle.ioc_menus.specs.declared.status.Status.TheVariants.{Link as LinkAlarm}
use Rattle.ioc_process.specs.Processing.{faulted}
use Rattle.ioc_dbcommon.specs.Steps.{with_active, raised}
use Rattle.ioc_record.specs.RecordRules.{RecordRules}
use Rattle.ioc_record.specs.Laws.{IsLawful}
use Rattle.ioc_store.specs.declared.frames.Frame.{Frame}
use Rattle.ioc_ledger.specs.declared.outcome.Outcome.{Outcome}
use Rattle.ioc_store.specs.World.{World, common_at, changed, idle, Keeps}
use Rattle.ioc_process.specs.Frames.{Turn, Ended, Calls, Turns, FrameStands, calls_left}
use Rattle.ioc_store.specs.Worlds.{idle-changed}
use Rattle.ioc_process.specs.Keeping.{keeps_on}

module _ {R : Type 0} (k : RecordRules R) where
  pub faulted_is : (w : World R) (s : ℕ) → faulted k w s ≡ changed k w s (raised LinkAlarm Invalid)
  unfolding faulted
  faulted_is w s = refl

  -- A turn after a step is a turn from the start of the step.
  pub turns_on : {w mid after : World R} {more more' most most' : ℕ} {turn : Turn} → Keeps k w mid → idle k mid + more ≤ idle k w + more' → most ≤ most'
      → Turns k mid after more most turn → Turns k w after more' most' turn
  turns_on keeps fewer left turns = record {
    keeps = keeps_on k keeps turns.keeps;
    fewer = omega (arith, fewer, turns.fewer);
    stands = turns.stands;
    left = omega (arith, left, turns.left);
  }

  pub turns_ended : {w after : World R} {more most : ℕ} → Keeps k w after → idle k after ≤ idle k w + more → (outcome : Outcome) → Turns k w after more most (Ended outcome)
  turns_ended keeps fewer outcome = record { keeps = keeps; fewer = omega (arith, fewer); stands = tt; left = omega arith }

  pub turns_calls : {w after : World R} {more most : ℕ} (frame : Frame) → Keeps k w after → idle k after + 1 ≤ idle k w + more
      → FrameStands after frame → calls_left frame.place + 1 ≤ most → Turns k w after more most (Calls frame)
  turns_calls frame keeps fewer stands left = record { keeps = keeps; fewer = omega (arith, fewer); stands = stands; left = omega (arith, left) }

  -- An idle record is counted among the idle ones.
  pub some_idle : IsLawful k → (w : World R) (s : ℕ) → (common_at k w s).active ≡ false → 1 ≤ idle k w
  some_idle lawful w s is = omega (arith, idle-changed k lawful w s (with_active true), ap {A = Bool} {B = ℕ} (λ b. cond b 0 1) is)
