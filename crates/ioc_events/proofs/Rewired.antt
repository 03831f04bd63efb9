-- What a change of a record's scan list leaves unchanged.
use Rattle.std.proofs.Common.{◌≡◌, ℕ, List, refl, subst}
use Rattle.ioc_record.specs.RecordRules.{RecordRules}
use Rattle.ioc_store.specs.World.{World, changed, put, lost}
use Rattle.ioc_store.specs.Scanning.{moved, rewired}
use Rattle.ioc_store.specs.ScanLaws.{rewired-either, moved-either}
use Rattle.ioc_store.specs.Worlds.{sent_by}

-- Holds if the worlds have the same puts with notification, live and waiting, and the same calls of
-- devices.
pub record LeavesRest {R : Type 0} (before after : World R) : Type 0 where
  pub waiting : after.waiting ≡ before.waiting
  pub live : after.live ≡ before.live
  pub calls : after.calls ≡ before.calls

module _ {R : Type 0} (k : RecordRules R) where
  moved-leaves : (w : World R) (s : ℕ) → LeavesRest w (moved k w s)
  unfolding changed put lost
  moved-leaves w s = moved-either k (LeavesRest w) w s (λ item. subst (LeavesRest w) (sent_by item _) (record { waiting = refl; live = refl; calls = refl })) (record { waiting = refl; live = refl; calls = refl })

  pub rewired-leaves : (before : List ℕ) (w : World R) (s : ℕ) → LeavesRest w (rewired k before w s)
  rewired-leaves before w s = rewired-either k (LeavesRest w) before w s (record { waiting = refl; live = refl; calls = refl }) (moved-leaves w s)
