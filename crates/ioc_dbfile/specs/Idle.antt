-- Idle records.
use Rattle.std.specs.Prelude.{◌≡◌, List, [], ◌∷◌, false, None}
use Rattle.ioc_record.specs.RecordRules.{RecordRules}

module _ {R : Type 0} (k : RecordRules R) where
  -- Holds of a record that isn't active, awaits no completion, and is part of no put with
  -- notification.
  pub record IsIdle (r : R) : Type 0 where
    pub active : (k.common r).active ≡ false
    pub pending : (k.common r).pending ≡ None
    pub free : (k.common r).notification ≡ None

  -- Holds if each of these records is idle.
  abbrev pub AllIdle : List R → Type 0
  AllIdle [] = Unit {0}
  AllIdle (r ∷ rs) = IsIdle r × AllIdle rs
