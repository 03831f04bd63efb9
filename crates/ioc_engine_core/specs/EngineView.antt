-- What contracts see of an engine. This project's own design.
use Rattle.std.specs.Prelude.{ℕ}

-- The number of its records, and the number of events that a lock set keeps in its history at most.
pub record EngineView : Type 0 where
  pub count : ℕ
  pub history : ℕ
