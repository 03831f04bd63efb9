-- Loaded records have the devices that are bound to them.
use Rattle.std.proofs.Common.{◌≡◌, ◌<◌, ℕ, List, Option, None, length, ◌∙◌, subst}
use Rattle.std.specs.Prelude.{slice_index_or}
use Rattle.rec_types.specs.Record.{Record}
use Rattle.ioc_set_records.specs.declared.loaded.Loaded.{Loaded}
use Rattle.ioc_engine_core.specs.Loading.{HaveDevices}

module _ {D : Type 0} where
  -- Each record has the device that `f` gives, if the devices beside the records are those.
  pub as_bound : (all : List (Loaded Record D)) (beside : List (Option D)) (f : ℕ → Option D) (count : ℕ) → length all ≡ count → HaveDevices all beside → ((n : ℕ) → n < count → slice_index_or beside n None ≡ f n)
      → (n : ℕ) (l : Loaded Record D) → n < length all → (slice_index_or all n l).device ≡ f n
  as_bound all beside f count many have each n l lt = have n l lt ∙ each n (subst (λ (c : ℕ). n < c) many lt)
