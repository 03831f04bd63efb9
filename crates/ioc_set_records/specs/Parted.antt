-- The slots of a set that is divided.
use Rattle.std.specs.Prelude.{ℕ, List, ◌≡◌, ◌==◌, not, slice_index}
use Rattle.ioc_graph.specs.Parts.{ArePartsOf}
use Rattle.ioc_record.specs.RecordRules.{RecordRules}
use Rattle.ioc_set_records.specs.declared.slots.Slot.{Slot}
use Rattle.ioc_set_records.specs.Slots.{numbers_of}
use Rattle.ioc_set_records.specs.Edges.{edges_in}
use Rattle.ioc_set_records.specs.Dealt.{dealt}

-- The slots in the part of the slot at a place stay, and the others are the rest.
pub record IsParted {R D : Type 0} (k : RecordRules R) (all : List (Slot R D)) (place : ℕ) (stay rest : List (Slot R D)) : Type 0 where
  pub numbers : List ℕ
  pub parts : ArePartsOf (edges_in k all) (numbers_of all) numbers
  pub stays : stay ≡ dealt (λ n. n == slice_index numbers place) numbers all
  pub leaves : rest ≡ dealt (λ n. not (n == slice_index numbers place)) numbers all
