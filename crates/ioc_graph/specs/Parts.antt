-- The connected parts of nodes that edges join, as a number for each node. Application Developer's
-- Guide, "Database Locking, Scanning, and Processing": records that links join are in one lock set.
use Rattle.std.specs.Prelude.{ℕ, List, ◌≡◌, ◌<◌, ◌≤◌, ◌⊎◌, ◌↔◌, length, slice_index, Contains}
use Rattle.std.specs.List.{range_with_len}
use Rattle.ioc_graph.specs.Paths.{Connected}
use Rattle.ioc_graph.specs.declared.edges.Edge.{Edge}

-- Holds if some edge has these ends.
abbrev pub Joined : List Edge → ℕ → ℕ → Type 0
Joined edges a b = Contains edges (record { from = a; to = b }) ⊎ Contains edges (record { from = b; to = a })

-- Holds if two nodes have the same number exactly if a path joins them, and if the number of a part
-- is the index of its first node.
pub record ArePartsOf (edges : List Edge) (nodes numbers : List ℕ) : Type 0 where
  pub one_each : length numbers ≡ length nodes
  pub exact : (i j : ℕ) → i < length nodes → j < length nodes
      → ((slice_index numbers i ≡ slice_index numbers j) ↔ Connected (Joined edges) (slice_index nodes i) (slice_index nodes j))
  pub first : (i : ℕ) → i < length nodes → (slice_index numbers i ≤ i) × (slice_index numbers (slice_index numbers i) ≡ slice_index numbers i)

-- The nodes 0 to `count - 1`.
abbrev pub all_below : ℕ → List ℕ
all_below count = range_with_len 0 count
