-- Connected parts by their numbers, and the nodes of each, one after another. Application
-- Developer's Guide, "Database Locking, Scanning, and Processing": records that links join are in
-- one lock set.
use Rattle.std.specs.Prelude.{ℕ, ◌≡◌, ◌<◌, ◌≤◌, ◌+◌, ◌-◌, ◌==◌, List, [], ◌∷◌, length, filter, slice_index}
use Rattle.std.specs.List.{range_with_len}
use Rattle.ioc_graph.specs.declared.edges.Edge.{Edge}
use Rattle.ioc_graph.specs.Forest.{renumbered}
use Rattle.ioc_graph.specs.Parts.{all_below}

-- The numbers after each edge has joined the parts of its ends.
abbrev pub numbers_after : List ℕ → List Edge → List ℕ
numbers_after numbers [] = numbers
numbers_after numbers (e ∷ es) = numbers_after (renumbered numbers e.from e.to) es

-- The numbers of the parts of the nodes below `count`. At first each node is a part by itself.
unfoldable pub part_numbers : List Edge → ℕ → List ℕ
part_numbers edges count = numbers_after (all_below count) edges

-- The nodes of the part, starting at a node, in order.
unfoldable pub members_from : List ℕ → ℕ → ℕ → List ℕ
members_from numbers part start = filter (λ i. slice_index numbers i == part) (range_with_len start (length numbers - start))

-- Holds if the number of no node is greater than its index, as the number of a part is that of its
-- first node.
abbrev pub AreFirsts : List ℕ → Type 0
AreFirsts numbers = (i : ℕ) → i < length numbers → slice_index numbers i ≤ i

-- Holds if these nodes follow one another in ascending order, starting at `at`, to the last.
abbrev pub Follow : List ℕ → ℕ → List ℕ → Type 0
Follow next at [] = at ≡ length next
Follow next at (n ∷ ns) = (at ≡ n) × (n < slice_index next n) × (n < length next) × Follow next (slice_index next n) ns

-- Holds if the other nodes of each part follow its first one.
pub record AreFollowers (numbers next : List ℕ) : Type 0 where
  pub one_each : length next ≡ length numbers
  pub follow : (p : ℕ) → p < length numbers → slice_index numbers p ≡ p → Follow next (slice_index next p) (members_from numbers p (p + 1))
