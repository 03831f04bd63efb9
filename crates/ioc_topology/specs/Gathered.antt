-- All sets together.
use Rattle.std.specs.Prelude.{ℕ, ◌<◌, ◌≡◌, ◌≢◌, ◌⊎◌, ◌↔◌, List, Bool, true, false, slice_index_or, Contains, Any, AllPairs}

-- Holds if no record is in both sets.
abbrev pub AreApart : {S : Type 0} → (S → List ℕ) → S → S → Type 0
AreApart numbers s t = (p q : ℕ) → Contains (numbers s) p → Contains (numbers t) q → p ≢ q

-- Holds if the sets have each of the first `n` records, and none is in two of them.
pub record HoldEach {S : Type 0} (numbers : S → List ℕ) (sets : List S) (n : ℕ) : Type 0 where
  pub once : AllPairs (AreApart numbers) sets
  pub each : (q : ℕ) → q < n → Any (λ s. Contains (numbers s) q) sets

-- Holds if the record is marked.
abbrev pub IsMarked : List Bool → ℕ → Type 0
IsMarked marks q = slice_index_or marks q false ≡ true

-- Holds if exactly these records were marked, none of which was marked before.
pub record IsClaimed (before after : List Bool) (ns : List ℕ) : Type 0 where
  pub free : (p q : ℕ) → IsMarked before p → Contains ns q → p ≢ q
  pub marked : (q : ℕ) → IsMarked after q ↔ (IsMarked before q ⊎ Contains ns q)

-- Holds if no record is in two of the sets, and the marked records are theirs.
pub record AreFound {S : Type 0} (numbers : S → List ℕ) (marks : List Bool) (sets : List S) : Type 0 where
  pub once : AllPairs (AreApart numbers) sets
  pub marked : (q : ℕ) → IsMarked marks q ↔ Any (λ s. Contains (numbers s) q) sets
