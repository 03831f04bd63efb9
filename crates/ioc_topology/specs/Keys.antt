-- The keys of cells. A slab of keys has those of the cells that have a set.
use Rattle.std.specs.Prelude.{ℕ, ◌≡◌, ◌≢◌, ⊤, None}
use Rattle.slab.specs.Slab.{Slab, get, ContainsKey}

-- A key is taken: no set had it before, one has it afterwards, and no other key changes.
pub record TakesKey (before after : Slab ⊤) (key : ℕ) : Type 0 where
  pub was_free : get before key ≡ None
  pub is_taken : ContainsKey after key
  pub others : (other : ℕ) → other ≢ key → get after other ≡ get before other

-- Two different keys are taken.
pub record TakesTwo (before after : Slab ⊤) (one two : ℕ) : Type 0 where
  pub apart : one ≢ two
  pub were_free : (get before one ≡ None) × (get before two ≡ None)
  pub are_taken : ContainsKey after one × ContainsKey after two
  pub others : (other : ℕ) → other ≢ one → other ≢ two → get after other ≡ get before other

-- The keys of three cells are different.
pub record AllDiffer (first second spare : ℕ) : Type 0 where
  pub places : first ≢ second
  pub from_first : spare ≢ first
  pub from_second : spare ≢ second
