-- A list in pieces of 256, so that it grows without copying what is there. This project's own.
use Rattle.std.specs.Prelude.{◌≡◌, ◌≤◌, ◌<◌, ◌+◌, ◌*◌, List, ◌++◌, length, ℕ, All, flat_map, Vec, vec_capacity}

module _ {X Z : Type 0} where
  -- A piece with 256 items, and one without items but with room for as many.
  abbrev pub IsFull : Vec X Z → Type 0
  IsFull v = length v.items ≡ 256

  abbrev pub IsSpare : Vec X Z → Type 0
  IsSpare v = (length v.items ≡ 0) × (256 ≤ vec_capacity v)

  -- The items of full pieces, and of the one that is being filled.
  abbrev pub items_in : List (Vec X Z) → List X → List X
  items_in full current = flat_map (λ v. v.items) full ++ current

  -- Full pieces, the one that is being filled, and spare ones, with room for `given` items, of at
  -- most `limit`.
  pub record ArePieces {Y : Type 0} (full spare : Vec (Vec X Z) Y) (current : Vec X Z) (given limit : ℕ) : Type 0 where
    pub whole : All IsFull full.items
    pub part : (length current.items ≤ 256) × (256 ≤ vec_capacity current)
    pub empty : All IsSpare spare.items
    pub room : given ≤ 256 * (length full.items + (1 + length spare.items))
    pub few : 256 * (length full.items + length spare.items) < limit
    pub last : given < limit → given ≡ 256 * (length full.items + (1 + length spare.items))
    pub most : (given ≤ limit) × (limit ≤ 4194304)
    pub lists : (limit < 256 * vec_capacity full) × (limit < 256 * vec_capacity spare)
