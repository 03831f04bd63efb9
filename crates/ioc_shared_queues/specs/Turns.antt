-- What a worker does, by relations that say what one call of the queues or of the server did. This
-- project's own.
use Rattle.std.specs.Prelude.{◌≡◌, ◌⊎◌, List, [], ◌∷◌, Option, Some, None}
use Rattle.ioc_shared_queues.specs.declared.rank.Rank.{Rank}
use Rattle.ioc_shared_queues.specs.declared.rank.Rank.TheVariants.{High, Medium, Low, Once}

module _ {P : Type 0} (finds_empty : P → Rank → P → Type 0) where
  -- The queues before this one are found empty, one after another in the order of service, and then
  -- the lane is at `m`.
  abbrev pub FindsEmptyBefore : P → Rank → P → Type 0
  FindsEmptyBefore l High m = m ≡ l
  FindsEmptyBefore l Medium m = finds_empty l High m
  FindsEmptyBefore l Low m = (a : P) × finds_empty l High a × finds_empty a Medium m
  FindsEmptyBefore l Once m = (a : P) × (b : P) × finds_empty l High a × finds_empty a Medium b × finds_empty b Low m

  -- All four queues are found empty, one after another.
  abbrev pub TakesNone : P → P → Type 0
  TakesNone l m = (a : P) × FindsEmptyBefore l Once a × finds_empty a Once m

module _ {P T : Type 0} (takes : P → Rank → T → P → Type 0) (finds_empty : P → Rank → P → Type 0) where
  -- One item is taken, of the first queue that isn't found empty: each queue before it is found
  -- empty first, one after another.
  abbrev pub TakesFirst : P → T → P → Type 0
  TakesFirst l item m = (rank : Rank) × (a : P) × FindsEmptyBefore finds_empty l rank a × takes a rank item m

module _ {S T : Type 0} (serves refuses hands_back : S → T → S → Type 0) where
  -- The item is served, or it is refused and then handed back.
  abbrev pub IsServed : S → T → S → Type 0
  IsServed x item y = serves x item y ⊎ ((z : S) × refuses x item z × hands_back z item y)

-- The lane looks whether the queues were closed.
abbrev pub Looks : {P : Type 0} → (P → P → Type 0) → P → P → Type 0
Looks sees_closed l m = (m ≡ l) ⊎ sees_closed l m

module _ {P S T : Type 0} (takes : P → Rank → T → P → Type 0) (finds_empty : P → Rank → P → Type 0)
    (sees_closed : P → P → Type 0) (serves refuses hands_back : S → T → S → Type 0) where
  -- In one round an item is taken and is served or handed back, or all queues are found empty.
  abbrev pub Round : Option T → P → S → P → S → Type 0
  Round (Some item) l x m y =
      (a : P) × Looks sees_closed l a × TakesFirst takes finds_empty a item m × IsServed serves refuses hands_back x item y
  Round None l x m y = (a : P) × Looks sees_closed l a × TakesNone finds_empty a m × (y ≡ x)

  -- One round after another, the latest first.
  abbrev pub Rounds : List (Option T) → P → S → P → S → Type 0
  Rounds [] l x m y = (m ≡ l) × (y ≡ x)
  Rounds (round ∷ earlier) l x m y = (k : P) × (z : S) × Rounds earlier l x k z × Round round k z m y

  -- The queues are seen to be closed, and then all of them are found empty.
  abbrev pub Ends : P → S → P → S → Type 0
  Ends l x m y = (a : P) × sees_closed l a × TakesNone finds_empty a m × (y ≡ x)

  -- Rounds, and then the end.
  abbrev pub Runs : P → S → P → S → Type 0
  Runs l x m y = (rounds : List (Option T)) × (k : P) × (z : S) × Rounds rounds l x k z × Ends k z m y

module _ {P S T : Type 0} (takes : P → Rank → T → P → Type 0) (finds_empty : P → Rank → P → Type 0)
    (hands_back : S → T → S → Type 0) where
  -- Items are taken and handed back one after another, the latest first.
  abbrev pub HandsBackEach : List T → P → S → P → S → Type 0
  HandsBackEach [] l x m y = (m ≡ l) × (y ≡ x)
  HandsBackEach (item ∷ earlier) l x m y =
      (k : P) × (z : S) × HandsBackEach earlier l x k z × TakesFirst takes finds_empty k item m × hands_back z item y

  -- Items are taken and handed back until all four queues are found empty.
  abbrev pub Drains : P → S → P → S → Type 0
  Drains l x m y = (items : List T) × (k : P) × HandsBackEach items l x k y × TakesNone finds_empty k m
