-- Patterns of record names: `*` (42) stands for any bytes, `?` (63) for one byte, each other byte for itself.
use Rattle.std.specs.Prelude.{ℕ, Bool, true, false, List, [], ◌∷◌, ◌==◌, ◌||◌, ◌&&◌, if◌then◌else◌}
use Rattle.ioc_listing.specs.declared.pattern.Front.{Front}
use Rattle.ioc_listing.specs.declared.pattern.Front.TheVariants.{Whole, No, Star}

-- Some end of a name fits.
abbrev pub some_end : (List ℕ → Bool) → List ℕ → Bool
some_end fits [] = fits []
some_end fits (b ∷ bs) = fits (b ∷ bs) || some_end fits bs

-- The first byte of a name is the one of a pattern, and the rest fits.
abbrev pub first_fits : ℕ → (List ℕ → Bool) → List ℕ → Bool
first_fits wanted fits [] = false
first_fits wanted fits (b ∷ bs) = (wanted == 63 || wanted == b) && fits bs

-- A pattern stands for a name.
abbrev pub matches : List ℕ → List ℕ → Bool
matches [] [] = true
matches [] (b ∷ bs) = false
matches (p ∷ ps) name = if p == 42 then some_end (matches ps) name else first_fits p (matches ps) name

-- How a name begins, beside a pattern up to its first `*`: it is the whole of it; it isn't so; or what is behind the star, and behind
-- this beginning.
pub data Beginning : Type 0 where
  Is-whole : Beginning
  Is-none : Beginning
  Is-star : (behind : List ℕ) → (rest : List ℕ) → Beginning

abbrev pub next_front : ℕ → (List ℕ → Beginning) → List ℕ → Beginning
next_front wanted front [] = Is-none
next_front wanted front (b ∷ bs) = if wanted == 63 || wanted == b then front bs else Is-none

abbrev pub front_of : List ℕ → List ℕ → Beginning
front_of [] [] = Is-whole
front_of [] (b ∷ bs) = Is-none
front_of (p ∷ ps) name = if p == 42 then Is-star ps name else next_front p (front_of ps) name

abbrev pub front_seen : Front → Beginning
front_seen Whole = Is-whole
front_seen No = Is-none
front_seen (Star behind rest) = Is-star behind.now rest.now
