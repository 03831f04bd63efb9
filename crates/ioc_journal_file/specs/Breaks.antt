-- Line breaks.
use Rattle.std.specs.Prelude.{◌≡◌, ℕ, Bool, true, List, [], ◌∷◌, ◌++◌, not, ◌==◌}
use Rattle.std.specs.List.{list_all}

-- Whether no byte is a line break.
abbrev pub no_break : List ℕ → Bool
no_break bytes = list_all (λ b. not (b == 10)) bytes

-- Holds if the only line break is the last byte.
abbrev pub EndsOnce : List ℕ → Type 0
EndsOnce line = (front : List ℕ) × (line ≡ front ++ 10 ∷ []) × (no_break front ≡ true)
