-- Where a line ends.
use Rattle.std.proofs.Common.{◌≡◌, ℕ, Bool, true, false, cond, List, [], ◌∷◌, ◌++◌, refl, sym, ap, ◌∙◌, append_assoc}
use Rattle.std.specs.Prelude.{◌==◌}
use Rattle.std.specs.Io.BufRead.{take_through, drop_through}

through-step : (b : Bool) (x : ℕ) (xs taken left : List ℕ) → xs ≡ taken ++ left → x ∷ xs ≡ cond b (x ∷ []) (x ∷ taken) ++ cond b xs left
through-step true x xs taken left e = refl
through-step false x xs taken left e = ap (λ l. x ∷ l) e

-- A text is its first line and what is behind it.
pub through-all : (byte : ℕ) (xs : List ℕ) → xs ≡ take_through byte xs ++ drop_through byte xs
through-all byte [] = refl
through-all byte (x ∷ xs) = through-step (x == byte) x xs (take_through byte xs) (drop_through byte xs) (through-all byte xs)

none-step : (b : Bool) (x : ℕ) (xs taken : List ℕ) → cond b (x ∷ []) (x ∷ taken) ≡ [] → x ∷ xs ≡ []
none-step true x xs taken e = absurd cc
none-step false x xs taken e = absurd cc

-- Only the empty text has an empty first line.
pub none-through : (byte : ℕ) (xs : List ℕ) → take_through byte xs ≡ [] → xs ≡ []
none-through byte [] none = refl
none-through byte (x ∷ xs) none = none-step (x == byte) x xs (take_through byte xs) none
