-- Unsigned decimal numbers, as texts are put together.
use Rattle.std.specs.Prelude.{◌≡◌, ℕ, ◌+◌, ◌<◌, ◌⊎◌, List, [], ◌∷◌, ◌++◌, length}
use Rattle.std.specs.Str.Parse.{AllDigits}

-- No sign, `+` or `-`.
abbrev pub IsSign : List ℕ → Type 0
IsSign sign = (sign ≡ []) ⊎ ((sign ≡ 43 ∷ []) ⊎ (sign ≡ 45 ∷ []))

-- No exponent, or `e` or `E`, a sign or none, and one digit or more.
pub data IsExponentPart : List ℕ → Type 0 where
  without : IsExponentPart []
  marked : (mark : ℕ) (sign digits : List ℕ) → (mark ≡ 101) ⊎ (mark ≡ 69) → IsSign sign → AllDigits 10 digits → 0 < length digits → IsExponentPart (mark ∷ (sign ++ digits))

-- Digits, perhaps with one point before, among or behind them, and an exponent or none.
pub data IsDecimal : List ℕ → Type 0 where
  whole : (digits rest : List ℕ) → AllDigits 10 digits → 0 < length digits → IsExponentPart rest → IsDecimal (digits ++ rest)
  pointed : (digits fraction rest : List ℕ) → AllDigits 10 digits → AllDigits 10 fraction → 0 < length digits + length fraction → IsExponentPart rest
      → IsDecimal (digits ++ 46 ∷ (fraction ++ rest))
