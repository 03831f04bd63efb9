-- The words of a text, which are separated by spaces and tabs.
use Rattle.std.specs.Borrow.{Bor}
use Rattle.std.specs.Prelude.{◌≡◌, ◌<◌, length, Option, Some, None, ℕ, Bool, true, false, List, [], ◌∷◌, not, nat_eq, if◌then◌else◌}
use Rattle.std.specs.List.{list_any, onto_first}
use Rattle.std.specs.Cmp.Lexicographic.{pointwise}
use Rattle.ioc_values.specs.Trim.{is_blank}

-- Whether the text begins with a word.
abbrev pub in_word : List ℕ → Bool
in_word [] = false
in_word (b ∷ bs) = not (is_blank true b)

-- The words of a text.
abbrev pub words : List ℕ → List (List ℕ)
words [] = []
words (b ∷ bs) = if is_blank true b then words bs else (if in_word bs then onto_first b (words bs) else (b ∷ []) ∷ words bs)

-- Whether the word is among them.
abbrev pub has : List ℕ → List (List ℕ) → Bool
has word ws = list_any (λ w. pointwise nat_eq w word) ws

-- Holds if the result is none and there is no word, or if it is the first word and the text after
-- it.
abbrev pub IsNextWord : List ℕ → Option (Bor (List ℕ) × Bor (List ℕ)) → Type 0
IsNextWord text None = words text ≡ []
IsNextWord text (Some found) = (words text ≡ found.0.now ∷ words found.1.now) × (length found.1.now < length text)
