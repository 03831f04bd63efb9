-- The words of a line. A tab or the end of the line ends a word.
use Rattle.std.specs.Prelude.{ℕ, Bool, List, [], ◌∷◌, nat_eq, ◌==◌, ◌||◌, if◌then◌else◌}
use Rattle.std.specs.Cmp.Lexicographic.{pointwise}

-- Holds of a tab and of a line break.
abbrev pub ends_word : ℕ → Bool
ends_word b = (b == 9) || (b == 10)

-- The first word.
abbrev pub word_of : List ℕ → List ℕ
word_of [] = []
word_of (b ∷ bs) = if ends_word b then [] else b ∷ word_of bs

-- What follows the first word and the byte that ends it.
abbrev pub after_word : List ℕ → List ℕ
after_word [] = []
after_word (b ∷ bs) = if ends_word b then bs else after_word bs

-- Whether the word is this one.
abbrev pub is_word : List ℕ → List ℕ → Bool
is_word word other = pointwise nat_eq word other
