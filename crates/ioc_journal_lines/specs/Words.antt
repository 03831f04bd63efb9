-- The words of a line. A tab or the end of the line ends a word.
use Rattle.std.specs.Prelude.{◌≡◌, ℕ, nat_eq, Bool, List, [], ◌∷◌, ◌==◌, ◌||◌, ◌^◌, not, Option, Some, None, Result, Ok, Err, if◌then◌else◌}
use Rattle.std.specs.Cmp.Lexicographic.{pointwise}
use Rattle.std.specs.List.{list_all}
use Rattle.hex.specs.Hex.{decode_sized}
use Rattle.hex.specs.declared.error.FromHexError.{FromHexError}
use Rattle.ioc_values.specs.Number.{numeral, below}

-- Holds of a tab and of a line break.
abbrev pub ends_word : ℕ → Bool
ends_word b = (b == 9) || (b == 10)

-- Whether no byte ends a word.
abbrev pub is_whole : List ℕ → Bool
is_whole w = list_all (λ b. not (ends_word b)) w

-- The first word.
abbrev pub word_of : List ℕ → List ℕ
word_of [] = []
word_of (b ∷ bs) = if ends_word b then [] else b ∷ word_of bs

-- What follows the first word and the byte that ends it.
abbrev pub after_word : List ℕ → List ℕ
after_word [] = []
after_word (b ∷ bs) = if ends_word b then bs else after_word bs

-- Whether the word is this one.
abbrev pub is_word : List ℕ → List ℕ → Bool
is_word word other = pointwise nat_eq word other

infixl 10 ◌>>=◌
abbrev pub ◌>>=◌ : {A B : Type 0} → Option A → (A → Option B) → Option B
(Some x) >>= f = f x
None >>= f = None

-- What a function returned, seen by `view`, is what reading gives.
abbrev pub Gives : {X Y : Type 0} → (X → Y) → Option X → Option Y → Type 0
Gives view (Some x) read = read ≡ Some (view x)
Gives view None read = read ≡ None

-- A number below 2^64.
unfoldable pub number_at : List ℕ → Option (ℕ × List ℕ)
number_at bytes = do
  n ← below (2 ^ 64) (numeral 10 (word_of bytes))
  Some (n, after_word bytes)

abbrev pub hash_or_none : Result (List ℕ) FromHexError → List ℕ → Option (List ℕ × List ℕ)
hash_or_none (Ok hash) rest = Some (hash, rest)
hash_or_none (Err e) rest = None

-- A hash of 32 bytes.
unfoldable pub digest_at : List ℕ → Option (List ℕ × List ℕ)
digest_at bytes = hash_or_none (decode_sized (word_of bytes) 32) (after_word bytes)
