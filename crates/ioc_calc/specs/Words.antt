-- The longest word at the front of a text.
use Rattle.std.specs.Prelude.{ℕ, ◌-◌, ◌+◌, List, [], ◌∷◌, nat_le, nat_lt, ◌==◌, ◌&&◌, if◌then◌else◌, Option, Some, None, option_map}
use Rattle.ioc_calc.specs.declared.token.Token.{Token}
use Rattle.ioc_calc.specs.declared.words.Word.{Word}

-- a letter as a capital, and any other byte as it is
abbrev pub upper : ℕ → ℕ
upper b = if nat_le 97 b && nat_le b 122 then b - 32 else b

abbrev pub one_more : Option ℕ → Option ℕ
one_more None = None
one_more (Some n) = Some (n + 1)

-- how many bytes these are, up to a 0, if a text begins with them in capitals or small letters
abbrev pub begins : List ℕ → List ℕ → Option ℕ
begins [] text = Some 0
begins (capital ∷ more) [] = if capital == 0 then Some 0 else None
begins (capital ∷ more) (b ∷ bs) = if capital == 0 then Some 0 else (if upper b == capital then one_more (begins more bs) else None)

-- the one of two tokens that has more bytes
abbrev pub longer_of : Option (Token × ℕ) → Option (Token × ℕ) → Option (Token × ℕ)
longer_of None other = other
longer_of (Some a) None = Some a
longer_of (Some a) (Some b) = if nat_lt a.1 b.1 then Some b else Some a

-- the token of a word, if the text begins with it, and how many bytes it has behind its first
unfoldable pub fitting : Word → ℕ → List ℕ → Option (Token × ℕ)
fitting word first rest = if upper first == word.first then option_map (λ n. (word.token, n)) (begins word.more rest) else None

-- the token of the longest of these words with which the text begins
abbrev pub longest_in : List Word → ℕ → List ℕ → Option (Token × ℕ)
longest_in [] first rest = None
longest_in (word ∷ words) first rest = longer_of (fitting word first rest) (longest_in words first rest)
