-- The lines of request files, which say which channels are saved.
use Rattle.std.specs.Prelude.{◌≡◌, ℕ, Bool, true, false, List, [], ◌∷◌, Option, Some, None, codes, nat_eq, ◌==◌, ◌||◌, if◌then◌else◌}
use Rattle.std.specs.Cmp.Lexicographic.{pointwise}
use Rattle.ioc_saved.specs.declared.request.RequestLine.{RequestLine}
use Rattle.ioc_saved.specs.declared.request.RequestLine.TheVariants.{Channel, File, Nothing, Bad}
use Rattle.ioc_saved.specs.Words.{lacks, before, behind}
use Rattle.ioc_saved.specs.Lines.{◌>>=◌, name_in}

-- Blanks are spaces, tabs and carriage returns.
abbrev pub is_blank : ℕ → Bool
is_blank b = (b == 32) || ((b == 9) || (b == 13))

-- The bytes from the first that is no blank.
abbrev pub unblanked : List ℕ → List ℕ
unblanked [] = []
unblanked (b ∷ bs) = if is_blank b then unblanked bs else b ∷ bs

-- The bytes before the first blank.
abbrev pub word_of : List ℕ → List ℕ
word_of [] = []
word_of (b ∷ bs) = if is_blank b then [] else b ∷ word_of bs

-- The bytes behind the first blank.
abbrev pub behind_word : List ℕ → List ℕ
behind_word [] = []
behind_word (b ∷ bs) = if is_blank b then bs else behind_word bs

-- What stands behind the first word.
abbrev pub rest_of : List ℕ → List ℕ
rest_of text = unblanked (behind_word text)

-- Whether nothing or a comment stands here.
abbrev pub is_nothing : List ℕ → Bool
is_nothing [] = true
is_nothing (b ∷ bs) = b == 35

-- Whether the first word is `file`.
abbrev pub is_file : List ℕ → Bool
is_file text = pointwise nat_eq (word_of text) (codes "file")

-- The field that a word names, `VAL` if it has no dot.
abbrev pub field_of : List ℕ → List ℕ
field_of word = if lacks 46 word then codes "VAL" else behind 46 word

-- The record and the field that a word names.
abbrev pub channel_of : List ℕ → Option (List ℕ × List ℕ)
channel_of word = name_in 60 (before 46 word) >>= λ name. name_in 8 (field_of word) >>= λ field. Some (name, field)

-- The channel that a text names, with nothing but a comment behind it.
abbrev pub channel_in : List ℕ → Option (List ℕ × List ℕ)
channel_in text = if is_nothing (rest_of text) then channel_of (word_of text) else None

-- What the text of a line without blanks at its front asks for.
abbrev pub Asks : RequestLine → List ℕ → Type 0
Asks Nothing text = is_nothing text ≡ true
Asks (File name macros) text =
    (is_nothing text ≡ false) × (is_file text ≡ true) × (is_nothing (rest_of text) ≡ false) × (name.now ≡ word_of (rest_of text)) × (macros.now ≡ rest_of (rest_of text))
Asks (Channel name field) text = (is_nothing text ≡ false) × (is_file text ≡ false) × (channel_in text ≡ Some (name, field))
Asks Bad text = (is_nothing text ≡ false) × ((is_file text ≡ true → is_nothing (rest_of text) ≡ true) × (is_file text ≡ false → channel_in text ≡ None))
