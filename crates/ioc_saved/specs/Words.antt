-- Bytes before and behind a separator, and the lines of a text.
use Rattle.std.specs.Prelude.{ℕ, Bool, true, false, List, [], ◌∷◌, not, ◌==◌, if◌then◌else◌}
use Rattle.std.specs.List.{list_all}

-- Whether the byte is none of these.
abbrev pub lacks : ℕ → List ℕ → Bool
lacks c bytes = list_all (λ b. not (b == c)) bytes

-- The bytes before the first separator, all of them if there is none.
abbrev pub before : ℕ → List ℕ → List ℕ
before c [] = []
before c (b ∷ bs) = if b == c then [] else b ∷ before c bs

-- The bytes behind the first separator, no bytes if there is none.
abbrev pub behind : ℕ → List ℕ → List ℕ
behind c [] = []
behind c (b ∷ bs) = if b == c then bs else behind c bs

-- The lines with this byte in front of the first.
abbrev pub onto_first : ℕ → List (List ℕ) → List (List ℕ)
onto_first b [] = (b ∷ []) ∷ []
onto_first b (line ∷ lines) = (b ∷ line) ∷ lines

-- The lines without their line feeds. Behind the last line feed a line begins only if there are
-- further bytes.
abbrev pub lines_of : List ℕ → List (List ℕ)
lines_of [] = []
lines_of (b ∷ bs) = if b == 10 then [] ∷ lines_of bs else onto_first b (lines_of bs)

abbrev pub no_lines : List (List ℕ) → Bool
no_lines [] = true
no_lines (line ∷ lines) = false

-- The last line, an empty one if there are no lines.
abbrev pub last_of : List (List ℕ) → List ℕ
last_of [] = []
last_of (line ∷ lines) = if no_lines lines then line else last_of lines

-- The last byte, this one if there are none.
abbrev pub last_byte : ℕ → List ℕ → ℕ
last_byte b [] = b
last_byte b (c ∷ bs) = last_byte c bs

-- Whether the last byte is a line feed.
abbrev pub ends_line : List ℕ → Bool
ends_line bytes = last_byte 0 bytes == 10
