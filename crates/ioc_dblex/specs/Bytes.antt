-- Bytes of a database text, and the parts into which they split it. EPICS Application Developer's
-- Guide, "Database Definition", "Unquoted strings" and "Quoted strings".
use Rattle.std.specs.Prelude.{ℕ, Bool, List, [], ◌∷◌, nat_le, not, ◌==◌, ◌&&◌, ◌||◌, if◌then◌else◌}

-- Whether the byte is a letter or a digit.
abbrev pub is_alphanumeric : ℕ → Bool
is_alphanumeric b = (nat_le 48 b && nat_le b 57) || ((nat_le 65 b && nat_le b 90) || (nat_le 97 b && nat_le b 122))

-- Whether the byte is a letter, a digit or one of _ - + : . [ ] < > ;.
unfoldable pub is_word_byte : ℕ → Bool
is_word_byte b = is_alphanumeric b || ((b == 95) || ((b == 45) || ((b == 43) || ((b == 58) || ((b == 46) || ((b == 91) || ((b == 93) || ((b == 60) || ((b == 62) || (b == 59))))))))))

-- The word at the front.
abbrev pub word_of : List ℕ → List ℕ
word_of [] = []
word_of (b ∷ bs) = if is_word_byte b then b ∷ word_of bs else []

-- The bytes after the word at the front.
abbrev pub behind_word : List ℕ → List ℕ
behind_word [] = []
behind_word (b ∷ bs) = if is_word_byte b then behind_word bs else b ∷ bs

-- Whether a byte between double quotes closes them.
unfoldable pub closes : Bool → ℕ → Bool
closes escaped b = not escaped && (b == 34)

-- Whether the byte after this one, between double quotes, is escaped.
unfoldable pub escapes : Bool → ℕ → Bool
escapes escaped b = not escaped && (b == 92)

-- The bytes after a double quote, up to the next one that has no backslash before it.
abbrev pub quoted_of : Bool → List ℕ → List ℕ
quoted_of escaped [] = []
quoted_of escaped (b ∷ bs) = if closes escaped b then [] else b ∷ quoted_of (escapes escaped b) bs

-- That quote with the bytes after it.
abbrev pub behind_quoted : Bool → List ℕ → List ℕ
behind_quoted escaped [] = []
behind_quoted escaped (b ∷ bs) = if closes escaped b then b ∷ bs else behind_quoted (escapes escaped b) bs

-- The bytes after spaces and tabs at the front.
abbrev pub behind_gap : List ℕ → List ℕ
behind_gap [] = []
behind_gap (b ∷ bs) = if (b == 32) || (b == 9) then behind_gap bs else b ∷ bs
