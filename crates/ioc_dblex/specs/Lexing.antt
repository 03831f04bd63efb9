-- The token at the front of a line, and the places at which a line's tokens begin. EPICS
-- Application Developer's Guide, "Database Definition", "General Rules for Database Definition".
use Rattle.std.specs.Prelude.{ℕ, zero, suc, ◌-◌, Bool, true, false, List, [], ◌∷◌, length, take, nat_lt, Option, Some, None, ◌==◌, ◌&&◌, ◌||◌, if◌then◌else◌}
use Rattle.ioc_values.specs.declared.error.BadDbKind.TheVariants as kinds
use Rattle.ioc_dblex.specs.declared.token.TokenKind.{TokenKind}
use Rattle.ioc_dblex.specs.declared.token.TokenKind.TheVariants.{Sign, Word, Quoted, Fault}
use Rattle.ioc_dblex.specs.Bytes.{is_word_byte, word_of, behind_word, quoted_of, behind_quoted, behind_gap}

-- A token with its text, which is a word or the raw text between quotes.
pub record Lexeme : Type 0 where
  pub line : ℕ
  pub kind : TokenKind
  pub text : List ℕ

-- A token, and the bytes after it. After a fault there are none.
pub record Cut : Type 0 where
  pub token : Lexeme
  pub rest : List ℕ

-- A token with no text of its own.
abbrev pub bare : ℕ → TokenKind → List ℕ → Cut
bare line kind rest = record { token = record { line = line; kind = kind; text = [] }; rest = rest }

-- The text between quotes. The closing quote must be on the line.
abbrev pub quoted_at : ℕ → List ℕ → List ℕ → Cut
quoted_at line text [] = bare line (Fault kinds.Unclosed) []
quoted_at line text (b ∷ bs) = record { token = record { line = line; kind = Quoted; text = text }; rest = bs }

-- Whether the byte is one of ( ) { } , *.
unfoldable pub is_sign : ℕ → Bool
is_sign b = (b == 40) || ((b == 41) || ((b == 123) || ((b == 125) || ((b == 44) || (b == 42)))))

-- The bytes after this sign, if it is the first byte.
abbrev pub behind_sign : ℕ → List ℕ → Option (List ℕ)
behind_sign b [] = None
behind_sign b (c ∷ bs) = if (c == b) && is_sign b then Some bs else None

-- The token that begins with this byte.
abbrev pub token_by : ℕ → ℕ → List ℕ → Cut
token_by line b bs =
    if is_sign b then bare line (Sign b) bs
    else (if b == 34 then quoted_at line (quoted_of false bs) (behind_quoted false bs)
    else (if is_word_byte b then record { token = record { line = line; kind = Word; text = word_of (b ∷ bs) }; rest = behind_word (b ∷ bs) }
    else bare line (Fault kinds.Syntax) []))

-- The token at the front, if the bytes begin with no gap.
unfoldable pub token_at : ℕ → List ℕ → Option Cut
token_at line [] = None
token_at line (b ∷ bs) = Some (token_by line b bs)

-- Whether the token is a fault, after which there are no tokens.
abbrev pub is_fault : TokenKind → Bool
is_fault (Fault kind) = true
is_fault _ = false

-- ---- The line that exceeds the limit

-- The bytes after a cut.
abbrev pub rest_of : Option Cut → List ℕ → List ℕ
rest_of None bs = bs
rest_of (Some cut) bs = cut.rest

-- What is left of a text after its tokens that begin before its last `past` bytes. The number of
-- turns is that of the text's bytes, since a token has at least one.
abbrev pub behind_begun : ℕ → ℕ → List ℕ → List ℕ
behind_begun zero past bs = bs
behind_begun (suc turns) past bs =
    if nat_lt past (length (behind_gap bs)) then behind_begun turns past (rest_of (token_at 0 (behind_gap bs)) (behind_gap bs)) else bs

-- The part of a line's text that is read if only its first `room` bytes are before the limit: the
-- text up to the end of the last token that begins before the limit. For `ab cde f` with room for 4
-- bytes it is `ab cde`: `cde` begins with the fourth byte and is read to its end, and `f` begins
-- after the limit.
unfoldable pub begun_within : ℕ → List ℕ → List ℕ
begun_within room text =
    let past = length text - room in
    let left = behind_begun (length text) past text in
    take (length text - length left) text
