-- Statements, and the texts that spell them.
--
-- EPICS Application Developer's Guide, "Database Definition", "Record Instance Definition".
use Rattle.std.specs.Prelude.{◌≡◌, ℕ, ◌+◌, ◌≤◌, Bool, true, not, List, [], ◌∷◌, ◌++◌, length, codes, Option, Some, None, Ok, ◌==◌, ◌||◌, if◌then◌else◌}
use Rattle.ioc_fields.specs.declared.record_type.RecordType.{RecordType}
use Rattle.ioc_fields.specs.declared.field_no.FieldNo.{FieldNo}
use Rattle.ioc_dbparse.specs.Rules.{Rules}
use Rattle.ioc_dblex.specs.Texts.{most_bytes}
use Rattle.ioc_dblex.specs.Macros.{Defined}
use Rattle.ioc_dbparse.specs.Statements.{named_type, opened}
use Rattle.ioc_dbparse.specs.Loading.{filled_by}

-- An entry of a body.
pub data Entry : Type 0 where
  -- `field(F, V)`.
  Field : List ℕ → List ℕ → Entry
  -- `info(K, V)`.
  Info : List ℕ → List ℕ → Entry
  -- `alias(A)`.
  Second : List ℕ → Entry

-- The word that begins a record.
pub data Opening : Type 0 where
  Record : Opening
  Grecord : Opening

-- A statement.
pub data Statement : Type 0 where
  -- `record(TYPE, NAME) { .. }`.
  Full : Opening → List ℕ → List ℕ → List Entry → Statement
  -- `record(TYPE, NAME)`.
  Bare : Opening → List ℕ → List ℕ → Statement
  -- `alias(NAME, A)`.
  Alias : List ℕ → List ℕ → Statement

-- Holds if each byte passes a test.
abbrev pub Each : (ℕ → Bool) → List ℕ → Type 0
Each p [] = Unit {0}
Each p (b ∷ bs) = (p b ≡ true) × Each p bs

-- Holds of a space and a tab.
abbrev pub is_space : ℕ → Bool
is_space b = (b == 32) || (b == 9)

-- Holds of a byte that is no line feed and no `$`, with which a macro would begin; macros are
-- covered by `MacrosByHand`.
abbrev pub is_plain : ℕ → Bool
is_plain b = not ((b == 10) || (b == 36))

-- The text with a backslash before each double quote and each backslash.
abbrev pub escaped_of : List ℕ → List ℕ
escaped_of [] = []
escaped_of (b ∷ bs) = if (b == 34) || (b == 92) then 92 ∷ b ∷ escaped_of bs else b ∷ escaped_of bs

-- A piece of a text: its kind and its content.
pub data Piece : Type 0 where
  -- A word and the opening bracket after it, with blanks between.
  Call : List ℕ → Piece
  -- One of the signs `)`, `{`, `}` and `,`.
  Mark : ℕ → Piece
  -- A text between double quotes.
  Text : List ℕ → Piece

abbrev pub entries_pieces : List Entry → List Piece → List Piece
entries_pieces [] behind = behind
entries_pieces (Field f v ∷ es) behind = Call (codes "field") ∷ Text f ∷ Mark 44 ∷ Text v ∷ Mark 41 ∷ entries_pieces es behind
entries_pieces (Info k v ∷ es) behind = Call (codes "info") ∷ Text k ∷ Mark 44 ∷ Text v ∷ Mark 41 ∷ entries_pieces es behind
entries_pieces (Second a ∷ es) behind = Call (codes "alias") ∷ Text a ∷ Mark 41 ∷ entries_pieces es behind

abbrev pub opening_word : Opening → List ℕ
opening_word Record = codes "record"
opening_word Grecord = codes "grecord"

-- The pieces of statements.
abbrev pub pieces_of : List Statement → List Piece
pieces_of [] = []
pieces_of (Full word type name entries ∷ ss) =
    Call (opening_word word) ∷ Text type ∷ Mark 44 ∷ Text name ∷ Mark 41 ∷ Mark 123 ∷ entries_pieces entries (Mark 125 ∷ pieces_of ss)
pieces_of (Bare word type name ∷ ss) = Call (opening_word word) ∷ Text type ∷ Mark 44 ∷ Text name ∷ Mark 41 ∷ pieces_of ss
pieces_of (Alias name second ∷ ss) = Call (codes "alias") ∷ Text name ∷ Mark 44 ∷ Text second ∷ Mark 41 ∷ pieces_of ss

-- Pieces with blanks before, in and after them, followed by a text; `gaps` are the blanks at each
-- place.
abbrev pub with_gaps : (ℕ → List ℕ) → ℕ → List Piece → List ℕ → List ℕ
with_gaps gaps i [] behind = gaps i ++ behind
with_gaps gaps i (Call word ∷ ps) behind = gaps i ++ (word ++ (gaps (i + 1) ++ (40 ∷ with_gaps gaps (i + 2) ps behind)))
with_gaps gaps i (Mark b ∷ ps) behind = gaps i ++ (b ∷ with_gaps gaps (i + 1) ps behind)
with_gaps gaps i (Text text ∷ ps) behind = gaps i ++ (34 ∷ escaped_of text ++ (34 ∷ with_gaps gaps (i + 1) ps behind))

-- The spelled form of statements on one line, with these blanks.
abbrev pub spelled : (ℕ → List ℕ) → List Statement → List ℕ
spelled gaps statements = with_gaps gaps 0 (pieces_of statements) []

-- A line: its pieces, the blanks between them, and the comment after them.
pub record PieceLine : Type 0 where
  pub pieces : List Piece
  pub gaps : ℕ → List ℕ
  pub comment : Option (List ℕ)

-- A comment, from its number sign on.
abbrev pub comment_text : Option (List ℕ) → List ℕ
comment_text None = []
comment_text (Some comment) = 35 ∷ comment

-- Lines of pieces, each ended by a line feed.
abbrev pub on_lines : List PieceLine → List ℕ
on_lines [] = []
on_lines (l ∷ ls) = with_gaps l.gaps 0 l.pieces (comment_text l.comment) ++ (10 ∷ on_lines ls)

-- The pieces on lines.
abbrev pub pieces_on : List PieceLine → List Piece
pieces_on [] = []
pieces_on (l ∷ ls) = l.pieces ++ pieces_on ls

-- Holds of a byte that ends no line.
abbrev pub is_inner : ℕ → Bool
is_inner b = not ((b == 10) || (b == 13))

-- Holds of a comment, which may have any byte except those that end lines.
abbrev pub IsComment : Option (List ℕ) → Type 0
IsComment None = Unit {0}
IsComment (Some comment) = Each is_inner comment

-- Only blanks are between the pieces, and a comment ends with its line.
abbrev pub Spaced : List PieceLine → Type 0
Spaced [] = Unit {0}
Spaced (l ∷ ls) = ((i : ℕ) → Each is_space (l.gaps i)) × IsComment l.comment × Spaced ls

-- Entries that can be spelled.
abbrev pub PlainEntries : List Entry → Type 0
PlainEntries [] = Unit {0}
PlainEntries (Field f v ∷ es) = Each is_plain f × Each is_plain v × PlainEntries es
PlainEntries (Info k v ∷ es) = Each is_plain k × Each is_plain v × PlainEntries es
PlainEntries (Second a ∷ es) = Each is_plain a × PlainEntries es

-- Statements that can be spelled.
abbrev pub PlainStatements : List Statement → Type 0
PlainStatements [] = Unit {0}
PlainStatements (Full word type name entries ∷ ss) = Each is_plain type × Each is_plain name × PlainEntries entries × PlainStatements ss
PlainStatements (Bare word type name ∷ ss) = Each is_plain type × Each is_plain name × PlainStatements ss
PlainStatements (Alias name second ∷ ss) = Each is_plain name × Each is_plain second × PlainStatements ss

module _ {S : Type 0} (rules : Rules S) where
  -- Each field is found in the record and set, and each second name is added, in this order.
  abbrev pub Sets : ℕ → List Entry → S → S → Type 0
  Sets number [] old new = old ≡ new
  Sets number (Field f v ∷ es) old new =
      (field : FieldNo) × (next : S) × (rules.field_of number f old ≡ Ok field) × (rules.set number field v old ≡ Ok next) × Sets number es next new
  Sets number (Info k v ∷ es) old new = Sets number es old new
  Sets number (Second a ∷ es) old new = (next : S) × (rules.alias number a old ≡ Ok next) × Sets number es next new

  -- The record with this type and name is found or added.
  abbrev pub Opens : List ℕ → List ℕ → ℕ → S → S → Type 0
  Opens type name number old new = (kind : Option RecordType) × (named_type rules type ≡ Some kind) × (opened rules kind name old ≡ Ok (number, new))

  -- Each record is found or added, its fields are set, and its names are added, in this order.
  abbrev pub Makes : List Statement → S → S → Type 0
  Makes [] old new = old ≡ new
  Makes (Full word type name entries ∷ ss) old new =
      (number : ℕ) × (added : S) × (filled : S) × Opens type name number old added × Sets number entries added filled × Makes ss filled new
  Makes (Bare word type name ∷ ss) old new = (number : ℕ) × (added : S) × Opens type name number old added × Makes ss added new
  Makes (Alias name second ∷ ss) old new =
      (number : ℕ) × (next : S) × (rules.find name old ≡ Ok number) × (rules.alias number second old ≡ Ok next) × Makes ss next new

  -- The spelled form of statements, with any blanks, reads as these statements.
  abbrev pub SpelledIsRead : Type 0
  SpelledIsRead =
      (statements : List Statement) (gaps : ℕ → List ℕ) (macros : List Defined) (old new : S) → ((i : ℕ) → Each is_space (gaps i)) → PlainStatements statements → length (spelled gaps statements) ≤ most_bytes → Makes statements old new → filled_by rules old macros (spelled gaps statements) ≡ Ok new

  -- The spelled form on several lines, which may end between any pieces and have any comments,
  -- reads as these statements.
  abbrev pub SpelledOnLinesIsRead : Type 0
  SpelledOnLinesIsRead =
      (statements : List Statement) (lines : List PieceLine) (macros : List Defined) (old new : S) → pieces_on lines ≡ pieces_of statements → Spaced lines → PlainStatements statements → length (on_lines lines) ≤ most_bytes → Makes statements old new → filled_by rules old macros (on_lines lines) ≡ Ok new
