-- The lines of a journal's file that are no entries. Their words are separated by tabs, and a line break ends each. The first
-- word of an entry is a number, and that of these lines is none.
use Rattle.std.specs.Prelude.{◌≡◌, ◌≤◌, ◌<◌, ◌^◌, ℕ, Bool, true, false, List, [], ◌∷◌, ◌++◌, codes, decimal, length, take, Option, Some}
use Rattle.hex.specs.Hex.{encode_lower, IsBytes}
use Rattle.ioc_saved.specs.declared.value.SavedValue.{SavedValue}
use Rattle.ioc_saved.specs.Files.{value_line}
use Rattle.ioc_saved.specs.Lines.{saved_in}
use Rattle.ioc_journal_lines.specs.declared.header.Header.{Header}
use Rattle.ioc_journal_lines.specs.Words.{is_whole, is_word, word_of, after_word, number_at, digest_at, ◌>>=◌}

-- The word for the rule by which devices belong to records: by `own` each record with a device link has a device of its own, and by
-- `lowest` a device that several records name is that of the lowest record.
unfoldable pub device_word : Bool → List ℕ
device_word true = codes "own"
device_word false = codes "lowest"

-- The word for whether a journal has seals.
unfoldable pub seal_word : Bool → List ℕ
seal_word true = codes "sealed"
seal_word false = codes "plain"

-- The header: the form of the file, the version of the program, the hash of the database text and the macros, the rule by which
-- devices belong to records, whether there are seals, and the place of the first entry.
unfoldable pub header_line : Header → List ℕ
header_line header =
    codes "journal" ++ 9 ∷ codes "1" ++ 9 ∷ header.program ++ 9 ∷ encode_lower header.database ++ 9 ∷ device_word header.has_own_devices
    ++ 9 ∷ seal_word header.is_sealed ++ 9 ∷ decimal header.first ++ 10 ∷ []

-- A value that a run has taken from a file of saved ones, with the line that it has there.
unfoldable pub base_line : SavedValue → List ℕ
base_line saved = codes "base" ++ 9 ∷ value_line saved

-- The end of a run: the number of its entries.
unfoldable pub end_line : ℕ → List ℕ
end_line place = codes "end" ++ 9 ∷ decimal place ++ 10 ∷ []

-- A seal.
unfoldable pub seal_line : List ℕ → List ℕ
seal_line hash = codes "seal" ++ 9 ∷ encode_lower hash ++ 10 ∷ []

-- Holds of the hashes that there are.
abbrev pub IsDigest : List ℕ → Type 0
IsDigest hash = (length hash ≡ 32) × IsBytes hash

-- Holds of the headers that there are.
pub record IsHeader (header : Header) : Type 0 where
  pub whole : is_whole header.program ≡ true
  pub short : length header.program ≤ 16
  pub database : IsDigest header.database
  pub first : header.first < 2 ^ 64

-- The parts of a header, whatever its words are.
unfoldable pub read_header : List ℕ → Option Header
read_header line = do
  hash ← digest_at (after_word (after_word (after_word line)))
  first ← number_at (after_word (after_word hash.1))
  Some (record {
    program = take 16 (word_of (after_word (after_word line)));
    database = hash.0;
    has_own_devices = is_word (word_of hash.1) (codes "own");
    is_sealed = is_word (word_of (after_word hash.1)) (codes "sealed");
    first = first.0;
  })

unfoldable pub read_base : List ℕ → Option SavedValue
read_base line = saved_in (after_word line)

unfoldable pub read_end : List ℕ → Option ℕ
read_end line = do
  place ← number_at (after_word line)
  Some place.0

unfoldable pub read_seal : List ℕ → Option (List ℕ)
read_seal line = do
  hash ← digest_at (after_word line)
  Some hash.0
