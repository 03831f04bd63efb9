-- The saved values that a run has taken, in the text of its journal.
use Rattle.std.specs.Prelude.{◌≡◌, ℕ, Bool, true, false, ◌==◌, List, [], ◌∷◌, ◌++◌, Option, Some, None}
use Rattle.std.specs.List.{flat_map}
use Rattle.std.specs.Io.BufRead.{take_through}
use Rattle.ioc_saved.specs.declared.value.SavedValue.{SavedValue}
use Rattle.ioc_saved.specs.Lines.{is_saveable}
use Rattle.ioc_journal_lines.specs.Lines.{base_line}
use Rattle.ioc_journal_audit.specs.declared.bases.NextBase.{NextBase}
use Rattle.ioc_journal_audit.specs.declared.bases.NextBase.TheVariants.{Value, Broken, Other}

abbrev pub first_of : List ℕ → Option ℕ
first_of [] = None
first_of (b ∷ bs) = Some b

-- Whether the line of a saved value can begin with this byte, a `b`.
abbrev pub begins_base : Option ℕ → Bool
begins_base None = false
begins_base (Some b) = b == 98

-- The first byte of a text was seen, and nothing was read.
abbrev pub Peeks : List ℕ → Option ℕ → Option (List ℕ) → Type 0
Peeks text first left = (first ≡ first_of text) × (left ≡ Some text)

-- Holds if the first line of a text isn't that of a value that can be saved.
abbrev pub HasNoBase : List ℕ → Type 0
HasNoBase text = (saved : SavedValue) → is_saveable saved ≡ true → take_through 10 text ≡ base_line saved → ⊥

-- What was read of a text: the line of a value, or one that is none, or nothing.
abbrev pub TakesBase : List ℕ → NextBase → Option (List ℕ) → Type 0
TakesBase text (Value saved) left = (rest : List ℕ) × (text ≡ base_line saved ++ rest) × (left ≡ Some rest)
TakesBase text Broken left = HasNoBase text
TakesBase text Other left = HasNoBase text

-- Holds if the text begins with the lines of these values, and not with that of one more.
pub record HasBases (text : List ℕ) (values : List SavedValue) : Type 0 where
  pub rest : List ℕ
  pub begins : text ≡ flat_map base_line values ++ rest
  pub none : HasNoBase rest
