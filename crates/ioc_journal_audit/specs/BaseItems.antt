-- The base with which the file of a journal begins that goes on behind an earlier one, in its text.
use Rattle.std.specs.Prelude.{◌≡◌, ℕ, Bool, false, ◌==◌, ◌||◌, List, ◌++◌, Option, Some, None}
use Rattle.std.specs.List.{flat_map}
use Rattle.std.specs.Io.BufRead.{take_through}
use Rattle.ioc_journal_file.specs.declared.base.BaseItem.{BaseItem}
use Rattle.ioc_journal_file.specs.Bases.{item_line, IsItem}
use Rattle.ioc_journal_audit.specs.declared.items.NextItem.{NextItem}
use Rattle.ioc_journal_audit.specs.declared.items.NextItem.TheVariants.{Item, Broken, Other}

-- Whether a line of a base can begin with this byte: a `b`, an `s`, a `w` or a `d`.
abbrev pub begins_item : Option ℕ → Bool
begins_item None = false
begins_item (Some b) = (b == 98) || ((b == 115) || ((b == 119) || (b == 100)))

-- Holds if the first line of a text isn't a line of a base.
abbrev pub HasNoItem : List ℕ → Type 0
HasNoItem text = (item : BaseItem) → IsItem item → take_through 10 text ≡ item_line item → ⊥

-- What was read of a text: a line of a base, or one that is none, or nothing.
abbrev pub TakesItem : List ℕ → NextItem → Option (List ℕ) → Type 0
TakesItem text (Item item) left = (rest : List ℕ) × (text ≡ item_line item ++ rest) × (left ≡ Some rest)
TakesItem text Broken left = HasNoItem text
TakesItem text Other left = HasNoItem text

-- Holds if the text begins with these lines of a base, and not with one more.
pub record HasItems (text : List ℕ) (items : List BaseItem) : Type 0 where
  pub rest : List ℕ
  pub begins : text ≡ flat_map item_line items ++ rest
  pub none : HasNoItem rest
