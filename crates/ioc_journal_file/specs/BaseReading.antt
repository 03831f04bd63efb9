-- Reading the lines of a base.
use Rattle.std.specs.Prelude.{ℕ, List, codes, Option, Some, None, if◌then◌else◌}
use Rattle.ioc_journal_file.specs.declared.kinds.ValueKind.{ValueKind}
use Rattle.ioc_journal_file.specs.declared.base.Part.{Part}
use Rattle.ioc_journal_file.specs.declared.base.Part.TheVariants as part
use Rattle.ioc_journal_file.specs.declared.base.HiddenState.{HiddenState}
use Rattle.ioc_journal_file.specs.declared.base.BaseItem.{BaseItem}
use Rattle.ioc_journal_file.specs.declared.base.BaseItem.TheVariants.{Field, State, Waiting, Desk}
use Rattle.ioc_journal_file.specs.declared.next_file.NextFile.{NextFile}
use Rattle.ioc_journal_file.specs.Words.{word_of, after_word, is_word}
use Rattle.ioc_journal_file.specs.Lists.{kind_of}
use Rattle.ioc_journal_file.specs.Parts.{number_at, text_at, field_at, value_at, link_field_at}
use Rattle.ioc_journal_file.specs.Reading.{◌>>=◌}

unfoldable pub some_at : List ℕ → Option (Option ℕ × List ℕ)
some_at bytes = do
  n ← number_at bytes
  Some (Some n.0, n.1)

-- A number, or none.
unfoldable pub option_at : List ℕ → Option (Option ℕ × List ℕ)
option_at bytes = if is_word (word_of bytes) (codes "none") then Some (None, after_word bytes) else some_at bytes

unfoldable pub value_part_at : List ℕ → Option (Part × List ℕ)
value_part_at bytes = do
  v ← value_at bytes
  Some (part.Value v.0, v.1)

unfoldable pub link_part_at : List ℕ → Option (Part × List ℕ)
link_part_at bytes = do
  l ← link_field_at bytes
  Some (part.Link l.0, l.1)

abbrev pub part_by : Option ValueKind → List ℕ → Option (Part × List ℕ)
part_by (Some kind) bytes = value_part_at bytes
part_by None bytes = link_part_at bytes

-- What a field has. A value begins with the word of its kind, a link with another word.
unfoldable pub part_at : List ℕ → Option (Part × List ℕ)
part_at bytes = part_by (kind_of (word_of bytes)) bytes

unfoldable pub state_at : List ℕ → Option (HiddenState × List ℕ)
state_at bytes = do
  time ← number_at bytes
  pending ← option_at time.1
  last_pending ← number_at pending.1
  last_change ← number_at last_pending.1
  notification ← option_at last_change.1
  Some (record { time = time.0; pending = pending.0; last_pending = last_pending.0; last_change = last_change.0; notification = notification.0 }, notification.1)

unfoldable pub field_item_at : List ℕ → Option BaseItem
field_item_at bytes = do
  number ← number_at bytes
  field ← field_at number.1
  it ← part_at field.1
  Some (Field number.0 field.0 it.0)

unfoldable pub state_item_at : List ℕ → Option BaseItem
state_item_at bytes = do
  number ← number_at bytes
  it ← state_at number.1
  Some (State number.0 it.0)

unfoldable pub waiting_item_at : List ℕ → Option BaseItem
waiting_item_at bytes = do
  number ← number_at bytes
  target ← number_at number.1
  field ← field_at target.1
  value ← value_at field.1
  Some (Waiting (record { number = number.0; target = target.0; field = field.0; value = value.0 }))

unfoldable pub desk_item_at : List ℕ → Option BaseItem
desk_item_at bytes = do
  desk ← number_at bytes
  calls ← number_at desk.1
  Some (Desk desk.0 calls.0)

-- A line of a base, by its first word.
unfoldable pub item_at : List ℕ → Option BaseItem
item_at line =
    if is_word (word_of line) (codes "base") then field_item_at (after_word line)
    else (if is_word (word_of line) (codes "state") then state_item_at (after_word line)
    else (if is_word (word_of line) (codes "waiting") then waiting_item_at (after_word line)
    else desk_item_at (after_word line)))

-- The file in which a journal goes on.
unfoldable pub next_at : List ℕ → Option NextFile
next_at line =
    let name = text_at 255 (after_word line) in
    number_at name.1 >>= λ place. Some (record { name = name.0; place = place.0 })
