-- The lines of a base, the state of a database at one place of its journal, and the line that names
-- the file in which a journal goes on. Record Reference Manual, "Fields Common to All Record Types";
-- Application Developer's Guide, "Put with Notification". The journal is this project's own.
use Rattle.std.specs.Prelude.{ℕ, ◌≤◌, List, [], ◌∷◌, ◌++◌, codes, decimal, length, Option, Some, None, IfSome}
use Rattle.ioc_fields.specs.Names.{name_of}
use Rattle.ioc_notify.specs.declared.waiting_lists.Waiting.{Waiting as Waits}
use Rattle.ioc_journal_file.specs.declared.base.Part.{Part}
use Rattle.ioc_journal_file.specs.declared.base.Part.TheVariants as part
use Rattle.ioc_journal_file.specs.declared.base.HiddenState.{HiddenState}
use Rattle.ioc_journal_file.specs.declared.base.BaseItem.{BaseItem}
use Rattle.ioc_journal_file.specs.declared.base.BaseItem.TheVariants.{Field, State, Waiting, Desk}
use Rattle.ioc_journal_file.specs.declared.next_file.NextFile.{NextFile}
use Rattle.ioc_journal_file.specs.Texts.{quoted}
use Rattle.ioc_journal_file.specs.Form.{value_text, link_field_text}
use Rattle.ioc_journal_file.specs.Fits.{IsNumber, IsValue, IsLink, IsLead}

-- A number, or none.
unfoldable pub option_text : Option ℕ → List ℕ
option_text None = codes "none"
option_text (Some n) = decimal n

-- What a field has: a value, or a link with where it leads.
unfoldable pub part_text : Part → List ℕ
part_text (part.Value value) = value_text value
part_text (part.Link link) = link_field_text link

-- What no field shows: the time stamp, the completion that the record waits for and the last one, the
-- last change of its scan list, and the put with notification that it is part of.
unfoldable pub state_text : HiddenState → List ℕ
state_text s =
    decimal s.time ++ 9 ∷ option_text s.pending ++ 9 ∷ decimal s.last_pending ++ 9 ∷ decimal s.last_change ++ 9 ∷ option_text s.notification

-- A line of a base.
unfoldable pub item_line : BaseItem → List ℕ
item_line (Field number field it) = codes "base" ++ 9 ∷ decimal number ++ 9 ∷ name_of field ++ 9 ∷ part_text it ++ 10 ∷ []
item_line (State number it) = codes "state" ++ 9 ∷ decimal number ++ 9 ∷ state_text it ++ 10 ∷ []
item_line (Waiting w) =
    codes "waiting" ++ 9 ∷ (decimal w.number ++ 9 ∷ decimal w.target ++ 9 ∷ name_of w.field ++ 9 ∷ value_text w.value) ++ 10 ∷ []
item_line (Desk desk calls) = codes "desk" ++ 9 ∷ decimal desk ++ 9 ∷ decimal calls ++ 10 ∷ []

-- The file in which a journal goes on, and the place of its first entry.
unfoldable pub next_line : NextFile → List ℕ
next_line next = codes "next" ++ 9 ∷ quoted next.name ++ 9 ∷ decimal next.place ++ 10 ∷ []

-- The parts of bases that there are: numbers are in range, and texts are no longer than they can be.
abbrev pub IsOption : Option ℕ → Type 0
IsOption o = IfSome o IsNumber

abbrev pub IsPart : Part → Type 0
IsPart (part.Value value) = IsValue value
IsPart (part.Link link) = IsLink link.link × IsLead link.lead

pub record IsState (s : HiddenState) : Type 0 where
  pub time : IsNumber s.time
  pub pending : IsOption s.pending
  pub last_pending : IsNumber s.last_pending
  pub last_change : IsNumber s.last_change
  pub notification : IsOption s.notification

pub record IsWaiting (w : Waits) : Type 0 where
  pub number : IsNumber w.number
  pub target : IsNumber w.target
  pub value : IsValue w.value

abbrev pub IsItem : BaseItem → Type 0
IsItem (Field number field it) = IsNumber number × IsPart it
IsItem (State number it) = IsNumber number × IsState it
IsItem (Waiting w) = IsWaiting w
IsItem (Desk desk calls) = IsNumber desk × IsNumber calls

pub record IsNext (next : NextFile) : Type 0 where
  pub name : length next.name ≤ 255
  pub place : IsNumber next.place
