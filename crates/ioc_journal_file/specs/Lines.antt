-- What comes of reading a line.
use Rattle.std.specs.Prelude.{◌≡◌, ◌↔◌, ℕ, Bool, List, Option, Some, None, Result, Ok, Err, IsTrue}
use Rattle.ioc_device.specs.declared.Answer.{Answer}
use Rattle.ioc_events.specs.declared.event.Call.{Call}
use Rattle.ioc_journal_file.specs.declared.line.Mark.{Mark}
use Rattle.ioc_journal_file.specs.declared.line.Line.{Line}
use Rattle.ioc_journal_file.specs.declared.line_error.LineError.{LineError}
use Rattle.ioc_journal_file.specs.declared.line_error.LineError.TheVariants as error
use Rattle.ioc_journal_file.specs.Form.{line_of}

-- What a function returned, seen by `view`, is what reading gives, unless memory ran out.
abbrev pub Fails : {Y : Type 0} → LineError → Option Y → Type 0
Fails error.NotALine read = read ≡ None
Fails error.NoMemory read = Unit {0}

abbrev pub Reads : {X Y : Type 0} → (X → Y) → Result X LineError → Option Y → Type 0
Reads view (Ok x) read = read ≡ Some (view x)
Reads view (Err e) read = Fails e read

-- Holds if the answer is whether the bytes are the line of the entry.
abbrev pub IsLineOf : Bool → List ℕ → Mark → Call → List Answer → Type 0
IsLineOf b bytes mark call answers = IsTrue b ↔ (bytes ≡ line_of mark call answers)

-- Holds if memory ran out.
abbrev pub IsOutOfMemory : LineError → Type 0
IsOutOfMemory error.NotALine = ⊥
IsOutOfMemory error.NoMemory = Unit {0}

-- Holds if the entry was read, or memory ran out.
abbrev pub IsReadAs : Mark → Call → List Answer → Result Line LineError → Type 0
IsReadAs mark call answers (Ok line) = (line.mark ≡ mark) × (line.call ≡ call) × (line.answers.items ≡ answers)
IsReadAs mark call answers (Err e) = IsOutOfMemory e
