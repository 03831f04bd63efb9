-- The lines of a script and their commands: `process REC`, `put REC.F TEXT`, `get REC.F`, `at N`,
-- `next REC done TEXT`, `next REC fault`, `next REC later`, `done REC N TEXT`, `fault REC N`,
-- `event NAME`, `io WORD`, `scan CHOICE`, `link REC.F TEXT`, `tally`, `notify REC.F TEXT`, `cancel
-- N`, `sets`. This project's own, after the commands dbtr, dbpf and dbgf of an IOC's shell:
-- Application Developer's Guide, "IOC Test Facilities".
use Rattle.std.specs.Prelude.{ℕ, ◌^◌, List, [], ◌∷◌, take, length, codes, nat_lt, nat_eq, ◌==◌, if◌then◌else◌, unwrap_or, slice_get, Bool, true, false, Option, Some, None}
use Rattle.std.specs.List.{onto_first}
use Rattle.std.specs.Cmp.Lexicographic.{pointwise}
use Rattle.ioc_values.specs.Number.{numeral, below}
use Rattle.ioc_menus.specs.declared.menu.Menu.TheVariants.{Scan as Scan-menu}
use Rattle.ioc_menus.specs.declared.scan.Scan.{Scan as Scan-choice}
use Rattle.ioc_menus.specs.Texts.{choice_of}
use Rattle.ioc_menus.specs.Numbers.{scans}
use Rattle.ioc_scan.specs.declared.period.Period.{Period}
use Rattle.ioc_scan.specs.Places.{period_of}
use Rattle.ioc_commands.specs.declared.verb.Verb.{Verb}
use Rattle.ioc_commands.specs.declared.verb.Verb.TheVariants as verbs
use Rattle.ioc_commands.specs.declared.verb.Dialect.TheVariants.{Script}
use Rattle.ioc_commands.specs.Verbs.{knows, verb_named}

-- The lines, without the line feeds that end them.
abbrev pub lines_of : List ℕ → List (List ℕ)
lines_of [] = []
lines_of (b ∷ bs) = if b == 10 then [] ∷ lines_of bs else onto_first b (lines_of bs)

-- The beginning of a line, long enough to recognize that the line is too long.
unfoldable pub cut : List ℕ → List ℕ
cut line = take 4097 line

-- The bytes before the first `separator`.
abbrev pub before : ℕ → List ℕ → List ℕ
before separator [] = []
before separator (b ∷ bs) = if b == separator then [] else b ∷ before separator bs

-- The bytes behind the first `separator`, if there is one.
abbrev pub behind : ℕ → List ℕ → Option (List ℕ)
behind separator [] = None
behind separator (b ∷ bs) = if b == separator then Some bs else behind separator bs

-- The bytes behind the first byte, if there is one.
abbrev pub behind_first : List ℕ → Option (List ℕ)
behind_first [] = None
behind_first (b ∷ bs) = Some bs

-- The command of a line, with its records and fields by their names.
pub data Command : Type 0 where
  Silent : Command
  Bad : Command
  Process : (name : List ℕ) → Command
  Put : (name : List ℕ) → (field : List ℕ) → (text : List ℕ) → Command
  Get : (name : List ℕ) → (field : List ℕ) → Command
  -- The time stamp of the following lines.
  At : (moment : ℕ) → Command
  -- Queues an answer of the device of a record, behind the answers that it has.
  Next-done : (name : List ℕ) → (text : List ℕ) → Command
  Next-fault : (name : List ℕ) → Command
  Next-later : (name : List ℕ) → Command
  -- Completes a record with the asynchronous answer of its device. `wait` is the number of the
  -- completion that the record awaits.
  Done : (name : List ℕ) → (wait : ℕ) → (text : List ℕ) → Command
  Fault : (name : List ℕ) → (wait : ℕ) → Command
  -- Posts the event with this name.
  Event : (name : List ℕ) → Command
  -- An interrupt of the devices whose links begin with this word.
  Interrupt : (word : List ℕ) → Command
  -- Scans the list of a period.
  Scan : (period : Period) → Command
  -- Changes a link field to the link of this text.
  Link : (name : List ℕ) → (field : List ℕ) → (text : List ℕ) → Command
  -- Prints the counts of requests.
  Tally : Command
  -- Puts a text into a field, with a notification.
  Notify : (name : List ℕ) → (field : List ℕ) → (text : List ℕ) → Command
  -- Cancels the put with notification with this number.
  Cancel : (number : ℕ) → Command
  -- Prints the connected parts.
  Sets : Command

-- One word with nothing behind it.
abbrev pub process_of : List ℕ → Option (List ℕ) → Command
process_of [] more = Bad
process_of (b ∷ bs) (Some words) = Bad
process_of (b ∷ bs) None = Process (b ∷ bs)

-- The text may be missing.
abbrev pub put_at : List ℕ → Option (List ℕ) → Option (List ℕ) → Command
put_at name None text = Bad
put_at name (Some field) (Some text) = Put name field text
put_at name (Some field) None = Put name field []

abbrev pub get_at : List ℕ → Option (List ℕ) → Option (List ℕ) → Command
get_at name None more = Bad
get_at name (Some field) (Some words) = Bad
get_at name (Some field) None = Get name field

-- The field of a word, which is cut at its first dot. Where a record alone is its field VAL, a word without a dot has this field.
abbrev pub field_of_word : Bool → List ℕ → Option (List ℕ)
field_of_word false word = behind 46 word
field_of_word true [] = None
field_of_word true (b ∷ bs) = Some (unwrap_or (behind 46 (b ∷ bs)) (codes "VAL"))

abbrev pub put_of : Bool → List ℕ → Option (List ℕ) → Command
put_of alone word text = put_at (before 46 word) (field_of_word alone word) text

abbrev pub get_of : Bool → List ℕ → Option (List ℕ) → Command
get_of alone word more = get_at (before 46 word) (field_of_word alone word) more

-- One number of decimal digits, below 2^64.
abbrev pub at_moment : Option ℕ → Command
at_moment None = Bad
at_moment (Some moment) = At moment

abbrev pub at_of : List ℕ → Option (List ℕ) → Command
at_of word (Some words) = Bad
at_of word None = at_moment (below (2 ^ 64) (numeral 10 word))

-- This command, if nothing is behind it.
abbrev pub if_last : Option (List ℕ) → Command → Command
if_last None command = command
if_last (Some words) command = Bad

-- Queues an answer of this kind.
abbrev pub next_by : List ℕ → List ℕ → Option (List ℕ) → Command
next_by name word text =
    if pointwise nat_eq word (codes "done") then Next-done name (unwrap_or text [])
    else (if pointwise nat_eq word (codes "fault") then if_last text (Next-fault name)
    else (if pointwise nat_eq word (codes "later") then if_last text (Next-later name) else Bad))

abbrev pub next_of : List ℕ → Option (List ℕ) → Command
next_of [] words = Bad
next_of (b ∷ bs) None = Bad
next_of (b ∷ bs) (Some words) = next_by (b ∷ bs) (before 32 words) (behind 32 words)

-- A number and then a text.
abbrev pub done_at : List ℕ → Option ℕ → Option (List ℕ) → Command
done_at name None text = Bad
done_at name (Some wait) text = Done name wait (unwrap_or text [])

abbrev pub done_of : List ℕ → Option (List ℕ) → Command
done_of [] words = Bad
done_of (b ∷ bs) None = Bad
done_of (b ∷ bs) (Some words) = done_at (b ∷ bs) (below (2 ^ 64) (numeral 10 (before 32 words))) (behind 32 words)

-- One number.
abbrev pub fault_at : List ℕ → Option ℕ → Command
fault_at name None = Bad
fault_at name (Some wait) = Fault name wait

abbrev pub fault_of : List ℕ → Option (List ℕ) → Command
fault_of [] words = Bad
fault_of (b ∷ bs) None = Bad
fault_of (b ∷ bs) (Some word) = fault_at (b ∷ bs) (below (2 ^ 64) (numeral 10 word))

-- One word with nothing behind it.
abbrev pub interrupt_of : List ℕ → Option (List ℕ) → Command
interrupt_of [] more = Bad
interrupt_of (b ∷ bs) (Some words) = Bad
interrupt_of (b ∷ bs) None = Interrupt (b ∷ bs)

abbrev pub period_at : Option Scan-choice → Option Period
period_at None = None
period_at (Some choice) = period_of choice

abbrev pub period_numbered : Option ℕ → Option Period
period_numbered None = None
period_numbered (Some number) = period_at (slice_get scans number)

-- The period with this name.
abbrev pub period_named : List ℕ → Option Period
period_named text = period_numbered (choice_of Scan-menu text)

abbrev pub scan_at : Option Period → Command
scan_at None = Bad
scan_at (Some period) = Scan period

-- A period, by its choice of SCAN.
abbrev pub scan_of : List ℕ → Command
scan_of text = scan_at (period_named text)

-- The text may be missing.
abbrev pub link_at : List ℕ → Option (List ℕ) → Option (List ℕ) → Command
link_at name None text = Bad
link_at name (Some field) text = Link name field (unwrap_or text [])

abbrev pub link_of : List ℕ → Option (List ℕ) → Command
link_of word text = link_at (before 46 word) (behind 46 word) text

-- The text may be missing.
abbrev pub notify_at : List ℕ → Option (List ℕ) → Option (List ℕ) → Command
notify_at name None text = Bad
notify_at name (Some field) text = Notify name field (unwrap_or text [])

abbrev pub notify_of : Bool → List ℕ → Option (List ℕ) → Command
notify_of alone word text = notify_at (before 46 word) (field_of_word alone word) text

abbrev pub cancel_at : Option ℕ → Command
cancel_at None = Bad
cancel_at (Some number) = Cancel number

-- One number with nothing behind it.
abbrev pub cancel_of : List ℕ → Option (List ℕ) → Command
cancel_of word (Some words) = Bad
cancel_of word None = cancel_at (below (2 ^ 64) (numeral 10 word))

-- The command of a first word and the words behind it. Where a record alone is its field VAL, gets and puts may lack the field.
abbrev pub with_words : Bool → Verb → List ℕ → Command
with_words alone verbs.Process words = process_of (before 32 words) (behind 32 words)
with_words alone verbs.Put words = put_of alone (before 32 words) (behind 32 words)
with_words alone verbs.Dbpf words = put_of alone (before 32 words) (behind 32 words)
with_words alone verbs.Get words = get_of alone (before 32 words) (behind 32 words)
with_words alone verbs.Dbgf words = get_of alone (before 32 words) (behind 32 words)
with_words alone verbs.At words = at_of (before 32 words) (behind 32 words)
with_words alone verbs.Next words = next_of (before 32 words) (behind 32 words)
with_words alone verbs.Done words = done_of (before 32 words) (behind 32 words)
with_words alone verbs.Fault words = fault_of (before 32 words) (behind 32 words)
with_words alone verbs.Event words = Event words
with_words alone verbs.Interrupt words = interrupt_of (before 32 words) (behind 32 words)
with_words alone verbs.Scan words = scan_of words
with_words alone verbs.Notify words = notify_of alone (before 32 words) (behind 32 words)
with_words alone verbs.Cancel words = cancel_of (before 32 words) (behind 32 words)
with_words alone verbs.Link words = link_of (before 32 words) (behind 32 words)
with_words alone _ words = Bad

-- The command of a line of one word.
abbrev pub of_one_word : Verb → Command
of_one_word verbs.Tally = Tally
of_one_word verbs.Event = Event []
of_one_word verbs.Sets = Sets
of_one_word _ = Bad

-- The command of a first word and what is behind it.
abbrev pub by_verb : Bool → Verb → Option (List ℕ) → Command
by_verb alone verb None = of_one_word verb
by_verb alone verb (Some words) = with_words alone verb words

-- The command of a line of a script by its first word, if scripts know it.
abbrev pub by_any_verb : Option Verb → Option (List ℕ) → Command
by_any_verb None words = Bad
by_any_verb (Some verb) words = if knows Script verb then by_verb false verb words else Bad

-- Words are separated by one space.
abbrev pub worded : List ℕ → Command
worded line = by_any_verb (verb_named (before 32 line)) (behind 32 line)

-- For empty lines, and those that begin with `#`, nothing is printed.
abbrev pub short_command : List ℕ → Command
short_command [] = Silent
short_command (b ∷ bs) = if b == 35 then Silent else worded (b ∷ bs)

-- A line of more than 1,024 bytes is bad, whatever it contains.
unfoldable pub command_of : List ℕ → Command
command_of line = if nat_lt 1024 (length line) then Bad else short_command line

-- Whether nothing is printed for a line.
abbrev pub is_silent : Command → Bool
is_silent Silent = true
is_silent _ = false
