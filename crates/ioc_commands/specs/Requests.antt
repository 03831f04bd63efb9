-- What the lines of a user or a program ask for: those of a script, and `tick N`, `checkpoint`, `dbl TYPE PATTERN`, `dbpr REC`,
-- `put# REC.F TEXT`, `notify# REC.F TEXT`, `read REC F..`, `records`, `fields TYPE`, `menu NAME`, `watch REC.F`, `unwatch REC.F`,
-- `status`, `help`, `exit`.
-- Application Developer's Guide, "IOC Test Facilities".
use Rattle.std.specs.Prelude.{ℕ, ◌^◌, List, [], ◌∷◌, length, codes, nat_lt, ◌==◌, ◌&&◌, if◌then◌else◌, Bool, true, false, Option, Some, None, option_map, unwrap_or}
use Rattle.ioc_values.specs.Number.{numeral, below}
use Rattle.ioc_commands.specs.declared.verb.Verb.{Verb}
use Rattle.ioc_commands.specs.declared.verb.Verb.TheVariants as verbs
use Rattle.ioc_commands.specs.declared.verb.Dialect.{Dialect}
use Rattle.ioc_commands.specs.Verbs.{knows, most_bytes, verb_named}
use Rattle.ioc_commands.specs.Commands.{Command, Silent, Bad, before, behind, by_verb, field_of_word}
use Rattle.ioc_commands.specs.Seen.{bytes, seen as command_seen}
use Rattle.ioc_commands.specs.declared.request.Request.{Request as Code}
use Rattle.ioc_commands.specs.declared.request.Request.TheVariants as code

-- What a line asks for.
pub data Request : Type 0 where
  -- What this line of a script asks for.
  Command-of : (command : Command) → Request
  Tick : (count : ℕ) → Request
  Checkpoint : Request
  -- A type, a pattern, or a type and a pattern.
  List-names : (word : List ℕ) → (pattern : Option (List ℕ)) → Request
  Show : (name : List ℕ) → Request
  -- A put whose reply has its place in the journal. The text has escapes.
  Put-placed : (name : List ℕ) → (field : List ℕ) → (text : List ℕ) → Request
  Notify-placed : (name : List ℕ) → (field : List ℕ) → (text : List ℕ) → Request
  -- A record, and the names of fields with a space between each two.
  Read : (name : List ℕ) → (fields : List ℕ) → Request
  Records : Request
  Fields : (record-type : List ℕ) → Request
  Choices : (menu : List ℕ) → Request
  -- A word that names a field, or the number behind it.
  Watch : (word : List ℕ) → Request
  Unwatch : (word : List ℕ) → Request
  Status : Request
  Help : Request
  Exit : Request

abbrev pub bad : Request
bad = Command-of Bad

-- This request, if nothing is behind its word.
abbrev pub alone : Option (List ℕ) → Request → Request
alone None request = request
alone (Some words) request = bad

-- A number from 1 to 1,000,000, or 1.
abbrev pub tick_at : Option ℕ → Request
tick_at None = bad
tick_at (Some count) = if nat_lt 0 count && nat_lt count 1000001 then Tick count else bad

abbrev pub ticks_of : Option (List ℕ) → Request
ticks_of None = Tick 1
ticks_of (Some word) = tick_at (below (2 ^ 64) (numeral 10 word))

-- The one word of these.
abbrev pub word_at : List ℕ → Option (List ℕ) → Option (List ℕ)
word_at [] more = None
word_at (b ∷ bs) (Some words) = None
word_at (b ∷ bs) None = Some (b ∷ bs)

abbrev pub one_word : Option (List ℕ) → Option (List ℕ)
one_word None = None
one_word (Some words) = word_at (before 32 words) (behind 32 words)

-- What one word is asked for.
abbrev pub of_word : (List ℕ → Request) → Option (List ℕ) → Request
of_word request None = bad
of_word request (Some word) = request word

abbrev pub shown : Option (List ℕ) → Request
shown words = of_word Show (one_word words)

abbrev pub fields_of : Option (List ℕ) → Request
fields_of words = of_word Fields (one_word words)

abbrev pub choices_of : Option (List ℕ) → Request
choices_of words = of_word Choices (one_word words)

abbrev pub watch_of : Option (List ℕ) → Request
watch_of words = of_word Watch (one_word words)

abbrev pub unwatch_of : Option (List ℕ) → Request
unwatch_of words = of_word Unwatch (one_word words)

-- One word or two, or `*`.
abbrev pub listed_at : List ℕ → Option (List ℕ) → Request
listed_at [] more = bad
listed_at (b ∷ bs) None = List-names (b ∷ bs) None
listed_at (b ∷ bs) (Some words) = of_word (λ pattern. List-names (b ∷ bs) (Some pattern)) (one_word (Some words))

abbrev pub listed : Option (List ℕ) → Request
listed None = List-names (codes "*") None
listed (Some words) = listed_at (before 32 words) (behind 32 words)

-- A record and the names of its fields, at least one.
abbrev pub read_at : List ℕ → Option (List ℕ) → Request
read_at [] fields = bad
read_at (b ∷ bs) None = bad
read_at (b ∷ bs) (Some []) = bad
read_at (b ∷ bs) (Some (c ∷ cs)) = Read (b ∷ bs) (c ∷ cs)

abbrev pub read_of : Option (List ℕ) → Request
read_of None = bad
read_of (Some words) = read_at (before 32 words) (behind 32 words)

-- A put whose reply has its place, with a notification or without one.
abbrev pub placed : Bool → List ℕ → List ℕ → List ℕ → Request
placed false name field text = Put-placed name field text
placed true name field text = Notify-placed name field text

-- A channel, whose record alone is its field VAL. The text may be missing.
abbrev pub placed_at : Bool → List ℕ → Option (List ℕ) → Option (List ℕ) → Request
placed_at notifies name None text = bad
placed_at notifies name (Some field) text = placed notifies name field (unwrap_or text [])

abbrev pub placed_of : Bool → Option (List ℕ) → Request
placed_of notifies None = bad
placed_of notifies (Some words) = placed_at notifies (before 46 (before 32 words)) (field_of_word true (before 32 words)) (behind 32 words)

-- What a first word and what is behind it ask for. A record alone is its field VAL.
abbrev pub asked_by : Verb → Option (List ℕ) → Request
asked_by verbs.Tick words = ticks_of words
asked_by verbs.List words = listed words
asked_by verbs.Show words = shown words
asked_by verbs.PutPlaced words = placed_of false words
asked_by verbs.NotifyPlaced words = placed_of true words
asked_by verbs.Read words = read_of words
asked_by verbs.Records words = alone words Records
asked_by verbs.Fields words = fields_of words
asked_by verbs.Choices words = choices_of words
asked_by verbs.Watch words = watch_of words
asked_by verbs.Unwatch words = unwatch_of words
asked_by verbs.Status words = alone words Status
asked_by verbs.Checkpoint words = alone words Checkpoint
asked_by verbs.Help words = alone words Help
asked_by verbs.Exit words = alone words Exit
asked_by verb words = Command-of (by_verb true verb words)

-- What a line of a speaker asks for by its first word.
abbrev pub by_any : Dialect → Option Verb → Option (List ℕ) → Request
by_any dialect None words = bad
by_any dialect (Some verb) words = if knows dialect verb then asked_by verb words else bad

-- For empty lines, and those that begin with `#`, nothing is printed.
abbrev pub short_request : Dialect → List ℕ → Request
short_request dialect [] = Command-of Silent
short_request dialect (b ∷ bs) =
    if b == 35 then Command-of Silent else by_any dialect (verb_named (before 32 (b ∷ bs))) (behind 32 (b ∷ bs))

-- What a line asks for. A line that is too long is bad, whatever it contains.
unfoldable pub request_of : Dialect → List ℕ → Request
request_of dialect line = if nat_lt (most_bytes dialect) (length line) then bad else short_request dialect line

-- The requests of the code, as those of the specifications.
abbrev pub seen : Code → Request
seen (code.Command command) = Command-of (command_seen command)
seen (code.Tick count) = Tick count
seen code.Checkpoint = Checkpoint
seen (code.List word pattern) = List-names word.now (option_map bytes pattern)
seen (code.Show name) = Show name.now
seen (code.PutPlaced name field text) = Put-placed name.now field.now text.now
seen (code.NotifyPlaced name field text) = Notify-placed name.now field.now text.now
seen (code.Read name fields) = Read name.now fields.now
seen code.Records = Records
seen (code.Fields record-type) = Fields record-type.now
seen (code.Choices menu) = Choices menu.now
seen (code.Watch word) = Watch word.now
seen (code.Unwatch word) = Unwatch word.now
seen code.Status = Status
seen code.Help = Help
seen code.Exit = Exit
