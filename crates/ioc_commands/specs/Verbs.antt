-- The first words of lines, and who may begin a line with each. This project's own, after the commands dbtr, dbpf, dbgf, dbl and
-- dbpr of an IOC's shell: Application Developer's Guide, "IOC Test Facilities".
use Rattle.std.specs.Prelude.{ℕ, List, codes, nat_eq, if◌then◌else◌, Bool, true, false, Option, Some, None}
use Rattle.std.specs.Cmp.Lexicographic.{pointwise}
use Rattle.ioc_commands.specs.declared.verb.Verb.{Verb}
use Rattle.ioc_commands.specs.declared.verb.Verb.TheVariants as verb
use Rattle.ioc_commands.specs.declared.verb.Dialect.{Dialect}
use Rattle.ioc_commands.specs.declared.verb.Dialect.TheVariants.{Script, Prompt, Console, Live}

-- The first words that are meant for programs, by their spelling.
abbrev pub program_verb_named : List ℕ → Option Verb
program_verb_named word =
    if pointwise nat_eq word (codes "put#") then Some verb.PutPlaced
    else (if pointwise nat_eq word (codes "notify#") then Some verb.NotifyPlaced
    else (if pointwise nat_eq word (codes "read") then Some verb.Read
    else (if pointwise nat_eq word (codes "records") then Some verb.Records
    else (if pointwise nat_eq word (codes "fields") then Some verb.Fields
    else (if pointwise nat_eq word (codes "menu") then Some verb.Choices
    else (if pointwise nat_eq word (codes "watch") then Some verb.Watch
    else (if pointwise nat_eq word (codes "unwatch") then Some verb.Unwatch
    else (if pointwise nat_eq word (codes "status") then Some verb.Status
    else None))))))))

-- The first words that no script has, by their spelling.
abbrev pub user_verb_named : List ℕ → Option Verb
user_verb_named word =
    if pointwise nat_eq word (codes "dbpf") then Some verb.Dbpf
    else (if pointwise nat_eq word (codes "dbgf") then Some verb.Dbgf
    else (if pointwise nat_eq word (codes "tick") then Some verb.Tick
    else (if pointwise nat_eq word (codes "checkpoint") then Some verb.Checkpoint
    else (if pointwise nat_eq word (codes "dbl") then Some verb.List
    else (if pointwise nat_eq word (codes "dbpr") then Some verb.Show
    else (if pointwise nat_eq word (codes "help") then Some verb.Help
    else (if pointwise nat_eq word (codes "exit") then Some verb.Exit
    else program_verb_named word)))))))

-- The first word of a line, by its spelling.
abbrev pub verb_named : List ℕ → Option Verb
verb_named word =
    if pointwise nat_eq word (codes "process") then Some verb.Process
    else (if pointwise nat_eq word (codes "put") then Some verb.Put
    else (if pointwise nat_eq word (codes "get") then Some verb.Get
    else (if pointwise nat_eq word (codes "at") then Some verb.At
    else (if pointwise nat_eq word (codes "next") then Some verb.Next
    else (if pointwise nat_eq word (codes "done") then Some verb.Done
    else (if pointwise nat_eq word (codes "fault") then Some verb.Fault
    else (if pointwise nat_eq word (codes "event") then Some verb.Event
    else (if pointwise nat_eq word (codes "io") then Some verb.Interrupt
    else (if pointwise nat_eq word (codes "scan") then Some verb.Scan
    else (if pointwise nat_eq word (codes "notify") then Some verb.Notify
    else (if pointwise nat_eq word (codes "cancel") then Some verb.Cancel
    else (if pointwise nat_eq word (codes "link") then Some verb.Link
    else (if pointwise nat_eq word (codes "tally") then Some verb.Tally
    else (if pointwise nat_eq word (codes "sets") then Some verb.Sets
    else user_verb_named word))))))))))))))

-- A script says when something happens and what devices answer next; a console has devices of its own.
abbrev pub in_scripts : Dialect → Bool
in_scripts Console = false
in_scripts Live = false
in_scripts dialect = true

-- A user may ask for help, and end.
abbrev pub of_users : Dialect → Bool
of_users Script = false
of_users dialect = true

abbrev pub of_consoles : Dialect → Bool
of_consoles Console = true
of_consoles Live = true
of_consoles dialect = false

-- Time passes by the lines of a console, unless it has a clock of its own.
abbrev pub without_a_clock : Dialect → Bool
without_a_clock Console = true
without_a_clock dialect = false

-- Whether a line may begin with this word.
abbrev pub knows : Dialect → Verb → Bool
knows dialect verb.At = in_scripts dialect
knows dialect verb.Next = in_scripts dialect
knows dialect verb.Tally = in_scripts dialect
knows dialect verb.Dbpf = of_users dialect
knows dialect verb.Dbgf = of_users dialect
knows dialect verb.Help = of_users dialect
knows dialect verb.Exit = of_users dialect
knows dialect verb.Tick = without_a_clock dialect
knows dialect verb.Checkpoint = of_consoles dialect
knows dialect verb.List = of_consoles dialect
knows dialect verb.Show = of_consoles dialect
knows dialect verb.PutPlaced = of_consoles dialect
knows dialect verb.NotifyPlaced = of_consoles dialect
knows dialect verb.Read = of_consoles dialect
knows dialect verb.Records = of_consoles dialect
knows dialect verb.Fields = of_consoles dialect
knows dialect verb.Choices = of_consoles dialect
knows dialect verb.Watch = of_consoles dialect
knows dialect verb.Unwatch = of_consoles dialect
knows dialect verb.Status = of_consoles dialect
knows dialect _ = true

-- How many bytes a line may have, without its line feed.
abbrev pub most_bytes : Dialect → ℕ
most_bytes Console = 4096
most_bytes Live = 4096
most_bytes dialect = 1024
