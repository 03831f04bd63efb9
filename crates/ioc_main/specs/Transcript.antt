-- What a run prints for a database text and a script.
use Rattle.std.specs.Prelude.{◌≡◌, ℕ, List, [], Option, IfSome, Result, Ok, Err}
use Rattle.std.specs.Io.KnownBytes.{Keeps}
use Rattle.rec_types.specs.Record.{record_rules, new_record}
use Rattle.rec_types.specs.Record.{Record}
use Rattle.ioc_values.specs.declared.error.DbFault.{DbFault}
use Rattle.ioc_dblex.specs.Macros.{Defined}
use Rattle.ioc_dbfile.specs.Loader.{Loading}
use Rattle.ioc_dbfile.specs.Finished.{loaded_by}
use Rattle.ioc_main.specs.declared.fault.RunFault.{RunFault}
use Rattle.ioc_command_line.specs.declared.ending.Stage.TheVariants.{Loading as while_loading, Line as in_line, Run as in_a_run}
use Rattle.ioc_main.specs.declared.fault.RunFault.TheVariants.{BadDb, Read, Write, Memory}
use Rattle.ioc_commands.specs.Commands.{lines_of}
use Rattle.ioc_sim.specs.Machine.{first_machine}
use Rattle.ioc_main.specs.Replay.{transcript}
use Rattle.ioc_main.specs.Written.{WritesFront, WritesPart}

-- The database of a text with these macros, or its first fault.
abbrev pub loaded : List Defined → List ℕ → Result (Loading Record) DbFault
loaded macros text = loaded_by record_rules new_record macros text

abbrev pub transcript_on : Loading Record → List ℕ → List ℕ
transcript_on database script = transcript record_rules database.names (first_machine record_rules database.records) (lines_of script)

-- If the database text is refused, nothing is printed.
abbrev pub transcript_by : Result (Loading Record) DbFault → List ℕ → List ℕ
transcript_by (Ok database) script = transcript_on database script
transcript_by (Err fault) script = []

-- The transcript of a database text, its macros and a script.
unfoldable pub transcript_of : List Defined → List ℕ → List ℕ → List ℕ
transcript_of macros text script = transcript_by (loaded macros text) script

-- Holds if the text is that of a database.
abbrev pub IsDatabase : List Defined → List ℕ → Type 0
IsDatabase macros text = (database : Loading Record) × (loaded macros text ≡ Ok database)

-- If the text is refused, the fault is its first one and nothing is written. Nothing is written
-- either if allocation fails while the database is loaded. If the script stops, or allocation fails
-- in one of its lines, a beginning of the transcript is written; after a failed write it is not the
-- whole transcript. Allocation fails nowhere else.
abbrev pub StopsWith : RunFault → List Defined → List ℕ → Option (List ℕ) → Option (List ℕ) → Option (List ℕ) → Type 0
StopsWith (BadDb fault) macros text script old new = (loaded macros text ≡ Err fault) × Keeps old new
StopsWith (Memory while_loading) macros text script old new = Keeps old new
StopsWith (Memory in_line) macros text script old new =
    IsDatabase macros text × IfSome script (λ script. WritesFront old (transcript_of macros text script) new)
StopsWith (Memory in_a_run) macros text script old new = ⊥
StopsWith (Read reason) macros text script old new =
    IsDatabase macros text × IfSome script (λ script. WritesFront old (transcript_of macros text script) new)
StopsWith Write macros text script old new =
    IsDatabase macros text × IfSome script (λ script. WritesPart old (transcript_of macros text script) new)
