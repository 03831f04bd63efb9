-- How a program ends.
use Rattle.std.specs.Prelude.{◌≡◌, ◌⊎◌, ℕ, ℤ, pos, ◌==◌, List, [], ◌∷◌, ◌++◌, codes, Bool, true, false, String, if◌then◌else◌, Option, Some, None, Result, Ok, Err}
use Rattle.std.specs.Borrow.{Bor}
use Rattle.std.specs.Global.{Global}
use Rattle.std.specs.String.{string_bytes}
use Rattle.std.specs.declared.io.ErrorKind.{ErrorKind}
use Rattle.std.specs.declared.io.ErrorKind.TheVariants as kind
use Rattle.ioc_values.specs.declared.error.DbFault.{DbFault}
use Rattle.ioc_values.specs.Words.{fault_text as db_fault_text}
use Rattle.ioc_command_line.specs.declared.reason.Reason.{Reason}
use Rattle.ioc_command_line.specs.declared.reason.Reason.TheVariants as reason
use Rattle.ioc_command_line.specs.declared.ending.Stage.TheVariants.{Loading, Line, Run}
use Rattle.ioc_command_line.specs.declared.ending.FileRole.{FileRole}
use Rattle.ioc_command_line.specs.declared.ending.FileRole.TheVariants.{Database, Script, Journal, Request, Saved}
use Rattle.ioc_command_line.specs.declared.ending.UsageFault.{UsageFault}
use Rattle.ioc_command_line.specs.declared.ending.UsageFault.TheVariants.{NoDefinition, NoArgument, NotText}
use Rattle.ioc_command_line.specs.declared.ending.Stop.{Stop}
use Rattle.ioc_command_line.specs.declared.ending.Stop.TheVariants.{Shown, Refused, Usage, Unreadable, Unwritable, Exists, BadDb, BadDbIn, Write, Memory}
use Rattle.ioc_command_line.specs.declared.ending.Ending.{Ending}
use Rattle.ioc_command_line.specs.declared.ending.Stream.{Stream}
use Rattle.ioc_command_line.specs.declared.ending.Stream.TheVariants as stream

-- The reason of the operating system, by the kind of its error.
abbrev pub reason_of : ErrorKind → Reason
reason_of kind.NotFound = reason.NotFound
reason_of kind.PermissionDenied = reason.PermissionDenied
reason_of kind.NotADirectory = reason.NotADirectory
reason_of kind.IsADirectory = reason.IsADirectory
reason_of kind.StorageFull = reason.StorageFull
reason_of kind.FileTooLarge = reason.FileTooLarge
reason_of kind.BrokenPipe = reason.BrokenPipe
reason_of _ = reason.Other

-- Whether the code of an error says that no file is open (EBADF).
abbrev pub is_closed : Option ℤ → Bool
is_closed None = false
is_closed (Some (pos code)) = code == 9
is_closed (Some _) = false

-- The reason of the operating system for standard input, by the code and the kind of its error.
abbrev pub input_reason_of : Option ℤ → ErrorKind → Reason
input_reason_of code error = if is_closed code then reason.ClosedInput else reason_of error

-- The words of the operating system.
unfoldable pub reason_text : Reason → List ℕ
reason_text reason.NotFound = codes "No such file or directory"
reason_text reason.PermissionDenied = codes "Permission denied"
reason_text reason.NotADirectory = codes "Not a directory"
reason_text reason.IsADirectory = codes "Is a directory"
reason_text reason.StorageFull = codes "No space left on device"
reason_text reason.FileTooLarge = codes "File too large"
reason_text reason.BrokenPipe = codes "Broken pipe"
reason_text reason.ClosedInput = codes "Standard input is closed"
reason_text reason.Gap = codes "Entries are missing"
reason_text reason.Other = codes "Input/output error"

-- Whether allocation failed.
abbrev pub is_out_of_memory : ErrorKind → Bool
is_out_of_memory kind.OutOfMemory = true
is_out_of_memory _ = false

-- Why a file could not be opened or read.
abbrev pub unreadable : FileRole → String Global → ErrorKind → Stop
unreadable role path kind = if is_out_of_memory kind then Memory Loading else Unreadable role path (reason_of kind)

-- Why the program stops if the database text of the file of this path is refused, unless allocation fails.
abbrev pub IsBadDatabase : List ℕ → DbFault → Stop → Type 0
IsBadDatabase path fault stop = ((text : String Global) × (string_bytes text ≡ path) × (stop ≡ BadDbIn text fault)) ⊎ (stop ≡ Memory Loading)

-- The word for a file's role.
unfoldable pub role_text : FileRole → List ℕ
role_text Database = codes "database"
role_text Script = codes "script"
role_text Journal = codes "journal"
role_text Request = codes "request file"
role_text Saved = codes "saved file"

-- The words for a fault of the command line.
unfoldable pub usage_text : UsageFault → List ℕ
usage_text (NoDefinition word) = codes "'" ++ string_bytes word ++ codes "' is no NAME=VALUE"
usage_text NoArgument = codes "an argument is missing"
usage_text NotText = codes "a word is no UTF-8"

-- The exit status of the program.
unfoldable pub status_of : Stop → ℕ
status_of (Shown text) = 0
status_of (BadDb fault) = 1
status_of (BadDbIn path fault) = 1
status_of (Refused text) = 2
status_of (Usage fault) = 2
status_of (Unreadable role path reason) = 3
status_of (Unwritable role path reason) = 3
status_of (Exists path) = 3
status_of (Write reason) = 3
status_of (Memory stage) = 4

-- What is said of it.
unfoldable pub stop_text : Stop → List ℕ
stop_text (Shown text) = string_bytes text
stop_text (Refused text) = string_bytes text
stop_text (Usage fault) = usage_text fault ++ codes " (--help tells what it takes)"
stop_text (Unreadable role path reason) = codes "cannot read " ++ role_text role ++ codes " '" ++ string_bytes path ++ codes "': " ++ reason_text reason
stop_text (Unwritable role path reason) = codes "cannot write " ++ role_text role ++ codes " '" ++ string_bytes path ++ codes "': " ++ reason_text reason
stop_text (Exists path) = string_bytes path ++ codes " is there already: name another file, or --overwrite"
stop_text (BadDb fault) = db_fault_text fault
stop_text (BadDbIn path fault) = (db_fault_text fault ++ 10 ∷ []) ++ codes "ioc-check " ++ string_bytes path ++ codes " says more"
stop_text (Write reason) = codes "cannot write the replies: " ++ reason_text reason
stop_text (Memory Loading) = codes "out of memory while loading"
stop_text (Memory Line) = codes "out of memory in a line of the script"
stop_text (Memory Run) = codes "out of memory"

-- The stream of the text: what was asked for goes to standard output, faults to standard error.
unfoldable pub stream_of : Stop → Stream
stream_of (Shown text) = stream.Output
stream_of _ = stream.Error

-- What is printed: nothing if the reader of the output is gone.
unfoldable pub told_of : Stop → Option Stop
told_of (Write reason.BrokenPipe) = None
told_of other = Some other

-- How the program with this name ends: each fault has its status and its stream.
unfoldable pub ending_of : Bor (List ℕ) → Result (Unit {0}) Stop → Ending
ending_of program (Ok _) = record { program = program; status = 0; stream = stream.Error; told = None }
ending_of program (Err stop) = record { program = program; status = status_of stop; stream = stream_of stop; told = told_of stop }

-- The printed text: what the parser of words says as it is, the fault of a database text on a line
-- of its own, perhaps with a line of its file, and any other fault on a line behind the program's name.
abbrev pub told_text : List ℕ → Option Stop → List ℕ
told_text program None = []
told_text program (Some (Shown text)) = string_bytes text
told_text program (Some (Refused text)) = string_bytes text
told_text program (Some (BadDb fault)) = db_fault_text fault ++ 10 ∷ []
told_text program (Some (BadDbIn path fault)) = stop_text (BadDbIn path fault) ++ 10 ∷ []
told_text program (Some stop) = program ++ codes ": " ++ stop_text stop ++ 10 ∷ []

-- The text that is printed at the end.
unfoldable pub ending_text : Ending → List ℕ
ending_text ending = told_text ending.program.now ending.told
