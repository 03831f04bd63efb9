-- What the parser of words makes of a command line.
use Rattle.std.specs.Prelude.{◌≡◌, ◌≢◌, ◌⊎◌, ◌++◌, true, List, [], Some, Result, Ok, Err, String, codes, unwrap_or, if◌then◌else◌}
use Rattle.std.specs.Global.{Global}
use Rattle.std.specs.IoError.{error_kind}
use Rattle.std.specs.declared.vec.IntoIter.{IntoIter}
use Rattle.std.specs.declared.io.Error.{Error}
use Rattle.clap.specs.Words.{App, IsAmong, Rule, Row, Text, all_of, fault_of, is_simple_and_free, new_app, new_rule, takes, with_rule}
use Rattle.clap.specs.Lexer.{usize_max}
use Rattle.clap.specs.Simple.{on_top}
use Rattle.clap.specs.declared.builder.action.ArgAction.TheVariants.{Append}
use Rattle.clap.specs.declared.error.kind.ErrorKind.{ErrorKind}
use Rattle.clap.specs.declared.error.kind.ErrorKind.TheVariants.{DisplayHelp, DisplayVersion, OutOfMemory}
use Rattle.ioc_command_line.specs.declared.ending.Stage.TheVariants.{Loading}
use Rattle.ioc_command_line.specs.declared.ending.Stop.{Stop}
use Rattle.ioc_command_line.specs.declared.ending.UsageFault.TheVariants.{NotText}
use Rattle.ioc_command_line.specs.declared.ending.Stop.TheVariants.{Shown, Refused, Usage, Memory}
use Rattle.ioc_command_line.specs.Endings.{is_out_of_memory}

-- Why the program stops, by the kind of the parser's error.
abbrev pub Tells : ErrorKind → Stop → Type 0
Tells kind (Shown text) = (kind ≡ DisplayHelp) ⊎ (kind ≡ DisplayVersion)
Tells kind (Refused text) = (kind ≢ DisplayHelp) × ((kind ≢ DisplayVersion) × (kind ≢ OutOfMemory))
Tells kind (Memory stage) = stage ≡ Loading
Tells kind _ = ⊥

-- The parser refuses the words of a command line, or allocation failed. Of words that the command
-- takes only the second is true. The first step that fails gives the kind.
pub record RefusesWords (app : App) (words : List Text) (stop : Stop) : Type 0 where
  pub kind : ErrorKind
  pub told : Tells kind stop
  pub taken : takes app words ≡ true → kind ≡ OutOfMemory
  pub fault : is_simple_and_free app ≡ true → (kind ≡ OutOfMemory) ⊎ IsAmong kind (fault_of app words)

-- The words of the command line can't be had. Only a failed allocation is reported as such.
abbrev pub WasNotGiven : Result (IntoIter (String Global) Global) Error → Stop → Type 0
WasNotGiven (Ok words) stop = stop ≡ Memory Loading
WasNotGiven (Err e) stop = stop ≡ (if is_out_of_memory (error_kind e) then Memory Loading else Usage NotText)

-- The command of a program with this name, without arguments.
abbrev pub program_app : Text → App
program_app name = on_top (λ shape. record shape { has_version = true }) (new_app name)

-- The argument that names a file.
abbrev pub file_rule : Text → Rule
file_rule name = record (new_rule name) { required = true }

-- The argument of definitions: any number of words.
abbrev pub definitions_rule : Rule
definitions_rule = record (new_rule (codes "NAME=VALUE")) { action = Some Append; range = Some (record { start_inclusive = 0; end_inclusive = usize_max }) }

-- The option -m.
abbrev pub macros_rule : Rule
macros_rule = record (new_rule (codes "macros")) { short = Some 109; action = Some Append; value_names = 1 }

-- The command of a program that takes a database text, another file and macros.
unfoldable pub two_files_app : Text → Text → App
two_files_app name other =
    with_rule (with_rule (with_rule (with_rule (program_app name) (file_rule (codes "DB"))) (file_rule other)) definitions_rule) macros_rule

-- The values of an argument.
abbrev pub values_in : Text → List Row → List Text
values_in id rows = unwrap_or (all_of id rows) []

-- The words that define macros, those of -m first.
abbrev pub definitions_in : List Row → List Text
definitions_in rows = values_in (codes "macros") rows ++ values_in (codes "NAME=VALUE") rows
