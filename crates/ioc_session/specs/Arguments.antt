-- What a command line asks for.
use Rattle.std.specs.Prelude.{◌≡◌, false, List, codes}
use Rattle.clap.specs.Words.{App, Row, Text, first_of, matches_of, with_rule}
use Rattle.ioc_command_line.specs.CommandLine.{two_files_app}
use Rattle.ioc_command_line.specs.Flags.{flag_rule, is_true}
use Rattle.ioc_command_line.specs.Files.{Reads}
use Rattle.ioc_session.specs.declared.arguments.Arguments.{Arguments}

-- The arguments of a program with this name: those of two files, and the flags.
unfoldable pub words_of : Text → App
words_of name =
    with_rule (with_rule (with_rule (with_rule (two_files_app name (codes "SCRIPT")) (flag_rule (codes "test"))) (flag_rule (codes "echo")))
    (flag_rule (codes "explain"))) (flag_rule (codes "trace"))

-- What the matches ask for.
pub record IsAskedBy (rows : List Row) (args : Arguments) : Type 0 where
  pub files : Reads rows (codes "SCRIPT") args.files
  pub tested : args.manner.is_tested ≡ is_true (first_of (codes "test") rows)
  pub echo : args.manner.has_echo ≡ is_true (first_of (codes "echo") rows)
  pub explained : args.manner.is_explained ≡ is_true (first_of (codes "explain") rows)
  pub traced : args.manner.is_traced ≡ is_true (first_of (codes "trace") rows)
  pub prompt : args.manner.has_prompt ≡ false

-- The same of the words, by what a program with this name makes of them.
unfoldable pub IsAskedByWords : Text → List Text → Arguments → Type 0
IsAskedByWords name words args = IsAskedBy (matches_of (words_of name) words) args
