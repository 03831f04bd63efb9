-- What a command line with two files says.
use Rattle.std.specs.Prelude.{◌≡◌, ◌⊎◌, true, List, [], Some, None, codes}
use Rattle.clap.specs.Words.{App, Row, Text, first_of, is_simple, matches_of}
use Rattle.ioc_command_line.specs.declared.ending.UsageFault.TheVariants.{NoArgument}
use Rattle.ioc_command_line.specs.declared.ending.Stop.{Stop}
use Rattle.ioc_command_line.specs.declared.ending.Stop.TheVariants.{Usage}
use Rattle.ioc_command_line.specs.declared.two_files.TwoFiles.{TwoFiles}
use Rattle.ioc_command_line.specs.Definitions.{all_defined, Undefined}
use Rattle.ioc_command_line.specs.CommandLine.{definitions_in, RefusesWords}

-- The files and macros are those of the matches; `other` names the argument of the second file.
pub record Reads (rows : List Row) (other : Text) (files : TwoFiles) : Type 0 where
  pub first : first_of (codes "DB") rows ≡ Some files.database.now
  pub second : first_of other rows ≡ Some files.other.now
  pub defines : all_defined [] (definitions_in rows) ≡ Some files.macros

-- The same of the words, by what the command makes of them.
unfoldable pub ReadsWords : App → Text → List Text → TwoFiles → Type 0
ReadsWords app other words files = is_simple app ≡ true → Reads (matches_of app words) other files

-- The matches are refused: some words define no macro, or an argument is missing.
abbrev pub RowsRefused : List Row → Text → Stop → Type 0
RowsRefused rows other stop = Undefined (all_defined [] (definitions_in rows)) stop
    ⊎ ((stop ≡ Usage NoArgument) × ((first_of (codes "DB") rows ≡ None) ⊎ (first_of other rows ≡ None)))

-- The words are refused, by the parser of words or afterwards.
unfoldable pub WordsRefused : App → Text → List Text → Stop → Type 0
WordsRefused app other words stop = RefusesWords app words stop ⊎ (is_simple app ≡ true → RowsRefused (matches_of app words) other stop)
