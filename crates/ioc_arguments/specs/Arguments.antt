-- What a command line asks for.
use Rattle.std.specs.Prelude.{◌≡◌, ◌≤◌, ◌⊎◌, ℕ, Bool, true, false, List, [], Option, Some, None, codes, nat_eq, if◌then◌else◌, option_map}
use Rattle.std.specs.Cmp.Lexicographic.{pointwise}
use Rattle.std.specs.Str.Parse.{digits_value, without_leading_plus}
use Rattle.clap.specs.Words.{App, Row, Rule, Text, first_of, matches_of, new_rule, with_rule}
use Rattle.clap.specs.declared.builder.value_parser.ValueParser.TheVariants.{Unsigned}
use Rattle.ioc_command_line.specs.CommandLine.{definitions_in, definitions_rule, file_rule, macros_rule, program_app}
use Rattle.ioc_command_line.specs.Definitions.{all_defined}
use Rattle.ioc_command_line.specs.Flags.{flag_rule, is_true}
use Rattle.ioc_arguments.specs.declared.arguments.Args.{Args}
use Rattle.ioc_arguments.specs.declared.arguments.Mode.{Mode}
use Rattle.ioc_arguments.specs.declared.arguments.Mode.TheVariants.{Console, Live, Ticks}
use Rattle.ioc_arguments.specs.declared.arguments.Devices.{Devices}
use Rattle.ioc_arguments.specs.declared.arguments.SaveArgs.{SaveArgs}
use Rattle.ioc_arguments.specs.declared.arguments.Devices.TheVariants.{Counting, Outside}

-- The option of a number from 1 on.
abbrev pub number_rule : Text → ℕ → Rule
number_rule name most = record (new_rule name) { long = Some name; value_names = 1; parser = Some (Unsigned 1 most) }

-- An option with a word.
abbrev pub word_rule : Text → Rule
word_rule name = record (new_rule name) { long = Some name; value_names = 1 }

-- The arguments of the program.
unfoldable pub ioc_words : App
ioc_words =
    with_rule (with_rule (with_rule (with_rule (with_rule (with_rule (with_rule (with_rule (with_rule (with_rule (with_rule (with_rule
    (with_rule (with_rule (with_rule (with_rule (with_rule (program_app (codes "ioc"))
    (file_rule (codes "DB"))) (number_rule (codes "ticks") 1000000)) (flag_rule (codes "console"))) (flag_rule (codes "live")))
    (word_rule (codes "devices"))) (number_rule (codes "workers") 64))
    (word_rule (codes "journal"))) (number_rule (codes "journal-size") 1000000000000)) (flag_rule (codes "overwrite")))
    (flag_rule (codes "seal"))) (flag_rule (codes "sync")))
    (word_rule (codes "save"))) (word_rule (codes "save-to"))) (number_rule (codes "save-every") 86400)) (word_rule (codes "restore")))
    definitions_rule) macros_rule

-- The number that the first value of an option has, which lies between 1 and `most`.
pub record IsNumber (rows : List Row) (id : Text) (most : ℕ) (number : ℕ) : Type 0 where
  pub word : Text
  pub given : first_of id rows ≡ Some word
  pub value : digits_value 10 (without_leading_plus word) ≡ number
  pub least : 1 ≤ number
  pub largest : number ≤ most

-- The same of an option that may be missing.
abbrev pub IsOptionalNumber : List Row → Text → ℕ → Option ℕ → Type 0
IsOptionalNumber rows id most None = first_of id rows ≡ None
IsOptionalNumber rows id most (Some number) = IsNumber rows id most number

-- Whether a flag is given.
abbrev pub has : List Row → Text → Bool
has rows name = is_true (first_of name rows)

-- What the program does with the records, by the one of three options that is given.
abbrev pub IsMode : List Row → Mode → Type 0
IsMode rows Console = (first_of (codes "ticks") rows ≡ None) × (has rows (codes "console") ≡ true) × (has rows (codes "live") ≡ false)
IsMode rows Live = (first_of (codes "ticks") rows ≡ None) × (has rows (codes "console") ≡ false) × (has rows (codes "live") ≡ true)
IsMode rows (Ticks number) =
    IsNumber rows (codes "ticks") 1000000 number × (has rows (codes "console") ≡ false) × (has rows (codes "live") ≡ false)

-- Which devices records have if the command line doesn't say it.
abbrev pub usual_devices : Mode → Devices
usual_devices Live = Outside
usual_devices mode = Counting

-- Lines answer for devices outside, and there are none while ticks are walked.
abbrev pub with_lines : Mode → Option Devices
with_lines (Ticks number) = None
with_lines mode = Some Outside

abbrev pub devices_named : Mode → Option Text → Option Devices
devices_named mode None = Some (usual_devices mode)
devices_named mode (Some word) =
    if pointwise nat_eq word (codes "counting") then Some Counting
    else (if pointwise nat_eq word (codes "outside") then with_lines mode else None)

-- The seconds between two saves: those that are given, or 30.
abbrev pub IsSeconds : List Row → ℕ → Type 0
IsSeconds rows seconds = IsNumber rows (codes "save-every") 86400 seconds ⊎ ((first_of (codes "save-every") rows ≡ None) × (seconds ≡ 30))

-- What is saved: nothing if no option of saves is given. Only a live run saves, and then both files are given.
abbrev pub IsSave : List Row → Mode → Option SaveArgs → Type 0
IsSave rows mode None =
    (first_of (codes "save") rows ≡ None) × ((first_of (codes "save-to") rows ≡ None) × (first_of (codes "save-every") rows ≡ None))
IsSave rows mode (Some save) =
    (mode ≡ Live) × ((first_of (codes "save") rows ≡ Some save.request.now)
    × ((first_of (codes "save-to") rows ≡ Some save.file.now) × IsSeconds rows save.seconds))

-- What the matches ask for.
pub record IsAskedBy (rows : List Row) (args : Args) : Type 0 where
  pub database : first_of (codes "DB") rows ≡ Some args.database.now
  pub mode : IsMode rows args.mode
  pub devices : devices_named args.mode (first_of (codes "devices") rows) ≡ Some args.devices
  pub workers : IsNumber rows (codes "workers") 64 args.workers
  pub journal : first_of (codes "journal") rows ≡ option_map (λ s. s.now) args.journal
  pub journal_size : IsOptionalNumber rows (codes "journal-size") 1000000000000 args.journal_size
  pub overwrites : args.overwrites ≡ is_true (first_of (codes "overwrite") rows)
  pub seals : args.seals ≡ is_true (first_of (codes "seal") rows)
  pub syncs : args.syncs ≡ is_true (first_of (codes "sync") rows)
  pub save : IsSave rows args.mode args.save
  pub restore : first_of (codes "restore") rows ≡ option_map (λ s. s.now) args.restore
  pub macros : all_defined [] (definitions_in rows) ≡ Some args.macros

-- The same of the words, by what the program makes of them.
unfoldable pub IsAskedByWords : List Text → Args → Type 0
IsAskedByWords words args = IsAskedBy (matches_of ioc_words words) args
