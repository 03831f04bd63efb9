-- What a command line asks for, by its matches.
use Rattle.std.proofs.Common.{◌≡◌, true, List, refl, subst}
use Rattle.clap.specs.Words.{App, HasMatchesOf, Text, found_of, is_simple, rows_of}
use Rattle.clap.specs.declared.parser.matches.ArgMatches.{ArgMatches}
use Rattle.ioc_command_line.specs.CommandLine.{two_files_app}
use Rattle.ioc_session.specs.declared.arguments.Arguments.{Arguments}
use Rattle.ioc_session.specs.Arguments.{IsAskedBy, IsAskedByWords, words_of}

-- The command is one whose matches are a function of the words.
is_simple_command : (name : Text) → is_simple (words_of name) ≡ true
unfolding words_of two_files_app
is_simple_command name = refl

pub asked_by_words : (app : App) (name : Text) (words : List Text) (m : ArgMatches) (args : Arguments) → app ≡ words_of name → HasMatchesOf app words m
    → IsAskedBy (rows_of (found_of m)) args → IsAskedByWords name words args
unfolding IsAskedByWords
asked_by_words app name words m args same has asked =
    let known = subst (λ a. HasMatchesOf a words m) same has in
    subst (λ rows. IsAskedBy rows args) (known (is_simple_command name)).0 asked
