-- What a command line asks for, by its matches.
use Rattle.std.proofs.Common.{◌≡◌, ◌∙◌, ℕ, true, List, Option, Some, refl, sym, ap, subst}
use Rattle.std.specs.Prelude.{option_map}
use Rattle.std.specs.Borrow.{Bor}
use Rattle.clap.specs.Words.{App, HasMatchesOf, Text, first_of, first_value, found_of, is_simple, rows_of}
use Rattle.clap.specs.declared.parser.matches.ArgMatches.{ArgMatches}
use Rattle.clap.proofs.WalkLemmas.{first_value-rows}
use Rattle.ioc_arguments.specs.declared.arguments.Args.{Args}
use Rattle.ioc_arguments.specs.Arguments.{IsAskedBy, IsAskedByWords, ioc_words}

abbrev pub text_of : Option (Bor (List ℕ)) → Option Text
text_of = option_map (λ s. s.now)

-- The first value of an argument, as `get_str` gives it.
pub first_is : (m : ArgMatches) (id : Text) (o : Option (Bor (List ℕ))) → text_of o ≡ first_value (found_of m) id
    → first_of id (rows_of (found_of m)) ≡ text_of o
first_is m id o is = sym (is ∙ first_value-rows (found_of m) id)

-- The same, where it has one.
pub first_some : (m : ArgMatches) (id : Text) (o : Option (Bor (List ℕ))) (s : Bor (List ℕ)) → text_of o ≡ first_value (found_of m) id
    → o ≡ Some s → first_of id (rows_of (found_of m)) ≡ Some s.now
first_some m id o s is some = first_is m id o is ∙ ap text_of some

-- The command is one whose matches are a function of the words.
is_simple_command : is_simple ioc_words ≡ true
unfolding ioc_words
is_simple_command = refl

pub asked_by_words : (app : App) (words : List Text) (m : ArgMatches) (args : Args) → app ≡ ioc_words → HasMatchesOf app words m
    → IsAskedBy (rows_of (found_of m)) args → IsAskedByWords words args
unfolding IsAskedByWords
asked_by_words app words m args same has asked =
    let known = subst (λ a. HasMatchesOf a words m) same has in
    subst (λ rows. IsAskedBy rows args) (known is_simple_command).0 asked
