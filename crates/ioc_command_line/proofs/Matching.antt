-- What a command line with two files says, by its matches.
use Rattle.std.proofs.Common.{◌≡◌, ◌∙◌, ℕ, List, [], Option, Some, refl, sym, ap, subst, inl, inr, map}
use Rattle.std.specs.Prelude.{unwrap_or, option_map}
use Rattle.std.specs.Borrow.{Bor}
use Rattle.clap.specs.Words.{App, HasMatchesOf, Rule, Text, first_of, first_value, found_of, matched_of, raw_values, rows_of, with_rule}
use Rattle.clap.specs.declared.error.kind.ErrorKind.TheVariants.{OutOfMemory}
use Rattle.clap.specs.declared.parser.matches.ArgMatches.{ArgMatches}
use Rattle.clap.proofs.WalkLemmas.{first_value-rows, raw_values-rows}
use Rattle.ioc_command_line.specs.declared.ending.Stage.TheVariants.{Loading}
use Rattle.ioc_command_line.specs.declared.ending.Stop.{Stop}
use Rattle.ioc_command_line.specs.declared.ending.Stop.TheVariants.{Memory}
use Rattle.ioc_command_line.specs.declared.two_files.TwoFiles.{TwoFiles}
use Rattle.ioc_command_line.specs.CommandLine.{RefusesWords, values_in}
use Rattle.ioc_command_line.specs.Files.{Reads, ReadsWords, RowsRefused, WordsRefused}

-- The values of an argument, as `get_strs` gives them.
pub values_are : (m : ArgMatches) (id : Text) (o : Option (Bor (List (Bor (List ℕ)))))
    → option_map (λ s. map (λ v. v.now) s.now) o ≡ option_map raw_values (matched_of (found_of m) id)
    → values_in id (rows_of (found_of m)) ≡ unwrap_or (option_map (λ s. map (λ v. v.now) s.now) o) []
values_are m id o is = ap (λ (v : Option (List Text)). unwrap_or v []) (sym (raw_values-rows (found_of m) id) ∙ sym is)

-- The first value of an argument, as `get_str` gives it.
pub first_is : (m : ArgMatches) (id : Text) (o : Option (Bor (List ℕ))) → option_map (λ s. s.now) o ≡ first_value (found_of m) id
    → first_of id (rows_of (found_of m)) ≡ option_map (λ s. s.now) o
first_is m id o is = sym (is ∙ first_value-rows (found_of m) id)

-- The same, where it has one.
pub first_some : (m : ArgMatches) (id : Text) (o : Option (Bor (List ℕ))) (s : Bor (List ℕ)) → option_map (λ s. s.now) o ≡ first_value (found_of m) id
    → o ≡ Some s → first_of id (rows_of (found_of m)) ≡ Some s.now
first_some m id o s is some = first_is m id o is ∙ ap (option_map (λ s. s.now)) some

-- An argument more.
pub more : (app : App) (old : App) (rule known : Rule) (new : App) → new ≡ with_rule app rule → app ≡ old → rule ≡ known → new ≡ with_rule old known
more app old rule known new is same_app same_rule = is ∙ ap (λ a. with_rule a rule) same_app ∙ ap (with_rule old) same_rule

pub reads_words : (app : App) (words : List Text) (other : Text) (m : ArgMatches) (files : TwoFiles) → HasMatchesOf app words m → Reads (rows_of (found_of m)) other files → ReadsWords app other words files
unfolding ReadsWords
reads_words app words other m files has reads = λ simple. subst (λ rows. Reads rows other files) (has simple).0 reads

pub refuses_rows : (app : App) (words : List Text) (other : Text) (m : ArgMatches) (stop : Stop) → HasMatchesOf app words m → RowsRefused (rows_of (found_of m)) other stop → WordsRefused app other words stop
unfolding WordsRefused
refuses_rows app words other m stop has refused = inr (λ simple. subst (λ rows. RowsRefused rows other stop) (has simple).0 refused)

pub refuses_words : (app : App) (words : List Text) (other : Text) (stop : Stop) → RefusesWords app words stop → WordsRefused app other words stop
unfolding WordsRefused
refuses_words app words other stop refused = inl refused

-- Allocation failed before the words were parsed.
pub memory_refuses : (app : App) (words : List Text) (other : Text) → WordsRefused app other words (Memory Loading)
unfolding WordsRefused
memory_refuses app words other = inl (record { kind = OutOfMemory; told = refl; taken = λ _. refl; fault = λ _. inl refl })
