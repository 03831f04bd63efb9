-- Flags of a command line.
use Rattle.std.specs.Prelude.{Bool, false, Option, Some, None, codes, nat_eq}
use Rattle.std.specs.Cmp.Lexicographic.{pointwise}
use Rattle.clap.specs.Words.{Rule, Text, new_rule}
use Rattle.clap.specs.declared.builder.action.ArgAction.TheVariants.{SetTrue}

-- A flag.
abbrev pub flag_rule : Text → Rule
flag_rule name = record (new_rule name) { long = Some name; action = Some SetTrue }

-- Whether the first value of a flag says that it was given.
abbrev pub is_true : Option Text → Bool
is_true None = false
is_true (Some word) = pointwise nat_eq word (codes "true")
