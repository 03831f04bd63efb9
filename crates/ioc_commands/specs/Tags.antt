-- Tags of lines: `@N LINE`, where N is a number below 2^32 in decimal digits. This project's own, so that a program finds the reply to
-- a line, as the identifiers of requests do: Channel Access Protocol Specification, "Basic Concepts".
use Rattle.std.specs.Prelude.{ℕ, ◌^◌, List, [], ◌∷◌, nat_lt, ◌==◌, if◌then◌else◌, Option, Some, None}
use Rattle.ioc_values.specs.Number.{numeral, below}
use Rattle.ioc_commands.specs.Commands.{before, behind}
use Rattle.ioc_commands.specs.declared.tag.Tagged.{Tagged as Code}
use Rattle.ioc_commands.specs.declared.tag.Tagged.TheVariants as code

-- A line with its tag.
pub data Tagged : Type 0 where
  Plain : (line : List ℕ) → Tagged
  -- The digits of the tag, and the line behind it.
  Tag : (digits : List ℕ) → (line : List ℕ) → Tagged
  Malformed : Tagged

abbrev pub tag_at : List ℕ → Option ℕ → Option (List ℕ) → Tagged
tag_at digits None rest = Malformed
tag_at digits (Some number) None = Malformed
tag_at digits (Some number) (Some line) = if nat_lt number 4294967296 then Tag digits line else Malformed

-- A line that begins with `@` (64) has a tag, up to the first space.
abbrev pub tagged_of : List ℕ → Tagged
tagged_of [] = Plain []
tagged_of (b ∷ bs) =
    if b == 64 then tag_at (before 32 bs) (below (2 ^ 64) (numeral 10 (before 32 bs))) (behind 32 bs) else Plain (b ∷ bs)

-- The tagged line of the code, as one of the specifications.
abbrev pub seen : Code → Tagged
seen (code.Plain line) = Plain line.now
seen (code.Tag digits line) = Tag digits.now line.now
seen code.Malformed = Malformed
