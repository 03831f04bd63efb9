-- What a lexer has read.
use Rattle.std.specs.Prelude.{ℕ, List, take, min, slice_index, nat_lt, ◌-◌, ◌==◌, ◌||◌, if◌then◌else◌}
use Rattle.ioc_calc.specs.declared.token.Token.{Token}
use Rattle.ioc_calc.specs.declared.lexer.Lexer.{Lexer}

abbrev pub read_by : Lexer → List Token
read_by l = take l.length l.tokens

-- the byte at which the token stands that has so many tokens from it on, or the end where none has
abbrev pub byte_from : Lexer → ℕ → ℕ → ℕ
byte_from l remaining end =
    if (remaining == 0) || nat_lt l.length remaining then end else min (slice_index l.bytes (l.length - remaining)) end
