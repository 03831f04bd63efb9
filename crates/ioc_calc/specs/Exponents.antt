-- The exponents that an expression may have.
use Rattle.std.specs.Prelude.{ℕ, Bool, true, false, Option, Some, None, List, [], ◌∷◌, nat_le, ◌&&◌, if◌then◌else◌, option_map, pos}
use Rattle.std.specs.Int.{w8}
use Rattle.std.specs.Float.{float_to_unsigned}
use Rattle.std.specs.Float.Ieee.{Float, binary64, of_int, eq}
use Rattle.ioc_calc.specs.declared.operators.Prefix.TheVariants.{Minus}
use Rattle.ioc_calc.specs.declared.operators.Exponent.{Exponent}
use Rattle.ioc_calc.specs.declared.token.Token.{Token}
use Rattle.ioc_calc.specs.declared.token.Token.TheVariants as tokens

-- the whole number from 0 to 64 that a double is
unfoldable pub whole : Float → Option ℕ
whole x = let n = float_to_unsigned w8 x in if nat_le n 64 && eq (of_int binary64 (pos n)) x then Some n else None

-- an exponent of this size, and the tokens behind it
unfoldable pub written : Bool → Float → List Token → Option (Exponent × List Token)
written negative x rest = option_map (λ (n : ℕ). (record { size = n; negative = negative }, rest)) (whole x)

abbrev pub closed_exponent : Bool → Float → List Token → Option (Exponent × List Token)
closed_exponent negative x [] = None
closed_exponent negative x (tokens.Close ∷ rest) = written negative x rest
closed_exponent negative x (_ ∷ rest) = None

-- a number and a closing bracket
abbrev pub bracketed : Bool → List Token → Option (Exponent × List Token)
bracketed negative [] = None
bracketed negative (tokens.Number x ∷ rest) = closed_exponent negative x rest
bracketed negative (_ ∷ rest) = None

-- behind an opening bracket: a number, perhaps with a sign, and a closing bracket
abbrev pub in_brackets : List Token → Option (Exponent × List Token)
in_brackets [] = None
in_brackets (tokens.Prefix Minus ∷ rest) = bracketed true rest
in_brackets (token ∷ rest) = bracketed false (token ∷ rest)

-- behind a sign: a number, perhaps in brackets
abbrev pub behind_minus : List Token → Option (Exponent × List Token)
behind_minus [] = None
behind_minus (tokens.Number x ∷ rest) = written true x rest
behind_minus (tokens.Open ∷ rest) = bracketed true rest
behind_minus (_ ∷ rest) = None

-- The exponent that is written at the front, and the tokens behind it: a number that is whole and from
-- 0 to 64, with at most one sign and at most one pair of brackets.
abbrev pub exponent_of : List Token → Option (Exponent × List Token)
exponent_of [] = None
exponent_of (tokens.Number x ∷ rest) = written false x rest
exponent_of (tokens.Prefix Minus ∷ rest) = behind_minus rest
exponent_of (tokens.Open ∷ rest) = in_brackets rest
exponent_of (_ ∷ rest) = None
