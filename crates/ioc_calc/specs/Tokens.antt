-- The tokens of a text.
use Rattle.std.specs.Prelude.{ℕ, zero, suc, ◌+◌, ◌-◌, ◌*◌, Bool, true, false, List, [], ◌∷◌, ◌++◌, nat_le, ◌==◌, ◌&&◌, ◌||◌, if◌then◌else◌, Option, Some, None, option_map, take}
use Rattle.std.specs.Float.Ieee.{Float}
use Rattle.ioc_double.specs.Decimal.{decimal_length}
use Rattle.ioc_double.specs.Spelled.{double_of_text}
use Rattle.ioc_calc.specs.declared.token.Token.{Token}
use Rattle.ioc_calc.specs.declared.token.Token.TheVariants as tokens
use Rattle.ioc_calc.specs.declared.token.LeftOut.{LeftOut}
use Rattle.ioc_calc.specs.declared.token.LeftOut.TheVariants.{Rndm}
use Rattle.ioc_calc.specs.declared.tables.TheConstants.{OPERANDS, OPERATORS}
use Rattle.ioc_calc.specs.Operations.{long_of}
use Rattle.ioc_calc.specs.Words.{longest_in}
use Rattle.ioc_calc.specs.Exponents.{exponent_of}

-- ---- numbers

unfoldable pub hex_digit : ℕ → Option ℕ
hex_digit b =
    if nat_le 48 b && nat_le b 57 then Some (b - 48)
    else (if nat_le 65 b && nat_le b 70 then Some (b - 65 + 10)
    else (if nat_le 97 b && nat_le b 102 then Some (b - 97 + 10) else None))

-- the number that a number and this digit make, if it fits 32 bits
abbrev pub with_digit : ℕ → Option ℕ → Option ℕ
with_digit value None = None
with_digit value (Some d) = if nat_le (value * 16 + d) 4294967295 then Some (value * 16 + d) else None

abbrev pub continued : Option ℕ → ℕ × ℕ → (ℕ → ℕ × ℕ) → ℕ × ℕ
continued None stop go = stop
continued (Some n) stop go = go n

-- the number that a number and the hexadecimal digits behind it make, as far as it fits 32 bits, and
-- how many digits there are then
abbrev pub hexadecimal_from : ℕ → ℕ → List ℕ → ℕ × ℕ
hexadecimal_from value count [] = (value, count)
hexadecimal_from value count (b ∷ bs) = continued (with_digit value (hex_digit b)) (value, count) (λ n. hexadecimal_from n (count + 1) bs)

-- none without digits, and else one byte more, for the x
abbrev pub counted : ℕ × ℕ → Option (ℕ × ℕ)
counted found = if found.1 == 0 then None else Some (found.0, found.1 + 1)

-- behind a 0: x or X and hexadecimal digits, with the number of these bytes
abbrev pub hexadecimal_at : List ℕ → Option (ℕ × ℕ)
hexadecimal_at [] = None
hexadecimal_at (b ∷ digits) = if (b == 120) || (b == 88) then counted (hexadecimal_from 0 0 digits) else None

-- the decimal of so many bytes at the front, and how many it has behind its first: none where it is
-- infinite, or has none
unfoldable pub decimal_of : ℕ → List ℕ → Option (Float × ℕ)
decimal_of count text = if count == 0 then None else option_map (λ x. (x, count - 1)) (double_of_text (take count text))

-- the number of a hexadecimal, and else a decimal
abbrev pub or_decimal : Option (ℕ × ℕ) → ℕ → List ℕ → Option (Float × ℕ)
or_decimal (Some h) first text = Some (long_of h.0, h.1)
or_decimal None first text =
    if (nat_le 48 first && nat_le first 57) || (first == 46) then decimal_of (decimal_length text) text else None

-- the number at the front of a text
abbrev pub number_in : List ℕ → Option (Float × ℕ)
number_in [] = None
number_in (first ∷ rest) = or_decimal (if first == 48 then hexadecimal_at rest else None) first (first ∷ rest)

-- ---- tokens

-- a token, and how many bytes it has behind its first
abbrev pub Found : Type 0
Found = Option (Token × ℕ)

abbrev pub or_word : Option (Float × ℕ) → ℕ → List ℕ → Found
or_word None first rest = longest_in OPERANDS first rest
or_word (Some number) first rest = Some (tokens.Number number.0, number.1)

-- the longest token at the front, where an operator may stand, or else an operand
abbrev pub token_in : Bool → List ℕ → Found
token_in operator_is_next [] = None
token_in operator_is_next (first ∷ rest) =
    if operator_is_next then longest_in OPERATORS first rest else or_word (number_in (first ∷ rest)) first rest

unfoldable pub token_at : Bool → List ℕ → Found
token_at operator_is_next text = token_in operator_is_next text

-- whether the token ends an operand, so that an operator may follow
abbrev pub ends_operand : Token → Bool
ends_operand (tokens.Number x) = true
ends_operand (tokens.Argument place) = true
ends_operand tokens.Value = true
ends_operand tokens.Random = true
ends_operand tokens.Close = true
ends_operand (tokens.Prefix operator) = false
ends_operand (tokens.Function function) = false
ends_operand (tokens.LeftOutFunction function) = false
ends_operand (tokens.Infix operator) = false
ends_operand (tokens.Power function) = false
ends_operand tokens.Open = false
ends_operand tokens.Comma = false
ends_operand tokens.Question = false
ends_operand tokens.Colon = false
ends_operand tokens.Assign = false
ends_operand tokens.Semicolon = false

-- whether the byte may stand between tokens
unfoldable pub is_space : ℕ → Bool
is_space b = (nat_le 9 b && nat_le b 13) || (b == 32)

-- these tokens, and then the others
abbrev pub with_front : List Token → Option (List Token) → Option (List Token)
with_front front None = None
with_front front (Some ts) = Some (front ++ ts)

abbrev pub next_from : Found → (Token → ℕ → Option (List Token)) → Option (List Token)
next_from None go = None
next_from (Some found) go = go found.0 found.1

-- The tokens of a text, behind some bytes that belong to a token before it. There are none where no
-- token begins at a byte.
abbrev pub tokens_from : ℕ → Bool → List ℕ → Option (List Token)
tokens_from skip operator_is_next [] = Some []
tokens_from (suc skip) operator_is_next (b ∷ bs) = tokens_from skip operator_is_next bs
tokens_from zero operator_is_next (b ∷ bs) =
    if is_space b then tokens_from zero operator_is_next bs
    else next_from (token_at operator_is_next (b ∷ bs)) (λ t more. with_front (t ∷ []) (tokens_from more (ends_operand t) bs))

-- the tokens of a text
abbrev pub tokens_of : List ℕ → Option (List Token)
tokens_of text = tokens_from 0 false text

-- ---- what is left out

abbrev pub is_some : {A : Type 0} → Option A → Bool
is_some None = false
is_some (Some x) = true

-- the first of the tokens that is left out: a function by its name, or a power whose exponent isn't
-- written
abbrev pub left_out_in : List Token → Option LeftOut
left_out_in [] = None
left_out_in (tokens.LeftOutFunction function ∷ rest) = Some function
left_out_in (tokens.Random ∷ rest) = Some Rndm
left_out_in (tokens.Power function ∷ rest) = if is_some (exponent_of rest) then left_out_in rest else Some function
left_out_in (_ ∷ rest) = left_out_in rest
