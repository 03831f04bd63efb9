-- Signs among tokens.
use Rattle.std.specs.Prelude.{ℕ, Bool, true, false, List, [], ◌∷◌, ◌==◌, if◌then◌else◌}
use Rattle.ioc_dblex.specs.declared.token.TokenKind.{TokenKind}
use Rattle.ioc_dblex.specs.declared.token.TokenKind.TheVariants.{Sign}
use Rattle.ioc_dblex.specs.Lexing.{Lexeme}

-- Whether the token is this sign.
abbrev pub is_sign_of : ℕ → TokenKind → Bool
is_sign_of b (Sign c) = c == b
is_sign_of b _ = false

-- Whether this sign is the first of the tokens, and the tokens after it. If it isn't, all of them
-- stay.
abbrev pub takes_sign : ℕ → List Lexeme → Bool × List Lexeme
takes_sign b [] = (false, [])
takes_sign b (token ∷ rest) = if is_sign_of b token.kind then (true, rest) else (false, token ∷ rest)
