-- What the longest word of a table is.
use Rattle.std.specs.Prelude.{ℕ, ◌≡◌, ◌≤◌, ◌⊎◌, List, [], ◌∷◌, Some, IfSome}
use Rattle.ioc_calc.specs.declared.token.Token.{Token}
use Rattle.ioc_calc.specs.declared.words.Word.{Word}
use Rattle.ioc_calc.specs.Words.{fitting}

-- a word of the table, with which the text begins, has this token and so many bytes behind its first
abbrev pub IsOneOf : List Word → ℕ → List ℕ → Token → ℕ → Type 0
IsOneOf [] first rest token more = ⊥
IsOneOf (word ∷ words) first rest token more = (fitting word first rest ≡ Some (token, more)) ⊎ IsOneOf words first rest token more

-- no word of the table with which the text begins has more bytes behind its first
abbrev pub NoneIsLonger : List Word → ℕ → List ℕ → ℕ → Type 0
NoneIsLonger [] first rest more = Unit {0}
NoneIsLonger (word ∷ words) first rest more = IfSome (fitting word first rest)
    (λ found. found.1 ≤ more) × NoneIsLonger words first rest more
