-- The number of tokens in some lines. Each has at least one byte, and there may be one at the end.
use Rattle.std.proofs.Common.{◌≡◌, ℕ, zero, suc, ◌+◌, ◌≤◌, ◌<◌, Bool, true, false, cond, List, [], ◌∷◌, length, sum, take, drop, Option, Some, None, refl, arith}
use Rattle.ioc_dblex.specs.declared.texts.End.{End}
use Rattle.ioc_dblex.specs.declared.texts.End.TheVariants.{Whole, BadMacro, TooLong}
use Rattle.ioc_dblex.specs.Bytes.{behind_gap}
use Rattle.ioc_dblex.specs.Lexing.{Lexeme, Cut, is_fault, token_at}
use Rattle.ioc_dblex.specs.Texts.{parts_of}
use Rattle.ioc_dblex.specs.Tokens.{chain, tokens_in, tokens_before, end_of, tokens_of}
use Rattle.ioc_dblex.proofs.Parts.{sum_first}
use Rattle.ioc_dblex.proofs.Turns.{first_shorter}

one_count : (limit : ℕ) (fault : Bool) (token : Lexeme) (others : List Lexeme) → length others < limit → length (token ∷ cond fault [] others) ≤ limit
one_count limit true token others lt = omega arith
one_count limit false token others lt = omega arith

chain_count : (limit : ℕ) (o : Option Cut) (inner : List ℕ → List Lexeme) (more : List Lexeme) → length more ≤ limit → ((cut : Cut) → o ≡ Some cut → length (inner cut.rest) < limit) → length (chain o inner more) ≤ limit
chain_count limit None inner more le h = le
chain_count limit (Some cut) inner more le h = one_count limit (is_fault cut.token.kind) cut.token (inner cut.rest) (h cut refl)

line_count : (turns line : ℕ) (bs : List ℕ) (more : List Lexeme) → length (tokens_in turns line bs more) ≤ length bs + length more
line_count zero line bs more = omega arith
line_count (suc turns) line bs more =
    chain_count (length bs + length more) (token_at line (behind_gap bs)) (λ rest. tokens_in turns line rest more) more (omega arith) (λ cut e.
    omega (arith, first_shorter line bs cut e, line_count turns line cut.rest more))

before_count : (line : ℕ) (bs : List ℕ) (more : List Lexeme) → length (tokens_before line bs more) ≤ length bs + length more
unfolding tokens_before
before_count line bs more = line_count (length bs) line bs more

end_count : (end : End) (line : ℕ) → length (end_of end line) ≤ 1
end_count Whole line = omega arith
end_count BadMacro line = omega arith
end_count TooLong line = omega arith

take_count : (n : ℕ) (bs : List ℕ) → length (take n bs) ≤ n
take_count zero bs = omega arith
take_count (suc n) [] = omega arith
take_count (suc n) (b ∷ bs) = omega (arith, take_count n bs)

-- There are at most as many tokens as bytes, and one at the end.
pub tokens_count : (end : End) (line : ℕ) (lengths bytes : List ℕ) → length (tokens_of end line (parts_of lengths bytes)) ≤ sum lengths + 1
tokens_count end line [] bytes = end_count end line
tokens_count end line (n ∷ ns) bytes =
    let all = sum_first n ns in
    omega (arith, all, before_count line (take n bytes) (tokens_of end (line + 1) (parts_of ns (drop n bytes))), take_count n bytes, tokens_count end (line + 1) ns (drop n bytes))
