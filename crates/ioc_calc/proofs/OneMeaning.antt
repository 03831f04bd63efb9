-- An expression has one meaning.
use Rattle.std.proofs.Common.{◌≡◌, ℕ, zero, suc, ◌+◌, ◌≤◌, List, [], ◌∷◌, ◌++◌, length, refl, ap, arith, ◌∙◌, sym, subst, true, false, Bool}
use Rattle.std.specs.Prelude.{Option, Some, None, if◌then◌else◌}
use Rattle.std.specs.Float.Ieee.{Float}
use Rattle.ioc_calc.specs.declared.token.Token.{Token}
use Rattle.ioc_calc.specs.State.{State}
use Rattle.ioc_calc.specs.Tokens.{tokens_from, token_at, next_from, with_front, is_space, ends_operand}
use Rattle.ioc_calc.specs.Tree.{Statement, value_of, arguments_after, values_in}
use Rattle.ioc_calc.specs.Machine.{Machine, ran, all_steps, all_numbers}
use Rattle.ioc_calc.specs.Stack.{top}
use Rattle.ioc_calc.specs.Grammar.{IsExpression, AreStatements}
use Rattle.ioc_calc.proofs.Runs.{machine, runs_one}
use Rattle.ioc_calc.proofs.Sound.{some_same}
use Rattle.ioc_calc.proofs.Complete.{state}
use Rattle.ioc_calc.proofs.CompleteStatements.{statements_complete}

-- ---- a token has a byte at least

-- each list that is found is at most so long
abbrev pub Few : Option (List Token) → ℕ → Type 0
Few found n = (ts : List Token) → found ≡ Some ts → length ts ≤ n

one_more : (t : Token) (o : Option (List Token)) (n : ℕ) → Few o n → Few (with_front (t ∷ []) o) (n + 1)
one_more t None n few = λ ts e. cc
one_more t (Some us) n few = λ ts e. let k = few us refl in let same : length (t ∷ us) ≡ length ts = ap (λ (x : List Token). length x)
    (some_same (t ∷ us) ts e) in omega arith

next_few : (found : Option (Token × ℕ)) (go : Token → ℕ → Option (List Token)) (n : ℕ) → ((t : Token) (more : ℕ) → Few (go t more) n)
    → Few (next_from found go) n
next_few None go n few = λ ts e. cc
next_few (Some found) go n few = few found.0 found.1

chosen_few : (b : Bool) (x y : Option (List Token)) (n : ℕ) → Few x n → Few y n → Few (if b then x else y) n
chosen_few true x y n h k = h
chosen_few false x y n h k = k

few_more : (o : Option (List Token)) (m n : ℕ) → m ≤ n → Few o m → Few o n
few_more o m n le h = λ ts e. let k = h ts e in omega arith

pub tokens_are_few : (bs : List ℕ) (skip : ℕ) (place : Bool) → Few (tokens_from skip place bs) (length bs)
tokens_are_few [] skip place = λ ts e. let same : 0 ≡ length ts = ap (λ (x : List Token). length x) (some_same [] ts e) in omega arith
tokens_are_few (b ∷ bs) (suc skip) place = few_more (tokens_from skip place bs) (length bs) (length (b ∷ bs)) (omega arith)
    (tokens_are_few bs skip place)
tokens_are_few (b ∷ bs) zero place =
    chosen_few (is_space b) (tokens_from zero place bs) (next_from (token_at place (b ∷ bs)) (λ t more. with_front (t ∷ [])
    (tokens_from more (ends_operand t) bs))) (length (b ∷ bs))
    (few_more (tokens_from zero place bs) (length bs) (length (b ∷ bs)) (omega arith) (tokens_are_few bs zero place))
    (next_few (token_at place (b ∷ bs)) (λ t more. with_front (t ∷ []) (tokens_from more (ends_operand t) bs)) (length (b ∷ bs))
    (λ t more. few_more (with_front (t ∷ []) (tokens_from more (ends_operand t) bs)) (length bs + 1) (length (b ∷ bs)) (omega arith)
    (one_more t (tokens_from more (ends_operand t) bs) (length bs) (tokens_are_few bs more (ends_operand t)))))

-- ---- one meaning

same_program : (ts : List Token) (s t : List Statement) → length ts ≤ 79 → AreStatements ts s → AreStatements ts t → values_in s ≡ 1
    → values_in t ≡ 1 → (all_steps s ≡ all_steps t) × (all_numbers s ≡ all_numbers t)
same_program ts s t h a b v w =
    let one = statements_complete ts s a 80 false [] [] (omega arith) v (omega arith) (omega arith) in
    let two = statements_complete ts t b 80 false [] [] (omega arith) w (omega arith) (omega arith) in
    let same : state [] ([] ++ all_steps s) ([] ++ all_numbers s) ≡ state [] ([] ++ all_steps t) ([] ++ all_numbers t) = some_same _ _
    (sym one ∙ two) in
    (ap (λ (x : State). x.steps) same, ap (λ (x : State). x.numbers) same)

pub meanings_agree : (text : List ℕ) (s t : List Statement) → IsExpression text s → IsExpression text t
    → (before : Float) (arguments : List Float)
    → (value_of s before arguments ≡ value_of t before arguments) ×
    (arguments_after s before arguments ≡ arguments_after t before arguments)
meanings_agree text s t d e before arguments =
    let ts = some_same d.tokens e.tokens (sym d.follows.spelled ∙ e.follows.spelled) in
    let few : length e.tokens ≤ 79 = let k = tokens_are_few text 0 false e.tokens e.follows.spelled in let short = e.follows.short in
    omega arith in
    let moved : AreStatements e.tokens s = subst (λ x. AreStatements x s) ts d.follows.grammar in
    let same = same_program e.tokens s t few moved e.follows.grammar d.follows.one_value e.follows.one_value in
    let ends : machine (arguments_after s before arguments) [] (value_of s before arguments ∷ []) ≡ machine
    (arguments_after t before arguments) [] (value_of t before arguments ∷ []) =
    sym (runs_one before s arguments [] [] d.follows.one_value)
    ∙ ap (λ x. ran before x (machine arguments (all_numbers s ++ []) [])) same.0
    ∙ ap (λ x. ran before (all_steps t) (machine arguments (x ++ []) [])) same.1
    ∙ runs_one before t arguments [] [] e.follows.one_value in
    (ap (λ (m : Machine). top m.stack) ends, ap (λ (m : Machine). m.arguments) ends)
