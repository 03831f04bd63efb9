-- How many steps and numbers a phrase has.
use Rattle.std.proofs.Common.{◌≡◌, ℕ, suc, ◌+◌, ◌*◌, ◌<◌, ◌≤◌, List, [], ◌∷◌, ◌++◌, length, length-append, ap, arith}
use Rattle.std.specs.Prelude.{Bool, true, false, Option, Some, None, option_map}
use Rattle.ioc_calc.specs.declared.operators.Infix.TheVariants.{Multiply}
use Rattle.std.specs.Float.Ieee.{Float}
use Rattle.ioc_calc.specs.declared.operators.Exponent.{Exponent}
use Rattle.ioc_calc.specs.declared.operators.Prefix.TheVariants.{Minus}
use Rattle.ioc_calc.specs.declared.program.Step.{Step}
use Rattle.ioc_calc.specs.declared.program.Step.TheVariants as steps
use Rattle.ioc_calc.specs.declared.token.Token.{Token}
use Rattle.ioc_calc.specs.declared.token.Token.TheVariants as tokens
use Rattle.ioc_calc.specs.Tree.{Tree}
use Rattle.ioc_calc.specs.Machine.{steps_of, numbers_of}
use Rattle.ioc_calc.specs.Grammar.{Phrase, AValue, ALevel, AList, Reads, number, argument, before, random, brackets, prefix, of_one, of_list, tighter, two, power, other_power, whole, choice, first, next}
use Rattle.ioc_calc.specs.Exponents.{exponent_of, in_brackets, behind_minus, bracketed, closed_exponent, written, whole as whole_of}
use Rattle.ioc_calc.proofs.Sound.{some_same}

-- ---- exponents are shorter than what they stand in

map_rest : (o : Option ℕ) (f : ℕ → Exponent) (rest out : List Token) (e : Exponent)
    → option_map {U = Exponent × List Token} (λ n. (f n, rest)) o ≡ Some (e, out) → rest ≡ out
map_rest None f rest out e h = cc
map_rest (Some n) f rest out e h = ap (λ (x : Exponent × List Token). x.1) (some_same (f n, rest) (e, out) h)

written_short : (negative : Bool) (x : Float) (rest out : List Token) (e : Exponent) → written negative x rest ≡ Some (e, out)
    → rest ≡ out
unfolding written
written_short negative x rest out e h = map_rest (whole_of x) (λ n. record { size = n; negative = negative }) rest out e h

closed_short : (negative : Bool) (x : Float) (ts out : List Token) (e : Exponent) → closed_exponent negative x ts ≡ Some (e, out)
    → length out < length ts
closed_short negative x [] out e h = cc
closed_short negative x (tokens.Close ∷ rest) out e h = let same = ap (λ (xs : List Token). length xs)
    (written_short negative x rest out e h) in omega arith
closed_short negative x (_ ∷ rest) out e h = cc

bracketed_short : (negative : Bool) (ts out : List Token) (e : Exponent) → bracketed negative ts ≡ Some (e, out) → length out < length ts
bracketed_short negative [] out e h = cc
bracketed_short negative (tokens.Number x ∷ rest) out e h = let s = closed_short negative x rest out e h in omega arith
bracketed_short negative (_ ∷ rest) out e h = cc

in_brackets_short : (ts out : List Token) (e : Exponent) → in_brackets ts ≡ Some (e, out) → length out < length ts
in_brackets_short [] out e h = cc
in_brackets_short (tokens.Prefix Minus ∷ rest) out e h = let s = bracketed_short true rest out e h in omega arith
in_brackets_short (t ∷ rest) out e h = bracketed_short false (t ∷ rest) out e h

behind_minus_short : (ts out : List Token) (e : Exponent) → behind_minus ts ≡ Some (e, out) → length out < length ts
behind_minus_short [] out e h = cc
behind_minus_short (tokens.Number x ∷ rest) out e h = let same = ap (λ (xs : List Token). length xs)
    (written_short true x rest out e h) in omega arith
behind_minus_short (tokens.Open ∷ rest) out e h = let s = bracketed_short true rest out e h in omega arith
behind_minus_short (_ ∷ rest) out e h = cc

pub exponent_short : (ts out : List Token) (e : Exponent) → exponent_of ts ≡ Some (e, out) → length out < length ts
exponent_short [] out e h = cc
exponent_short (tokens.Number x ∷ rest) out e h = let same = ap (λ (xs : List Token). length xs)
    (written_short false x rest out e h) in omega arith
exponent_short (tokens.Prefix Minus ∷ rest) out e h = let s = behind_minus_short rest out e h in omega arith
exponent_short (tokens.Open ∷ rest) out e h = let s = in_brackets_short rest out e h in omega arith
exponent_short (_ ∷ rest) out e h = cc

-- ---- phrases

-- one more step where the operands of a function stand
abbrev pub slack : Phrase → ℕ
slack AValue = 0
slack (ALevel level) = 0
slack (AList function) = 1

pub record Sized (p : Phrase) (ts : List Token) (t : Tree) (rest : List Token) : Type 0 where
  pub steps : length (steps_of t) + length rest ≤ length ts + slack p
  pub numbers : 2 * length (numbers_of t) + length rest ≤ length ts + 1
  pub shorter : length rest < length ts

one_length : (a : List Step) (x : Step) → length (a ++ x ∷ []) ≡ length a + 1
one_length a x = simp length-append

two_length : (a b : List Step) (x : Step) → length (a ++ (b ++ x ∷ [])) ≡ length a + (length b + 1)
two_length a b x = simp length-append

three_length : (a b c : List Step) (x : Step) → length (a ++ (b ++ (c ++ x ∷ []))) ≡ length a + (length b + (length c + 1))
three_length a b c x = simp length-append

pub sized : (p : Phrase) (ts : List Token) (t : Tree) (rest : List Token) → Reads p ts t rest → Sized p ts t rest
sized p ts t rest (number x rest') = record { steps = omega arith; numbers = omega arith; shorter = omega arith }
sized p ts t rest (argument place rest') = record { steps = omega arith; numbers = omega arith; shorter = omega arith }
sized p ts t rest (before rest') = record { steps = omega arith; numbers = omega arith; shorter = omega arith }
sized p ts t rest (random rest') = record { steps = omega arith; numbers = omega arith; shorter = omega arith }
sized p ts t rest (brackets ts' rest' t' d) =
    let k = sized AValue ts' t' (tokens.Close ∷ rest') d in
    record { steps = omega arith; numbers = omega arith; shorter = omega arith }
sized p ts t rest (prefix op ts' rest' t' d) =
    let k = sized (ALevel 0) ts' t' rest' d in
    let e = one_length (steps_of t') (steps.Prefix op) in
    record { steps = omega arith; numbers = omega arith; shorter = omega arith }
sized p ts t rest (of_one token f ts' rest' t' is shut d) =
    let k = sized (ALevel 0) ts' t' rest' d in
    let e = one_length (steps_of t') (steps.First f) in
    record { steps = omega arith; numbers = omega arith; shorter = omega arith }
sized p ts t rest (of_list token f ts' rest' t' is d) =
    let k = sized (AList f) ts' t' (tokens.Close ∷ rest') d in
    record { steps = omega arith; numbers = omega arith; shorter = omega arith }
sized p ts t rest (tighter level ts' rest' t' d) =
    let k = sized (ALevel level) ts' t' rest' d in
    record { steps = omega arith; numbers = omega arith; shorter = omega arith }
sized p ts t rest (two level op ts' us rest' s' t' le d e) =
    let k = sized (ALevel (suc level)) ts' s' (tokens.Infix op ∷ us) d in
    let j = sized (ALevel level) us t' rest' e in
    let l = two_length (steps_of s') (steps_of t') (steps.Infix op) in
    let n = length-append (numbers_of s') (numbers_of t') in
    record { steps = omega arith; numbers = omega arith; shorter = omega arith }
sized p ts t rest (power sign e ts' us rest' t' d is) =
    let k = sized (ALevel 1) ts' t' (tokens.Power sign ∷ us) d in
    let j = exponent_short us rest' e is in
    let l = one_length (steps_of t') (steps.Power e) in
    record { steps = omega arith; numbers = omega arith; shorter = omega arith }
sized p ts t rest (other_power sign ts' us rest' s' t' d is e) =
    let k = sized (ALevel 1) ts' s' (tokens.Power sign ∷ us) d in
    let j = sized (ALevel 0) us t' rest' e in
    let l = two_length (steps_of s') (steps_of t') (steps.Infix Multiply) in
    let n = length-append (numbers_of s') (numbers_of t') in
    record { steps = omega arith; numbers = omega arith; shorter = omega arith }
sized p ts t rest (whole ts' rest' t' d) =
    let k = sized (ALevel 6) ts' t' rest' d in
    record { steps = omega arith; numbers = omega arith; shorter = omega arith }
sized p ts t rest (choice ts' us vs rest' c' s' t' d e f) =
    let k = sized (ALevel 6) ts' c' (tokens.Question ∷ us) d in
    let j = sized AValue us s' (tokens.Colon ∷ vs) e in
    let i = sized AValue vs t' rest' f in
    let l = three_length (steps_of c') (steps_of s') (steps_of t') steps.Choose in
    let n = length-append (numbers_of c') (numbers_of s' ++ numbers_of t') in
    let m = length-append (numbers_of s') (numbers_of t') in
    record { steps = omega arith; numbers = omega arith; shorter = omega arith }
sized p ts t rest (first f ts' rest' t' d) =
    let k = sized AValue ts' t' rest' d in
    let l = one_length (steps_of t') (steps.First f) in
    record { steps = omega arith; numbers = omega arith; shorter = omega arith }
sized p ts t rest (next f ts' us rest' s' t' d e) =
    let k = sized (AList f) ts' s' (tokens.Comma ∷ us) d in
    let j = sized AValue us t' rest' e in
    let l = two_length (steps_of s') (steps_of t') (steps.Next f) in
    let n = length-append (numbers_of s') (numbers_of t') in
    record { steps = omega arith; numbers = omega arith; shorter = omega arith }
