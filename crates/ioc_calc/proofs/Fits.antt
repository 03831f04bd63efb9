-- The program of an expression can run.
use Rattle.std.proofs.Common.{◌≡◌, ℕ, suc, ◌+◌, ◌-◌, ◌*◌, ◌≤◌, List, [], ◌∷◌, ◌++◌, length, length-append, refl, ap, arith, ◌∙◌, append_assoc, true, false, Bool}
use Rattle.std.proofs.lemmas.Bool.{lt-ltb, and_from}
use Rattle.std.specs.Prelude.{◌&&◌, nat_lt}
use Rattle.ioc_calc.specs.declared.program.Step.{Step}
use Rattle.ioc_calc.specs.declared.program.Step.TheVariants as steps
use Rattle.ioc_calc.specs.declared.token.Token.{Token}
use Rattle.ioc_calc.specs.declared.token.Token.TheVariants as tokens
use Rattle.ioc_calc.specs.Tree.{Tree, Constant, Argument, Before, One, First, More, Two, Power, Choice}
use Rattle.ioc_calc.specs.Machine.{steps_of, numbers_of, can_run, can_step, depth_after, unused_after}
use Rattle.ioc_calc.specs.Grammar.{Phrase, AValue, ALevel, AList, Reads, number, argument, before, random, brackets, prefix, of_one, of_list, tighter, two, power, other_power, whole, choice, first, next}
use Rattle.ioc_calc.proofs.Sizes.{exponent_short}

-- how many operands a tree has, each of which may be on the stack at once
abbrev pub leaves : Tree → ℕ
leaves (Constant x) = 1
leaves (Argument place) = 1
leaves Before = 1
leaves (One operator t) = leaves t
leaves (First function t) = leaves t
leaves (More function s t) = leaves s + leaves t
leaves (Two operator s t) = leaves s + leaves t
leaves (Power t exponent) = leaves t
leaves (Choice condition s t) = leaves condition + (leaves s + leaves t)

pub some_leaves : (t : Tree) → 1 ≤ leaves t
some_leaves (Constant x) = omega arith
some_leaves (Argument place) = omega arith
some_leaves Before = omega arith
some_leaves (One operator t) = some_leaves t
some_leaves (First function t) = some_leaves t
some_leaves (More function s t) = let h = some_leaves s in omega arith
some_leaves (Two operator s t) = let h = some_leaves s in omega arith
some_leaves (Power t exponent) = some_leaves t
some_leaves (Choice c s t) = let h = some_leaves c in omega arith

-- operands have a token each, and between two of them there is one
pub leaves_fit : (p : Phrase) (ts : List Token) (t : Tree) (rest : List Token) → Reads p ts t rest
    → 2 * leaves t + length rest ≤ length ts + 1
leaves_fit p ts t rest (number x rest') = omega arith
leaves_fit p ts t rest (argument place rest') = omega arith
leaves_fit p ts t rest (before rest') = omega arith
leaves_fit p ts t rest (random rest') = omega arith
leaves_fit p ts t rest (brackets ts' rest' t' d) = let k = leaves_fit AValue ts' t' (tokens.Close ∷ rest') d in omega arith
leaves_fit p ts t rest (prefix op ts' rest' t' d) = let k = leaves_fit (ALevel 0) ts' t' rest' d in omega arith
leaves_fit p ts t rest (of_one token f ts' rest' t' is shut d) = let k = leaves_fit (ALevel 0) ts' t' rest' d in omega arith
leaves_fit p ts t rest (of_list token f ts' rest' t' is d) = let k = leaves_fit (AList f) ts' t' (tokens.Close ∷ rest') d in omega arith
leaves_fit p ts t rest (tighter level ts' rest' t' d) = leaves_fit (ALevel level) ts' t' rest' d
leaves_fit p ts t rest (two level op ts' us rest' s' t' le d e) =
    let k = leaves_fit (ALevel (suc level)) ts' s' (tokens.Infix op ∷ us) d in
    let j = leaves_fit (ALevel level) us t' rest' e in omega arith
leaves_fit p ts t rest (power raise e ts' us rest' t' d is) =
    let k = leaves_fit (ALevel 1) ts' t' (tokens.Power raise ∷ us) d in
    let j = exponent_short us rest' e is in omega arith
leaves_fit p ts t rest (other_power raise ts' us rest' s' t' d is e) =
    let k = leaves_fit (ALevel 1) ts' s' (tokens.Power raise ∷ us) d in
    let j = leaves_fit (ALevel 0) us t' rest' e in omega arith
leaves_fit p ts t rest (whole ts' rest' t' d) = leaves_fit (ALevel 6) ts' t' rest' d
leaves_fit p ts t rest (choice ts' us vs rest' c' s' t' d e f) =
    let k = leaves_fit (ALevel 6) ts' c' (tokens.Question ∷ us) d in
    let j = leaves_fit AValue us s' (tokens.Colon ∷ vs) e in
    let i = leaves_fit AValue vs t' rest' f in omega arith
leaves_fit p ts t rest (first f ts' rest' t' d) = leaves_fit AValue ts' t' rest' d
leaves_fit p ts t rest (next f ts' us rest' s' t' d e) =
    let k = leaves_fit (AList f) ts' s' (tokens.Comma ∷ us) d in
    let j = leaves_fit AValue us t' rest' e in omega arith

-- ---- runs

true_and : (a b c : Bool) → a ≡ true → b ≡ c → (a && b) ≡ c
true_and true b c h e = e
true_and false b c h e = cc

-- one step
pub step_runs : (s : Step) (more' : List Step) (d n e m : ℕ) → can_step s d n ≡ true → depth_after s d ≡ e → unused_after s n ≡ m
    → can_run (s ∷ more') d n ≡ can_run more' e m
step_runs s more' d n e m h de ue = true_and (can_step s d n) _ (can_run more' e m) h (ap (λ x. can_run more' x (unused_after s n)) de
    ∙ ap (λ x. can_run more' e x) ue)

-- a tree puts one value on the stack
pub tree_runs : (t : Tree) (more' : List Step) (d n : ℕ) → d + leaves t ≤ 40 → length (numbers_of t) ≤ n
    → can_run (steps_of t ++ more') d n ≡ can_run more' (d + 1) (n - length (numbers_of t))
tree_runs (Constant x) more' d n h k = step_runs steps.Number more' d n (d + 1) (n - 1) (and_from (nat_lt d 40) (nat_lt 0 n)
    (lt-ltb d 40 (omega arith)) (lt-ltb 0 n (omega arith))) refl refl
tree_runs (Argument place) more' d n h k = step_runs (steps.Argument place) more' d n (d + 1) (n - 0) (lt-ltb d 40 (omega arith)) refl
    (omega arith)
tree_runs Before more' d n h k = step_runs steps.Value more' d n (d + 1) (n - 0) (lt-ltb d 40 (omega arith)) refl (omega arith)
tree_runs (One op t) more' d n h k =
    ap (λ s. can_run s d n) (append_assoc (steps_of t) (steps.Prefix op ∷ []) more')
    ∙ tree_runs t (steps.Prefix op ∷ more') d n h k
    ∙ step_runs (steps.Prefix op) more' (d + 1) (n - length (numbers_of t)) (d + 1) (n - length (numbers_of t)) (lt-ltb 0 (d + 1)
    (omega arith)) refl refl
tree_runs (First f t) more' d n h k =
    ap (λ s. can_run s d n) (append_assoc (steps_of t) (steps.First f ∷ []) more')
    ∙ tree_runs t (steps.First f ∷ more') d n h k
    ∙ step_runs (steps.First f) more' (d + 1) (n - length (numbers_of t)) (d + 1) (n - length (numbers_of t)) (lt-ltb 0 (d + 1)
    (omega arith)) refl refl
tree_runs (Power t e) more' d n h k =
    ap (λ s. can_run s d n) (append_assoc (steps_of t) (steps.Power e ∷ []) more')
    ∙ tree_runs t (steps.Power e ∷ more') d n h k
    ∙ step_runs (steps.Power e) more' (d + 1) (n - length (numbers_of t)) (d + 1) (n - length (numbers_of t)) (lt-ltb 0 (d + 1)
    (omega arith)) refl refl
tree_runs (More f s t) more' d n h k =
    let l = length-append (numbers_of s) (numbers_of t) in
    ap (λ x. can_run x d n) (append_assoc (steps_of s) (steps_of t ++ steps.Next f ∷ []) more'
    ∙ ap (λ x. steps_of s ++ x) (append_assoc (steps_of t) (steps.Next f ∷ []) more'))
    ∙ tree_runs s (steps_of t ++ (steps.Next f ∷ more')) d n (omega arith) (omega arith)
    ∙ tree_runs t (steps.Next f ∷ more') (d + 1) (n - length (numbers_of s)) (omega (arith, some_leaves s)) (omega arith)
    ∙ step_runs (steps.Next f) more' (d + 1 + 1) (n - length (numbers_of s) - length (numbers_of t)) (d + 1) (n - length
    (numbers_of s ++ numbers_of t)) (lt-ltb 1 (d + 1 + 1) (omega arith)) (omega arith) (omega arith)
tree_runs (Two op s t) more' d n h k =
    let l = length-append (numbers_of s) (numbers_of t) in
    ap (λ x. can_run x d n) (append_assoc (steps_of s) (steps_of t ++ steps.Infix op ∷ []) more'
    ∙ ap (λ x. steps_of s ++ x) (append_assoc (steps_of t) (steps.Infix op ∷ []) more'))
    ∙ tree_runs s (steps_of t ++ (steps.Infix op ∷ more')) d n (omega arith) (omega arith)
    ∙ tree_runs t (steps.Infix op ∷ more') (d + 1) (n - length (numbers_of s)) (omega (arith, some_leaves s)) (omega arith)
    ∙ step_runs (steps.Infix op) more' (d + 1 + 1) (n - length (numbers_of s) - length (numbers_of t)) (d + 1) (n - length
    (numbers_of s ++ numbers_of t)) (lt-ltb 1 (d + 1 + 1) (omega arith)) (omega arith) (omega arith)
tree_runs (Choice c s t) more' d n h k =
    let l = length-append (numbers_of s) (numbers_of t) in
    let m = length-append (numbers_of c) (numbers_of s ++ numbers_of t) in
    ap (λ x. can_run x d n) (simp append_assoc)
    ∙ tree_runs c (steps_of s ++ (steps_of t ++ (steps.Choose ∷ more'))) d n (omega arith) (omega arith)
    ∙ tree_runs s (steps_of t ++ (steps.Choose ∷ more')) (d + 1) (n - length (numbers_of c)) (omega (arith, some_leaves c)) (omega arith)
    ∙ tree_runs t (steps.Choose ∷ more') (d + 1 + 1) (n - length (numbers_of c) - length (numbers_of s)) (omega
    (arith, some_leaves c, some_leaves s)) (omega arith)
    ∙ step_runs steps.Choose more' (d + 1 + 1 + 1) (n - length (numbers_of c) - length (numbers_of s) - length (numbers_of t)) (d + 1)
    (n - length (numbers_of c ++ (numbers_of s ++ numbers_of t))) (lt-ltb 2 (d + 1 + 1 + 1) (omega arith)) (omega arith) (omega arith)
