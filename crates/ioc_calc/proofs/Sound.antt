-- What the parser reads follows the grammar.
use Rattle.std.proofs.Common.{◌≡◌, ℕ, zero, suc, ◌-◌, List, [], ◌∷◌, ◌++◌, length, refl, ap, arith, ◌∙◌, sym, subst, append_assoc, append-nil, inl, inr, true, false, Bool}
use Rattle.std.specs.Prelude.{Option, Some, None, nat_lt, if◌then◌else◌, ◌==◌, ◌⊎◌}
use Rattle.std.proofs.lemmas.Bool.{eqb-true}
use Rattle.std.specs.Float.Ieee.{Float}
use Rattle.ioc_calc.specs.declared.operators.ListFunction.{ListFunction}
use Rattle.ioc_calc.specs.declared.operators.ListFunction.TheVariants.{Maximum}
use Rattle.ioc_calc.specs.declared.operators.Infix.{Infix}
use Rattle.ioc_calc.specs.declared.operators.Infix.TheVariants.{Multiply}
use Rattle.ioc_calc.specs.declared.operators.Exponent.{Exponent}
use Rattle.ioc_calc.specs.declared.program.Step.{Step}
use Rattle.ioc_calc.specs.declared.program.Step.TheVariants as steps
use Rattle.ioc_calc.specs.declared.token.LeftOut.{LeftOut}
use Rattle.ioc_calc.specs.declared.token.Token.{Token}
use Rattle.ioc_calc.specs.declared.token.Token.TheVariants as tokens
use Rattle.ioc_calc.specs.declared.parser.Part.{Part}
use Rattle.ioc_calc.specs.declared.parser.Part.TheVariants as parts
use Rattle.ioc_calc.specs.Tree.{Tree, Constant, Argument, Before, One, First, More, Two, Power, Choice}
use Rattle.ioc_calc.specs.Machine.{steps_of, numbers_of}
use Rattle.ioc_calc.specs.Grammar.{Phrase, AValue, ALevel, AList, Reads, number, argument, before, random, brackets, prefix, of_one, of_list, tighter, two, power, other_power, whole, choice, first, next, IsFunction, named, left_out, is_open}
use Rattle.ioc_calc.specs.Parsing.{State, ◌>>=◌, at, emitted, with_number, closed, closed_at, parse, part_with, value_with, choice_with, choice_at, second_with, second_at, level_with, tail_with, tail_at, operator_with, power_with, power_from, operand_with, operand_at, function_with, function_at, arguments_with, more_arguments_with, more_arguments_at}
use Rattle.ioc_calc.specs.Exponents.{exponent_of}
use Rattle.ioc_calc.specs.Levels.{level_of}

-- ---- steps that may fail

pub bind_some : {A B : Type 0} (o : Option A) (f : A → Option B) (y : B) → (o >>= f) ≡ Some y → (x : A) × (o ≡ Some x) × (f x ≡ Some y)
bind_some None f y h = cc
bind_some (Some x) f y h = (x, refl, h)

pub test_some : {A : Type 0} (b : Bool) (x y : A) → (if b then Some x else None) ≡ Some y → x ≡ y
test_some true x y h = cc
test_some false x y h = cc

pub chosen_some : {A : Type 0} (b : Bool) (x : Option A) (y : A) → (if b then x else None) ≡ Some y → x ≡ Some y
chosen_some true x y h = h
chosen_some false x y h = cc

pub either_way : {A : Type 0} (b : Bool) (x y z : A) → (if b then x else y) ≡ z → ((b ≡ true) × (x ≡ z)) ⊎ ((b ≡ false) × (y ≡ z))
either_way true x y z h = inl (refl, h)
either_way false x y z h = inr (refl, h)

-- one more step
pub emitted_some : (step : Step) (s s' : State) → emitted step s ≡ Some s'
    → s' ≡ record { rest = s.rest; steps = s.steps ++ step ∷ []; numbers = s.numbers }
unfolding emitted
emitted_some step s s' h = sym (test_some (nat_lt (length s.steps) 79) _ s' h)

-- one more number
pub with_number_some : (x : Float) (s s' : State) → with_number x s ≡ Some s'
    → s' ≡ record { rest = s.rest; steps = s.steps ++ steps.Number ∷ []; numbers = s.numbers ++ x ∷ [] }
unfolding with_number
with_number_some x s s' h = emitted_some steps.Number (record { rest = s.rest; steps = s.steps; numbers = s.numbers ++ x ∷ [] }) s'
    (chosen_some (nat_lt (length s.numbers) 40) _ s' h)

-- ---- what was read

-- From some tokens on, and from some steps and numbers on, the parser has read a phrase.
pub record Grown (phrase : Phrase) (ts : List Token) (base : List Step) (known : List Float) (s : State) : Type 0 where
  pub tree : Tree
  pub reads : Reads phrase ts tree s.rest
  pub steps : s.steps ≡ base ++ steps_of tree
  pub numbers : s.numbers ≡ known ++ numbers_of tree

-- what a part that was read says
abbrev pub Claim : Part → State → State → Type 0
Claim parts.Value s s' = Grown AValue s.rest s.steps s.numbers s'
Claim (parts.Level level) s s' = Grown (ALevel level) s.rest s.steps s.numbers s'
Claim (parts.Tail level) s s' = (k : ℕ) → level ≡ suc k → (ts : List Token) (base : List Step) (known : List Float)
    → Grown (ALevel (suc k)) ts base known s → Grown (ALevel (suc k)) ts base known s'
Claim (parts.Arguments function) s s' = Grown (AList function) s.rest s.steps s.numbers s'
Claim (parts.MoreArguments function) s s' = (ts : List Token) (base : List Step) (known : List Float)
    → Grown (AList function) ts base known s → Grown (AList function) ts base known s'

-- a reader of parts that says so
abbrev pub IsSound : (Part → State → Option State) → Type 0
IsSound reader = (part : Part) (s s' : State) → reader part s ≡ Some s' → Claim part s s'

-- one more step behind a tree
pub grown_one : (p q : Phrase) (ts us : List Token) (base : List Step) (known : List Float) (step : Step) (a s' : State) (make : Tree
    → Tree)
    → ((t : Tree) → steps_of (make t) ≡ steps_of t ++ step ∷ []) → ((t : Tree) → numbers_of (make t) ≡ numbers_of t)
    → ((t : Tree) (rest : List Token) → Reads p ts t rest → Reads q us (make t) rest)
    → Grown p ts base known a → emitted step a ≡ Some s' → Grown q us base known s'
grown_one p q ts us base known step a s' make makes same builds g h =
    subst (λ x. Grown q us base known x) (sym (emitted_some step a s' h)) (record {
      tree = make g.tree;
      reads = builds g.tree a.rest g.reads;
      steps = ap (λ x. x ++ step ∷ []) g.steps ∙ append_assoc base (steps_of g.tree) (step ∷ [])
          ∙ ap (λ x. base ++ x) (sym (makes g.tree));
      numbers = g.numbers ∙ ap (λ x. known ++ x) (sym (same g.tree));
    })

-- one more step behind two trees
pub grown_two : (p q r : Phrase) (ts us vs : List Token) (base : List Step) (known : List Float) (step : Step) (a b s' : State)
    (make : Tree → Tree → Tree)
    → ((s t : Tree) → steps_of (make s t) ≡ steps_of s ++ (steps_of t ++ step ∷ [])) → ((s t : Tree)
    → numbers_of (make s t) ≡ numbers_of s ++ numbers_of t)
    → (g : Grown p ts base known a) → (k : Grown q us a.steps a.numbers b)
    → Reads r vs (make g.tree k.tree) b.rest
    → emitted step b ≡ Some s' → Grown r vs base known s'
grown_two p q r ts us vs base known step a b s' make makes same g k reads h =
    subst (λ x. Grown r vs base known x) (sym (emitted_some step b s' h)) (record {
      tree = make g.tree k.tree;
      reads = reads;
      steps = ap (λ x. x ++ step ∷ []) (k.steps ∙ ap (λ x. x ++ steps_of k.tree) g.steps)
          ∙ append_assoc (base ++ steps_of g.tree) (steps_of k.tree) (step ∷ [])
          ∙ append_assoc base (steps_of g.tree) (steps_of k.tree ++ step ∷ [])
          ∙ ap (λ x. base ++ x) (sym (makes g.tree k.tree));
      numbers = k.numbers ∙ ap (λ x. x ++ numbers_of k.tree) g.numbers ∙ append_assoc known (numbers_of g.tree) (numbers_of k.tree)
          ∙ ap (λ x. known ++ x) (sym (same g.tree k.tree));
    })

-- ---- operands

closed_some : (ts : List Token) (s s' : State) → closed_at ts s ≡ Some s'
    → (rest : List Token) × (ts ≡ tokens.Close ∷ rest) × (s' ≡ at rest s)
closed_some [] s s' h = cc
closed_some (tokens.Close ∷ rest) s s' h = (rest, refl, cc)
closed_some (_ ∷ rest) s s' h = cc

-- a phrase in brackets
bracketed_grown : (p : Phrase) (ts us : List Token) (base : List Step) (known : List Float) (a s' : State)
    → ((t : Tree) (rest : List Token) → Reads p ts t (tokens.Close ∷ rest) → Reads (ALevel 0) us t rest)
    → Grown p ts base known a → closed a ≡ Some s' → Grown (ALevel 0) us base known s'
unfolding closed
bracketed_grown p ts us base known a s' builds g h =
    let c = closed_some a.rest a s' h in
    subst (λ x. Grown (ALevel 0) us base known x) (sym c.2) (record {
      tree = g.tree;
      reads = builds g.tree c.0 (subst (λ x. Reads p ts g.tree x) c.1 g.reads);
      steps = g.steps;
      numbers = g.numbers;
    })

suc_zero : (k : ℕ) → suc k ≡ 0 → ⊥
suc_zero k h = absurd (omega arith)

not_one : (k level : ℕ) → level ≡ suc (suc k) → level ≡ 1 → ⊥
not_one k level h e = absurd (omega arith)

-- ---- functions

one_behind : (r : Part → State → Option State) → IsSound r → (token : Token) (f : ListFunction) → IsFunction token f
    → (ts : List Token) → is_open ts ≡ false → (steps' : List Step) (numbers' : List Float) (s' : State)
    → (r (parts.Level 0) (record { rest = ts; steps = steps'; numbers = numbers' }) >>= (λ a. emitted (steps.First f) a)) ≡ Some s'
    → Grown (ALevel 0) (token ∷ ts) steps' numbers' s'
one_behind r sound token f is ts shut steps' numbers' s' h =
    let b = bind_some (r (parts.Level 0) (record { rest = ts; steps = steps'; numbers = numbers' })) (λ a. emitted
    (steps.First f) a) s' h in
    grown_one (ALevel 0) (ALevel 0) ts (token ∷ ts) steps' numbers' (steps.First f) b.0 s' (First f) (λ t. refl) (λ t. refl)
    (λ t rest k. of_one token f ts rest t is shut k)
    (sound (parts.Level 0) (record { rest = ts; steps = steps'; numbers = numbers' }) b.0 b.1) b.2

function_at_sound : (r : Part → State → Option State) → IsSound r → (token : Token) (f : ListFunction) → IsFunction token f
    → (ts : List Token) (steps' : List Step) (numbers' : List Float) (s' : State)
    → function_at r f ts (record { rest = ts; steps = steps'; numbers = numbers' }) ≡ Some s'
    → Grown (ALevel 0) (token ∷ ts) steps' numbers' s'
function_at_sound r sound token f is [] steps' numbers' s' h = cc
function_at_sound r sound token f is (tokens.Open ∷ rest) steps' numbers' s' h =
    let b = bind_some (r (parts.Arguments f) (record { rest = rest; steps = steps'; numbers = numbers' })) closed s' h in
    bracketed_grown (AList f) rest (token ∷ tokens.Open ∷ rest) steps' numbers' b.0 s'
    (λ t behind k. of_list token f rest behind t is k)
    (sound (parts.Arguments f) (record { rest = rest; steps = steps'; numbers = numbers' }) b.0 b.1) b.2
function_at_sound r sound token f is (other ∷ rest) steps' numbers' s' h = one_behind r sound token f is
    (other ∷ rest) refl steps' numbers' s' h

operand_at_sound : (r : Part → State → Option State) → IsSound r
    → (ts : List Token) (steps' : List Step) (numbers' : List Float) (s' : State)
    → operand_at r ts (record { rest = ts; steps = steps'; numbers = numbers' }) ≡ Some s' → Grown (ALevel 0) ts steps' numbers' s'
unfolding function_with
operand_at_sound r sound [] steps' numbers' s' h = cc
operand_at_sound r sound (tokens.Number x ∷ rest) steps' numbers' s' h =
    subst (λ y. Grown (ALevel 0) (tokens.Number x ∷ rest) steps' numbers' y)
    (sym (with_number_some x (record { rest = rest; steps = steps'; numbers = numbers' }) s' h))
    (record { tree = Constant x; reads = number x rest; steps = refl; numbers = refl })
operand_at_sound r sound (tokens.Argument place ∷ rest) steps' numbers' s' h =
    subst (λ y. Grown (ALevel 0) (tokens.Argument place ∷ rest) steps' numbers' y)
    (sym (emitted_some (steps.Argument place) (record { rest = rest; steps = steps'; numbers = numbers' }) s' h))
    (record { tree = Argument place; reads = argument place rest; steps = refl; numbers = sym (append-nil numbers') })
operand_at_sound r sound (tokens.Value ∷ rest) steps' numbers' s' h =
    subst (λ y. Grown (ALevel 0) (tokens.Value ∷ rest) steps' numbers' y)
    (sym (emitted_some steps.Value (record { rest = rest; steps = steps'; numbers = numbers' }) s' h))
    (record { tree = Before; reads = before rest; steps = refl; numbers = sym (append-nil numbers') })
operand_at_sound r sound (tokens.Random ∷ rest) steps' numbers' s' h =
    subst (λ y. Grown (ALevel 0) (tokens.Random ∷ rest) steps' numbers' y)
    (sym (emitted_some steps.Value (record { rest = rest; steps = steps'; numbers = numbers' }) s' h))
    (record { tree = Before; reads = random rest; steps = refl; numbers = sym (append-nil numbers') })
operand_at_sound r sound (tokens.Prefix op ∷ rest) steps' numbers' s' h =
    let b = bind_some (r (parts.Level 0) (record { rest = rest; steps = steps'; numbers = numbers' })) (λ a. emitted
    (steps.Prefix op) a) s' h in
    grown_one (ALevel 0) (ALevel 0) rest (tokens.Prefix op ∷ rest) steps' numbers' (steps.Prefix op) b.0 s' (One op) (λ t. refl)
    (λ t. refl)
    (λ t behind k. prefix op rest behind t k)
    (sound (parts.Level 0) (record { rest = rest; steps = steps'; numbers = numbers' }) b.0 b.1) b.2
operand_at_sound r sound (tokens.Open ∷ rest) steps' numbers' s' h =
    let b = bind_some (r parts.Value (record { rest = rest; steps = steps'; numbers = numbers' })) closed s' h in
    bracketed_grown AValue rest (tokens.Open ∷ rest) steps' numbers' b.0 s' (λ t behind k. brackets rest behind t k)
    (sound parts.Value (record { rest = rest; steps = steps'; numbers = numbers' }) b.0 b.1) b.2
operand_at_sound r sound (tokens.Function f ∷ rest) steps' numbers' s' h = function_at_sound r sound (tokens.Function f) f
    (named f) rest steps' numbers' s' h
operand_at_sound r sound (tokens.LeftOutFunction w ∷ rest) steps' numbers' s' h = function_at_sound r sound
    (tokens.LeftOutFunction w) Maximum (left_out w) rest steps' numbers' s' h
operand_at_sound r sound (_ ∷ rest) steps' numbers' s' h = cc

-- ---- operators

level_sound : (r : Part → State → Option State) → IsSound r → (level : ℕ) (s s' : State) → level_with r level s ≡ Some s'
    → Grown (ALevel level) s.rest s.steps s.numbers s'
unfolding level_with operand_with
level_sound r sound zero s s' h = operand_at_sound r sound s.rest s.steps s.numbers s' h
level_sound r sound (suc k) s s' h =
    elim (either_way (suc k == 0) (operand_at r s.rest s) (r (parts.Level (suc k - 1)) s >>= (λ a. r (parts.Tail (suc k)) a))
    (Some s') h) [
      | inl w ↦ absurd (suc_zero k (eqb-true (suc k) 0 w.0))
      | inr w ↦
          let b = bind_some (r (parts.Level (suc k - 1)) s) (λ a. r (parts.Tail (suc k)) a) s' w.1 in
          let one_less : suc k - 1 ≡ k = omega arith in
          let g = sound (parts.Level k) s b.0 (subst (λ j. r (parts.Level j) s ≡ Some b.0) one_less b.1) in
          sound (parts.Tail (suc k)) b.0 s' b.2 k refl s.rest s.steps s.numbers
          (record { tree = g.tree; reads = tighter k s.rest b.0.rest g.tree g.reads; steps = g.steps; numbers = g.numbers })
    ]

pub some_same : {A : Type 0} (x y : A) → Some x ≡ Some y → x ≡ y
some_same x y h = cc

unchanged : (p : Phrase) (us : List Token) (base : List Step) (known : List Float) (s s' : State) → Some s ≡ Some s'
    → Grown p us base known s → Grown p us base known s'
unchanged p us base known s s' h g = subst (λ x. Grown p us base known x) (some_same s s' h) g

operator_sound : (r : Part → State → Option State) → IsSound r → (k level : ℕ) → level ≡ suc k → (op : Infix) → level_of op ≡ level
    → (rest us : List Token) (base : List Step) (known : List Float) (steps' : List Step) (numbers' : List Float) (s' : State)
    → Grown (ALevel (suc k)) us base known (record { rest = tokens.Infix op ∷ rest; steps = steps'; numbers = numbers' })
    → operator_with r level op rest (record { rest = tokens.Infix op ∷ rest; steps = steps'; numbers = numbers' }) ≡ Some s'
    → Grown (ALevel (suc k)) us base known s'
unfolding operator_with
operator_sound r sound k level le op oe rest us base known steps' numbers' s' g h =
    let here : State = record { rest = rest; steps = steps'; numbers = numbers' } in
    let a = bind_some (r (parts.Level (level - 1)) here) (λ x. emitted (steps.Infix op) x >>= (λ y. r (parts.Tail level) y)) s' h in
    let b = bind_some (emitted (steps.Infix op) a.0) (λ y. r (parts.Tail level) y) s' a.2 in
    let one_less : level - 1 ≡ k = omega arith in
    let ga = sound (parts.Level k) here a.0 (subst (λ j. r (parts.Level j) here ≡ Some a.0) one_less a.1) in
    sound (parts.Tail level) b.0 s' b.2 k le us base known
    (grown_two (ALevel (suc k)) (ALevel k) (ALevel (suc k)) us rest us base known (steps.Infix op)
    (record { rest = tokens.Infix op ∷ rest; steps = steps'; numbers = numbers' }) a.0 b.0 (Two op) (λ s t. refl) (λ s t. refl) g ga
    (two k op us rest a.0.rest g.tree ga.tree (oe ∙ le) g.reads ga.reads) b.1)

power_sound : (r : Part → State → Option State) → IsSound r
    → (sign : LeftOut) (found : Option (Exponent × List Token)) (rest us : List Token) → exponent_of rest ≡ found
    → (base : List Step) (known : List Float) (steps' : List Step) (numbers' : List Float) (s' : State)
    → Grown (ALevel 1) us base known (record { rest = tokens.Power sign ∷ rest; steps = steps'; numbers = numbers' })
    → power_from r found rest (record { rest = tokens.Power sign ∷ rest; steps = steps'; numbers = numbers' }) ≡ Some s'
    → Grown (ALevel 1) us base known s'
power_sound r sound sign (Some e) rest us is base known steps' numbers' s' g h =
    let here : State = record { rest = e.1; steps = steps'; numbers = numbers' } in
    let a = bind_some (emitted (steps.Power e.0) here) (λ y. r (parts.Tail 1) y) s' h in
    sound (parts.Tail 1) a.0 s' a.2 0 refl us base known
    (subst (λ x. Grown (ALevel 1) us base known x) (sym (emitted_some (steps.Power e.0) here a.0 a.1)) (record {
      tree = Power g.tree e.0;
      reads = power sign e.0 us rest e.1 g.tree g.reads is;
      steps = ap (λ x. x ++ steps.Power e.0 ∷ []) g.steps ∙ append_assoc base (steps_of g.tree) (steps.Power e.0 ∷ []);
      numbers = g.numbers;
    }))
power_sound r sound sign None rest us is base known steps' numbers' s' g h =
    let here : State = record { rest = rest; steps = steps'; numbers = numbers' } in
    let a = bind_some (r (parts.Level 0) here) (λ x. emitted (steps.Infix Multiply) x >>= (λ y. r (parts.Tail 1) y)) s' h in
    let b = bind_some (emitted (steps.Infix Multiply) a.0) (λ y. r (parts.Tail 1) y) s' a.2 in
    let ga = sound (parts.Level 0) here a.0 a.1 in
    sound (parts.Tail 1) b.0 s' b.2 0 refl us base known
    (grown_two (ALevel 1) (ALevel 0) (ALevel 1) us rest us base known (steps.Infix Multiply)
    (record { rest = tokens.Power sign ∷ rest; steps = steps'; numbers = numbers' }) a.0 b.0 (Two Multiply) (λ s t. refl)
    (λ s t. refl) g ga
    (other_power sign us rest a.0.rest g.tree ga.tree g.reads is ga.reads) b.1)

tail_at_sound : (r : Part → State → Option State) → IsSound r → (ts : List Token) (k level : ℕ) → level ≡ suc k
    → (us : List Token) (base : List Step) (known : List Float) (steps' : List Step) (numbers' : List Float) (s' : State)
    → Grown (ALevel (suc k)) us base known (record { rest = ts; steps = steps'; numbers = numbers' })
    → tail_at r level ts (record { rest = ts; steps = steps'; numbers = numbers' }) ≡ Some s' → Grown (ALevel (suc k)) us base known s'
unfolding power_with
tail_at_sound r sound [] k level le us base known steps' numbers' s' g h = unchanged (ALevel (suc k)) us base known _ s' h g
tail_at_sound r sound (tokens.Infix op ∷ rest) k level le us base known steps' numbers' s' g h =
    let here : State = record { rest = tokens.Infix op ∷ rest; steps = steps'; numbers = numbers' } in
    elim (either_way (level_of op == level) (operator_with r level op rest here) (Some here) (Some s') h) [
      | inl w ↦ operator_sound r sound k level le op (eqb-true (level_of op) level w.0) rest us base known steps' numbers' s' g w.1
      | inr w ↦ unchanged (ALevel (suc k)) us base known here s' w.1 g
    ]
tail_at_sound r sound (tokens.Power sign ∷ rest) zero level le us base known steps' numbers' s' g h =
    let here : State = record { rest = tokens.Power sign ∷ rest; steps = steps'; numbers = numbers' } in
    elim (either_way (level == 1) (power_with r rest here) (Some here) (Some s') h) [
      | inl w ↦ power_sound r sound sign (exponent_of rest) rest us refl base known steps' numbers' s' g w.1
      | inr w ↦ unchanged (ALevel 1) us base known here s' w.1 g
    ]
tail_at_sound r sound (tokens.Power sign ∷ rest) (suc k) level le us base known steps' numbers' s' g h =
    let here : State = record { rest = tokens.Power sign ∷ rest; steps = steps'; numbers = numbers' } in
    elim (either_way (level == 1) (power_with r rest here) (Some here) (Some s') h) [
      | inl w ↦ absurd (not_one k level le (eqb-true level 1 w.0))
      | inr w ↦ unchanged (ALevel (suc (suc k))) us base known here s' w.1 g
    ]
tail_at_sound r sound (_ ∷ rest) k level le us base known steps' numbers' s' g h = unchanged (ALevel (suc k)) us base known _ s' h g

-- ---- choices

three_steps : (base : List Step) (a b c : List Step) (x : List Step) (step : Step) → x ≡ ((base ++ a) ++ b) ++ c
    → x ++ step ∷ [] ≡ base ++ (a ++ (b ++ (c ++ step ∷ [])))
three_steps base a b c x step e = ap (λ y. y ++ step ∷ []) e ∙ simp append_assoc

second_at_sound : (r : Part → State → Option State) → IsSound r
    → (ts us vs : List Token) (base : List Step) (known : List Float) (a b s' : State) (ga : Grown (ALevel 6) vs base known a)
    → a.rest ≡ tokens.Question ∷ us → (gb : Grown AValue us a.steps a.numbers b) → b.rest ≡ ts
    → second_at r ts b ≡ Some s' → Grown AValue vs base known s'
second_at_sound r sound [] us vs base known a b s' ga ae gb be h = cc
second_at_sound r sound (tokens.Colon ∷ rest) us vs base known a b s' ga ae gb be h =
    let c = bind_some (r parts.Value (at rest b)) (λ x. emitted steps.Choose x) s' h in
    let gc = sound parts.Value (at rest b) c.0 c.1 in
    subst (λ x. Grown AValue vs base known x) (sym (emitted_some steps.Choose c.0 s' c.2)) (record {
      tree = Choice ga.tree gb.tree gc.tree;
      reads = choice vs us rest c.0.rest ga.tree gb.tree gc.tree (subst (λ x. Reads (ALevel 6) vs ga.tree x) ae ga.reads) (subst
          (λ x. Reads AValue us gb.tree x) be gb.reads) gc.reads;
      steps = three_steps base (steps_of ga.tree) (steps_of gb.tree) (steps_of gc.tree) c.0.steps steps.Choose (gc.steps
          ∙ ap (λ x. x ++ steps_of gc.tree) (gb.steps ∙ ap (λ x. x ++ steps_of gb.tree) ga.steps));
      numbers = gc.numbers ∙ ap (λ x. x ++ numbers_of gc.tree) (gb.numbers ∙ ap (λ x. x ++ numbers_of gb.tree) ga.numbers)
          ∙ simp append_assoc;
    })
second_at_sound r sound (_ ∷ rest) us vs base known a b s' ga ae gb be h = cc

choice_at_sound : (r : Part → State → Option State) → IsSound r
    → (ts vs : List Token) (base : List Step) (known : List Float) (a s' : State) → Grown (ALevel 6) vs base known a → a.rest ≡ ts
    → choice_at r ts a ≡ Some s' → Grown AValue vs base known s'
unfolding second_with
choice_at_sound r sound (tokens.Question ∷ rest) vs base known a s' ga ae h =
    let b = bind_some (r parts.Value (at rest a)) (λ x. second_with r x) s' h in
    second_at_sound r sound b.0.rest rest vs base known a b.0 s' ga ae (sound parts.Value (at rest a) b.0 b.1) refl b.2
choice_at_sound r sound [] vs base known a s' ga ae h =
    let g = unchanged (ALevel 6) vs base known a s' h ga in
    record { tree = g.tree; reads = whole vs s'.rest g.tree g.reads; steps = g.steps; numbers = g.numbers }
choice_at_sound r sound (_ ∷ rest) vs base known a s' ga ae h =
    let g = unchanged (ALevel 6) vs base known a s' h ga in
    record { tree = g.tree; reads = whole vs s'.rest g.tree g.reads; steps = g.steps; numbers = g.numbers }

-- ---- operands of functions

arguments_sound : (r : Part → State → Option State) → IsSound r → (f : ListFunction) (s s' : State) → arguments_with r f s ≡ Some s'
    → Grown (AList f) s.rest s.steps s.numbers s'
unfolding arguments_with
arguments_sound r sound f s s' h =
    let a = bind_some (r parts.Value s) (λ x. emitted (steps.First f) x >>= (λ y. r (parts.MoreArguments f) y)) s' h in
    let b = bind_some (emitted (steps.First f) a.0) (λ y. r (parts.MoreArguments f) y) s' a.2 in
    sound (parts.MoreArguments f) b.0 s' b.2 s.rest s.steps s.numbers
    (grown_one AValue (AList f) s.rest s.rest s.steps s.numbers (steps.First f) a.0 b.0 (First f) (λ t. refl) (λ t. refl)
    (λ t rest k. first f s.rest rest t k) (sound parts.Value s a.0 a.1) b.1)

more_at_sound : (r : Part → State → Option State) → IsSound r
    → (f : ListFunction) (ts us : List Token) (base : List Step) (known : List Float) (s s' : State) → s.rest ≡ ts
    → Grown (AList f) us base known s
    → more_arguments_at r f ts s ≡ Some s' → Grown (AList f) us base known s'
more_at_sound r sound f [] us base known s s' se g h = unchanged (AList f) us base known s s' h g
more_at_sound r sound f (tokens.Comma ∷ rest) us base known s s' se g h =
    let a = bind_some (r parts.Value (at rest s)) (λ x. emitted (steps.Next f) x >>= (λ y. r (parts.MoreArguments f) y)) s' h in
    let b = bind_some (emitted (steps.Next f) a.0) (λ y. r (parts.MoreArguments f) y) s' a.2 in
    let ga = sound parts.Value (at rest s) a.0 a.1 in
    sound (parts.MoreArguments f) b.0 s' b.2 us base known
    (grown_two (AList f) AValue (AList f) us rest us base known (steps.Next f) s a.0 b.0 (More f) (λ x t. refl) (λ x t. refl) g ga
    (next f us rest a.0.rest g.tree ga.tree (subst (λ x. Reads (AList f) us g.tree x) se g.reads) ga.reads) b.1)
more_at_sound r sound f (_ ∷ rest) us base known s s' se g h = unchanged (AList f) us base known s s' h g

-- ---- all parts

part_sound : (r : Part → State → Option State) → IsSound r → IsSound (part_with r)
unfolding value_with choice_with tail_with more_arguments_with
part_sound r sound parts.Value s s' h =
    let a = bind_some (r (parts.Level 6) s) (λ x. choice_with r x) s' h in
    choice_at_sound r sound a.0.rest s.rest s.steps s.numbers a.0 s' (sound (parts.Level 6) s a.0 a.1) refl a.2
part_sound r sound (parts.Level level) s s' h = level_sound r sound level s s' h
part_sound r sound (parts.Tail level) s s' h = λ k le us base known g. tail_at_sound r sound s.rest k level le us base known s.steps
    s.numbers s' g h
part_sound r sound (parts.Arguments f) s s' h = arguments_sound r sound f s s' h
part_sound r sound (parts.MoreArguments f) s s' h = λ us base known g. more_at_sound r sound f s.rest us base known s s' refl g h

pub parse_sound : (n : ℕ) → IsSound (parse n)
unfolding parse
parse_sound zero part s s' h = cc
parse_sound (suc n) part s s' h = part_sound (parse n) (parse_sound n) part s s' h
