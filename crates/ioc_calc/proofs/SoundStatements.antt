-- What the parser reads as statements follows the grammar.
use Rattle.std.proofs.Common.{◌≡◌, ℕ, zero, suc, ◌+◌, List, [], ◌∷◌, ◌++◌, refl, ap, ◌∙◌, sym, subst, append_assoc, append-nil, true, false, Bool}
use Rattle.std.specs.Prelude.{Option, Some, None, ◌&&◌, ◌||◌, if◌then◌else◌}
use Rattle.std.specs.Float.Ieee.{Float}
use Rattle.ioc_calc.specs.declared.program.Step.{Step}
use Rattle.ioc_calc.specs.declared.program.Step.TheVariants as steps
use Rattle.ioc_calc.specs.declared.token.Token.{Token}
use Rattle.ioc_calc.specs.declared.token.Token.TheVariants as tokens
use Rattle.ioc_calc.specs.declared.parser.Part.TheVariants as parts
use Rattle.ioc_calc.specs.declared.parser.TheConstants.{TURNS}
use Rattle.ioc_calc.specs.Tree.{Statement, Value, Store, values_in}
use Rattle.ioc_calc.specs.Machine.{steps_of, numbers_of, all_steps, all_numbers}
use Rattle.ioc_calc.specs.Grammar.{ReadsStatement, value, store, AreStatements, last, more}
use Rattle.ioc_calc.specs.Parsing.{State, ◌>>=◌, at, emitted, parse}
use Rattle.ioc_calc.specs.Statements.{stored_in, stored_behind, is_none, statement_with, statement_from, statements, statement_and, ended, ended_at}
use Rattle.ioc_calc.proofs.Sound.{bind_some, emitted_some, some_same, parse_sound}

-- the steps of one statement, its numbers and whether it is a value
abbrev pub steps_in : Statement → List Step
steps_in (Value t) = steps_of t
steps_in (Store place t) = steps_of t ++ steps.Store place ∷ []

abbrev pub numbers_in : Statement → List Float
numbers_in (Value t) = numbers_of t
numbers_in (Store place t) = numbers_of t

abbrev pub is_value : Statement → Bool
is_value (Value t) = true
is_value (Store place t) = false

pub all_steps-cons : (s : Statement) (ss : List Statement) → all_steps (s ∷ ss) ≡ steps_in s ++ all_steps ss
all_steps-cons (Value t) ss = refl
all_steps-cons (Store place t) ss = sym (append_assoc (steps_of t) (steps.Store place ∷ []) (all_steps ss))

pub all_numbers-cons : (s : Statement) (ss : List Statement) → all_numbers (s ∷ ss) ≡ numbers_in s ++ all_numbers ss
all_numbers-cons (Value t) ss = refl
all_numbers-cons (Store place t) ss = refl

-- a statement was read
pub record Said (s s' : State) : Type 0 where
  pub statement : Statement
  pub reads : ReadsStatement s.rest statement s'.rest
  pub steps : s'.steps ≡ s.steps ++ steps_in statement
  pub numbers : s'.numbers ≡ s.numbers ++ numbers_in statement
  pub kind : is_value statement ≡ is_none (stored_in s.rest)

stored_behind_some : (p q : ℕ) (ts rest : List Token) → stored_behind p ts ≡ Some (q, rest) → (p ≡ q) × (ts ≡ tokens.Assign ∷ rest)
stored_behind_some p q [] rest h = cc
stored_behind_some p q (tokens.Assign ∷ ts) rest h = (
  ap (λ (x : ℕ × List Token). x.0) (some_same (p, ts) (q, rest) h),
  ap (λ
      (x : ℕ × List Token). tokens.Assign ∷ x.1) (some_same (p, ts) (q, rest) h),
)
stored_behind_some p q (_ ∷ ts) rest h = cc

pub stored_in_some : (ts : List Token) (q : ℕ) (rest : List Token) → stored_in ts ≡ Some (q, rest)
    → ts ≡ tokens.Argument q ∷ tokens.Assign ∷ rest
stored_in_some [] q rest h = cc
stored_in_some (tokens.Argument p ∷ ts) q rest h =
    let both = stored_behind_some p q ts rest h in
    ap (λ x. tokens.Argument x ∷ ts) both.0 ∙ ap (λ x. tokens.Argument q ∷ x) both.1
stored_in_some (_ ∷ ts) q rest h = cc

statement_from_sound : (stored : Option (ℕ × List Token)) (s s' : State) → stored_in s.rest ≡ stored
    → statement_from stored s ≡ Some s' → Said s s'
statement_from_sound None s s' e h =
    let g = parse_sound TURNS parts.Value s s' h in
    record {
      statement = Value g.tree;
      reads = value s.rest s'.rest g.tree g.reads;
      steps = g.steps;
      numbers = g.numbers;
      kind = sym
          (ap is_none e);
    }
statement_from_sound (Some stored) s s' e h =
    let a = bind_some (parse TURNS parts.Value (at stored.1 s)) (λ x. emitted (steps.Store stored.0) x) s' h in
    let g = parse_sound TURNS parts.Value (at stored.1 s) a.0 a.1 in
    subst (λ x. Said s x) (sym (emitted_some (steps.Store stored.0) a.0 s' a.2)) (record {
      statement = Store stored.0 g.tree;
      reads = subst (λ ts. ReadsStatement ts (Store stored.0 g.tree) a.0.rest) (sym (stored_in_some s.rest stored.0 stored.1 e))
          (store stored.0 stored.1 a.0.rest g.tree g.reads);
      steps = ap (λ x. x ++ steps.Store stored.0 ∷ []) g.steps ∙ append_assoc s.steps (steps_of g.tree) (steps.Store stored.0 ∷ []);
      numbers = g.numbers;
      kind = sym (ap is_none e);
    })

statement_sound : (s s' : State) → statement_with s ≡ Some s' → Said s s'
unfolding statement_with
statement_sound s s' h = statement_from_sound (stored_in s.rest) s s' refl h

test_true : {A : Type 0} (b : Bool) (x y : A) → (if b then Some x else None) ≡ Some y → (b ≡ true) × (x ≡ y)
test_true true x y h = (refl, some_same x y h)
test_true false x y h = cc

test_false : {A : Type 0} (b : Bool) (x : Option A) (y : A) → (if b then None else x) ≡ Some y → (b ≡ false) × (x ≡ Some y)
test_false true x y h = cc
test_false false x y h = (refl, h)

-- ---- all statements

-- how many values there are still to be
abbrev pub one_unless : Bool → ℕ
one_unless true = 0
one_unless false = 1

-- statements were read up to the end
pub record SaidAll (has : Bool) (s s' : State) : Type 0 where
  pub statements : List Statement
  pub reads : AreStatements s.rest statements
  pub steps : s'.steps ≡ s.steps ++ all_steps statements
  pub numbers : s'.numbers ≡ s.numbers ++ all_numbers statements
  pub values : values_in statements ≡ one_unless has

-- one more statement before others
values_of_cons : (s : Statement) (ss : List Statement) (has is : Bool) → is_value s ≡ is → (is && has) ≡ false
    → values_in ss ≡ one_unless (has || is) → values_in (s ∷ ss) ≡ one_unless has
values_of_cons (Value t) ss true true e both h = cc
values_of_cons (Value t) ss true false e both h = cc
values_of_cons (Value t) ss false true e both h = ap (λ n. n + 1) h
values_of_cons (Value t) ss false false e both h = cc
values_of_cons (Store p t) ss true true e both h = cc
values_of_cons (Store p t) ss true false e both h = h
values_of_cons (Store p t) ss false true e both h = cc
values_of_cons (Store p t) ss false false e both h = h

-- the last statement
values_of_last : (s : Statement) (has is : Bool) → is_value s ≡ is → (is && has) ≡ false → (has || is) ≡ true
    → values_in (s ∷ []) ≡ one_unless has
values_of_last (Value t) true true e both h = cc
values_of_last (Value t) true false e both h = cc
values_of_last (Value t) false true e both h = refl
values_of_last (Value t) false false e both h = cc
values_of_last (Store p t) true true e both h = cc
values_of_last (Store p t) true false e both h = refl
values_of_last (Store p t) false true e both h = cc
values_of_last (Store p t) false false e both h = cc

abbrev pub Reads_all : (Bool → State → Option State) → Type 0
Reads_all later = (has : Bool) (s s' : State) → later has s ≡ Some s' → SaidAll has s s'

ended_sound : (later : Bool → State → Option State) → Reads_all later → (has is : Bool) (s a s' : State) (ts : List Token)
    → (g : Said s a) → is_value g.statement ≡ is → (is && has) ≡ false → a.rest ≡ ts
    → ended_at (later (has || is)) (has || is) ts a ≡ Some s' → SaidAll has s s'
ended_sound later all has is s a s' [] g e both ae h =
    let t = test_true (has || is) a s' h in
    subst (λ x. SaidAll has s x) t.1 (record {
      statements = g.statement ∷ [];
      reads = last s.rest g.statement (subst (λ x. ReadsStatement s.rest g.statement x) ae g.reads);
      steps = g.steps ∙ ap (λ x. s.steps ++ x) (sym (append-nil (steps_in g.statement)) ∙ sym (all_steps-cons g.statement []));
      numbers = g.numbers ∙ ap (λ x. s.numbers ++ x) (sym (append-nil (numbers_in g.statement)) ∙ sym (all_numbers-cons g.statement []));
      values = values_of_last g.statement has is e both t.0;
    })
ended_sound later all has is s a s' (tokens.Semicolon ∷ rest) g e both ae h =
    let k = all (has || is) (at rest a) s' h in
    record {
      statements = g.statement ∷ k.statements;
      reads = more s.rest rest g.statement k.statements (subst (λ x. ReadsStatement s.rest g.statement x) ae g.reads) k.reads;
      steps = k.steps ∙ ap (λ x. x ++ all_steps k.statements) g.steps
          ∙ append_assoc s.steps (steps_in g.statement) (all_steps k.statements)
          ∙ ap (λ x. s.steps ++ x) (sym (all_steps-cons g.statement k.statements));
      numbers = k.numbers ∙ ap (λ x. x ++ all_numbers k.statements) g.numbers
          ∙ append_assoc s.numbers (numbers_in g.statement) (all_numbers k.statements)
          ∙ ap (λ x. s.numbers ++ x) (sym (all_numbers-cons g.statement k.statements));
      values = values_of_cons g.statement k.statements has is e both k.values;
    }
ended_sound later all has is s a s' (_ ∷ rest) g e both ae h = cc

and_sound : (later : Bool → State → Option State) → Reads_all later → (has is : Bool) (s s' : State) → is ≡ is_none (stored_in s.rest)
    → statement_and later has is s ≡ Some s' → SaidAll has s s'
unfolding statement_and ended
and_sound later all has is s s' e h =
    let t = test_false (is && has) (statement_with s >>= (λ a. ended (later (has || is)) (has || is) a)) s' h in
    let a = bind_some (statement_with s) (λ x. ended (later (has || is)) (has || is) x) s' t.1 in
    let g = statement_sound s a.0 a.1 in
    ended_sound later all has is s a.0 s' a.0.rest g (g.kind ∙ sym e) t.0 refl a.2

pub statements_sound : (n : ℕ) → Reads_all (statements n)
unfolding statements
statements_sound zero has s s' h = cc
statements_sound (suc n) has s s' h = and_sound (statements n) (statements_sound n) has (is_none (stored_in s.rest)) s s' refl h
