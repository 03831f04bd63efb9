-- The parser reads each phrase of the grammar.
use Rattle.std.proofs.Common.{◌≡◌, ℕ, zero, suc, ◌+◌, ◌-◌, ◌*◌, ◌<◌, ◌≤◌, List, [], ◌∷◌, ◌++◌, length, length-append, refl, ap, arith, ◌∙◌, sym, append_assoc, append-nil, true, false, Bool}
use Rattle.std.proofs.lemmas.Bool.{lt-ltb, eq-eqb, ne_eqb}
use Rattle.std.specs.Prelude.{Option, Some, None, nat_lt, if◌then◌else◌, ◌==◌}
use Rattle.std.specs.Float.Ieee.{Float}
use Rattle.ioc_calc.specs.declared.operators.Prefix.{Prefix}
use Rattle.ioc_calc.specs.declared.operators.ListFunction.{ListFunction}
use Rattle.ioc_calc.specs.declared.operators.ListFunction.TheVariants.{Maximum}
use Rattle.ioc_calc.specs.declared.operators.Infix.{Infix}
use Rattle.ioc_calc.specs.declared.operators.Infix.TheVariants.{Multiply, Divide, Remainder, Add, Subtract, Less, LessOrEqual, Greater, GreaterOrEqual, Equal, NotEqual, BitAnd, And, ShiftLeft, ShiftRight, ShiftRightUnsigned, BitOr, BitXor, Or}
use Rattle.ioc_calc.specs.declared.operators.Exponent.{Exponent}
use Rattle.ioc_calc.specs.declared.program.Step.{Step}
use Rattle.ioc_calc.specs.declared.program.Step.TheVariants as steps
use Rattle.ioc_calc.specs.declared.token.LeftOut.{LeftOut}
use Rattle.ioc_calc.specs.declared.token.Token.{Token}
use Rattle.ioc_calc.specs.declared.token.Token.TheVariants as tokens
use Rattle.ioc_calc.specs.declared.parser.Part.{Part}
use Rattle.ioc_calc.specs.declared.parser.Part.TheVariants as parts
use Rattle.ioc_calc.specs.Tree.{Tree, One, First, More, Two, Power, Choice}
use Rattle.ioc_calc.specs.Machine.{steps_of, numbers_of}
use Rattle.ioc_calc.specs.Grammar.{Phrase, AValue, ALevel, AList, Reads, number, argument, before, random, brackets, prefix, of_one, of_list, tighter, two, power, other_power, whole, choice, first, next, IsFunction, named, left_out, is_open}
use Rattle.ioc_calc.specs.Parsing.{State, ◌>>=◌, emitted, with_number, closed, parse, part_with, value_with, choice_with, choice_at, second_with, level_with, tail_with, tail_at, operator_with, power_with, power_from, operand_with, operand_at, function_with, function_at, arguments_with, more_arguments_with}
use Rattle.ioc_calc.specs.Exponents.{exponent_of}
use Rattle.ioc_calc.specs.Levels.{level_of}
use Rattle.ioc_calc.proofs.Parses.{parse_next}
use Rattle.ioc_calc.proofs.Sizes.{Sized, sized, exponent_short}

abbrev pub Reader : Type 0
Reader = Part → State → Option State

abbrev pub state : List Token → List Step → List Float → State
state ts st nu = record { rest = ts; steps = st; numbers = nu }

-- ---- what may follow a phrase

-- no operator of these levels is next
abbrev pub Loose : ℕ → List Token → Type 0
Loose level [] = Unit {0}
Loose level (tokens.Infix op ∷ rest) = level < level_of op
Loose level (tokens.Power raise ∷ rest) = level ≡ 0
Loose level (_ ∷ rest) = Unit {0}

-- nothing is next that a value goes on with
abbrev pub Ends : List Token → Type 0
Ends [] = Unit {0}
Ends (tokens.Infix op ∷ rest) = ⊥
Ends (tokens.Power raise ∷ rest) = ⊥
Ends (tokens.Question ∷ rest) = ⊥
Ends (_ ∷ rest) = Unit {0}

pub ends_loose : (level : ℕ) (ts : List Token) → Ends ts → Loose level ts
ends_loose level [] e = tt
ends_loose level (tokens.Infix op ∷ rest) e = absurd e
ends_loose level (tokens.Power raise ∷ rest) e = absurd e
ends_loose level (tokens.Question ∷ rest) e = absurd e
ends_loose level (_ ∷ rest) e = e

pub loose_less : (level : ℕ) (ts : List Token) → Loose (suc level) ts → Loose level ts
loose_less level [] e = tt
loose_less level (tokens.Infix op ∷ rest) e = omega arith
loose_less level (tokens.Power raise ∷ rest) e = absurd (omega arith)
loose_less level (_ ∷ rest) e = e

pub level_most : (op : Infix) → level_of op ≤ 6
level_most op = elim op as
    (λ o. level_of o ≤ 6) [
      | Multiply ↦ omega arith
      | Divide ↦ omega arith
      | Remainder ↦ omega arith
      | Add ↦ omega arith
      | Subtract ↦
          omega arith
      | Less ↦ omega arith
      | LessOrEqual ↦ omega arith
      | Greater ↦ omega arith
      | GreaterOrEqual ↦ omega arith
      | Equal ↦ omega
          arith
      | NotEqual ↦ omega arith
      | BitAnd ↦ omega arith
      | And ↦ omega arith
      | ShiftLeft ↦ omega arith
      | ShiftRight ↦ omega arith
      | ShiftRightUnsigned ↦ omega arith
      | BitOr ↦ omega arith
      | BitXor ↦ omega arith
      | Or ↦ omega arith
    ]

-- ---- single steps

pub if_true : {A : Type 0} (b : Bool) (x y : A) → b ≡ true → (if b then x else y) ≡ x
if_true true x y h = refl
if_true false x y h = cc

pub if_false : {A : Type 0} (b : Bool) (x y : A) → b ≡ false → (if b then x else y) ≡ y
if_false true x y h = cc
if_false false x y h = refl

pub bind_ok : {A B : Type 0} (o : Option A) (f : A → Option B) (x : A) → o ≡ Some x → (o >>= f) ≡ f x
bind_ok o f x h = ap (λ p. p >>= f) h

pub emits : (step : Step) (ts : List Token) (st : List Step) (nu : List Float) → length st < 79
    → emitted step (state ts st nu) ≡ Some (state ts (st ++ step ∷ []) nu)
unfolding emitted
emits step ts st nu h = if_true (nat_lt (length st) 79) _ None (lt-ltb (length st) 79 h)

pub numbers_fit : (x : Float) (ts : List Token) (st : List Step) (nu : List Float) → length st < 79 → length nu < 40
    → with_number x (state ts st nu) ≡ Some (state ts (st ++ steps.Number ∷ []) (nu ++ x ∷ []))
unfolding with_number
numbers_fit x ts st nu h k = if_true (nat_lt (length nu) 40) _ None (lt-ltb (length nu) 40 k) ∙ emits steps.Number ts st (nu ++ x ∷ []) h

pub same_state : (ts : List Token) (st st' : List Step) (nu nu' : List Float) → st ≡ st' → nu ≡ nu' → state ts st nu ≡ state ts st' nu'
same_state ts st st' nu nu' e f = ap (λ x. state ts x nu) e ∙ ap (λ x. state ts st' x) f

-- ---- room

-- there are turns, steps and numbers enough
pub record Room (weight more f : ℕ) (ts : List Token) (st : List Step) (nu : List Float) : Type 0 where
  pub turns : 16 * length ts + weight ≤ f
  pub steps : length st + length ts + more ≤ 79
  pub numbers : 2 * length nu + length ts ≤ 79

-- the state behind a tree
abbrev pub read_to : Tree → List Token → List Step → List Float → State
read_to t rest st nu = state rest (st ++ steps_of t) (nu ++ numbers_of t)

-- the one part goes on as the other, behind a tree
pub record Passes (from to : Part) (f : ℕ) (ts : List Token) (st : List Step) (nu : List Float) (t : Tree)
    (rest : List Token) : Type 0 where
  pub turns : ℕ
  pub enough : 16 * length rest + 8 ≤ turns
  pub same : parse f from (state ts st nu) ≡ parse turns to (read_to t rest st nu)

abbrev pub Complete : Phrase → List Token → Tree → List Token → Type 0
Complete AValue ts t rest = (f : ℕ) (st : List Step) (nu : List Float) → Ends rest → Room 7 0 f ts st nu
    → parse f parts.Value (state ts st nu) ≡ Some (read_to t rest st nu)
Complete (ALevel zero) ts t rest = (f : ℕ) (st : List Step) (nu : List Float) → Room 0 0 f ts st nu
    → parse f (parts.Level 0) (state ts st nu) ≡ Some (read_to t rest st nu)
Complete (ALevel (suc level)) ts t rest = (f : ℕ) (st : List Step) (nu : List Float) → Loose level rest → Room (suc level) 0 f ts st nu
    → Passes (parts.Level (suc level)) (parts.Tail (suc level)) f ts st nu t rest
Complete (AList function) ts t rest = (f : ℕ) (st : List Step) (nu : List Float) → Ends rest → Room 8 1 f ts st nu
    → Passes (parts.Arguments function) (parts.MoreArguments function) f ts st nu t rest

turn : (f : ℕ) (part : Part) (s : State) → 0 < f → parse f part s ≡ part_with (parse (f - 1)) part s
turn f part s h = parse_next f part s (λ e. absurd (omega arith))

-- ---- where a part stops

tail_stops : (r : Reader) (level : ℕ) (ts : List Token) (s : State) → Loose (suc level) ts → tail_at r (suc level) ts s ≡ Some s
tail_stops r level [] s h = refl
tail_stops r level (tokens.Infix op ∷ rest) s h = if_false (level_of op == suc level) _ (Some s) (ne_eqb (level_of op) (suc level)
    (λ e. absurd (omega arith)))
tail_stops r level (tokens.Power raise ∷ rest) s h = absurd (omega arith)
tail_stops r level (_ ∷ rest) s h = refl

choice_stops : (r : Reader) (ts : List Token) (s : State) → Ends ts → choice_at r ts s ≡ Some s
choice_stops r [] s h = refl
choice_stops r (tokens.Question ∷ rest) s h = absurd h
choice_stops r (_ ∷ rest) s h = refl

one_alone : (r : Reader) (f : ListFunction) (ts : List Token) (s : State) → is_open ts ≡ false → 0 < length ts
    → function_at r f ts s ≡ (r (parts.Level 0) s >>= (λ a. emitted (steps.First f) a))
one_alone r f [] s shut some = absurd (omega arith)
one_alone r f (tokens.Open ∷ rest) s shut some = cc
one_alone r f (_ ∷ rest) s shut some = refl

level_suc : (r : Reader) (level : ℕ) (s : State)
    → level_with r (suc level) s ≡ (r (parts.Level level) s >>= (λ a. r (parts.Tail (suc level)) a))
unfolding level_with
level_suc r level s =
    let one_less : suc level - 1 ≡ level = omega arith in
    if_false (suc level == 0) _ (r (parts.Level (suc level - 1)) s >>= (λ a. r (parts.Tail (suc level)) a)) (ne_eqb (suc level) 0
    (λ e. absurd (omega arith)))
    ∙ ap (λ k. r (parts.Level k) s >>= (λ a. r (parts.Tail (suc level)) a)) one_less

-- a level up to where no operator of it follows
whole_level : (level : ℕ) (ts : List Token) (t : Tree) (rest : List Token) → Complete (ALevel level) ts t rest
    → (f : ℕ) (st : List Step) (nu : List Float) → Loose level rest → Room level 0 f ts st nu
    → parse f (parts.Level level) (state ts st nu) ≡ Some (read_to t rest st nu)
unfolding tail_with
whole_level zero ts t rest c f st nu loose room = c f st nu room
whole_level (suc level) ts t rest c f st nu loose room =
    let p = c f st nu (loose_less level rest loose) room in
    let some : 0 < p.turns = omega (arith, p.enough) in
    p.same ∙ turn p.turns (parts.Tail (suc level)) (read_to t rest st nu) some
    ∙ tail_stops (parse (p.turns - 1)) level rest (read_to t rest st nu) loose

operand : (f : ℕ) (ts : List Token) (st : List Step) (nu : List Float) → 0 < f
    → parse f (parts.Level 0) (state ts st nu) ≡ operand_at (parse (f - 1)) ts (state ts st nu)
unfolding level_with operand_with
operand f ts st nu h = turn f (parts.Level 0) (state ts st nu) h

-- ---- a step behind one or two trees

behind_one : (a b : List Step) (step : Step) → (a ++ b) ++ step ∷ [] ≡ a ++ (b ++ step ∷ [])
behind_one a b step = append_assoc a b (step ∷ [])

behind_two : (a b c : List Step) (step : Step) → ((a ++ b) ++ c) ++ step ∷ [] ≡ a ++ (b ++ (c ++ step ∷ []))
behind_two a b c step = simp append_assoc

behind_three : (a b c d : List Step) (step : Step) → (((a ++ b) ++ c) ++ d) ++ step ∷ [] ≡ a ++ (b ++ (c ++ (d ++ step ∷ [])))
behind_three a b c d step = simp append_assoc

-- one operand, and then a step
one_step : (f : ℕ) (ts rest : List Token) (t : Tree) (st : List Step) (nu : List Float) (step : Step) → Sized (ALevel 0) ts t rest
    → length st + length ts < 79 → parse f (parts.Level 0) (state ts st nu) ≡ Some (read_to t rest st nu)
    → (parse f (parts.Level 0) (state ts st nu) >>= (λ a. emitted step a)) ≡ Some (state rest (st ++ (steps_of t ++ step ∷ []))
    (nu ++ numbers_of t))
one_step f ts rest t st nu step k room h =
    bind_ok (parse f (parts.Level 0) (state ts st nu)) (λ a. emitted step a) (read_to t rest st nu) h
    ∙ emits step rest (st ++ steps_of t) (nu ++ numbers_of t) (omega (arith, length-append st (steps_of t), k.steps))
    ∙ ap (λ x. Some (state rest x (nu ++ numbers_of t))) (behind_one st (steps_of t) step)

-- ---- each phrase

brackets_complete : (ts rest : List Token) (t : Tree) → Complete AValue ts t (tokens.Close ∷ rest)
    → Complete (ALevel 0) (tokens.Open ∷ ts) t rest
unfolding closed
brackets_complete ts rest t c = λ f st nu room.
    operand f (tokens.Open ∷ ts) st nu (omega (arith, room.turns))
    ∙ bind_ok (parse (f - 1) parts.Value (state ts st nu)) closed (read_to t (tokens.Close ∷ rest) st nu)
    (c (f - 1) st nu tt (record {
      turns = omega (arith, room.turns);
      steps = omega (arith, room.steps);
      numbers = omega
          (arith, room.numbers);
    }))

prefix_complete : (op : Prefix) (ts rest : List Token) (t : Tree) → Sized (ALevel 0) ts t rest → Complete (ALevel 0) ts t rest
    → Complete (ALevel 0) (tokens.Prefix op ∷ ts) (One op t) rest
prefix_complete op ts rest t k c = λ f st nu room.
    operand f (tokens.Prefix op ∷ ts) st nu (omega (arith, room.turns))
    ∙ one_step (f - 1) ts rest t st nu (steps.Prefix op) k (omega (arith, room.steps))
    (c (f - 1) st nu (record {
      turns = omega (arith, room.turns);
      steps = omega (arith, room.steps);
      numbers = omega
          (arith, room.numbers);
    }))

one_complete : (token : Token) (fn : ListFunction) (ts rest : List Token) (t : Tree) → IsFunction token fn → is_open ts ≡ false
    → Sized (ALevel 0) ts t rest → Complete (ALevel 0) ts t rest → Complete (ALevel 0) (token ∷ ts) (First fn t) rest
unfolding function_with
one_complete token fn ts rest t (named fn') shut k c = λ f st nu room.
    operand f (tokens.Function fn' ∷ ts) st nu (omega (arith, room.turns))
    ∙ one_alone (parse (f - 1)) fn' ts (state ts st nu) shut (omega (arith, k.shorter))
    ∙ one_step (f - 1) ts rest t st nu (steps.First fn') k (omega (arith, room.steps))
    (c (f - 1) st nu (record {
      turns = omega (arith, room.turns);
      steps = omega (arith, room.steps);
      numbers = omega
          (arith, room.numbers);
    }))
one_complete token fn ts rest t (left_out word) shut k c = λ f st nu room.
    operand f (tokens.LeftOutFunction word ∷ ts) st nu (omega (arith, room.turns))
    ∙ one_alone (parse (f - 1)) Maximum ts (state ts st nu) shut (omega (arith, k.shorter))
    ∙ one_step (f - 1) ts rest t st nu (steps.First Maximum) k (omega (arith, room.steps))
    (c (f - 1) st nu (record {
      turns = omega (arith, room.turns);
      steps = omega (arith, room.steps);
      numbers = omega
          (arith, room.numbers);
    }))

-- the operands in brackets
list_closed : (fn : ListFunction) (f : ℕ) (ts rest : List Token) (t : Tree) (st : List Step) (nu : List Float)
    → Complete (AList fn) ts t (tokens.Close ∷ rest) → Room 8 1 f ts st nu
    → (parse f (parts.Arguments fn) (state ts st nu) >>= closed) ≡ Some (read_to t rest st nu)
unfolding closed more_arguments_with
list_closed fn f ts rest t st nu c room =
    let p = c f st nu tt room in
    bind_ok (parse f (parts.Arguments fn) (state ts st nu)) closed (read_to t (tokens.Close ∷ rest) st nu)
    (p.same ∙ turn p.turns (parts.MoreArguments fn) (read_to t (tokens.Close ∷ rest) st nu) (omega (arith, p.enough)))

list_complete : (token : Token) (fn : ListFunction) (ts rest : List Token) (t : Tree) → IsFunction token fn
    → Complete (AList fn) ts t (tokens.Close ∷ rest) → Complete (ALevel 0) (token ∷ tokens.Open ∷ ts) t rest
unfolding function_with
list_complete token fn ts rest t (named fn') c = λ f st nu room.
    operand f (tokens.Function fn' ∷ tokens.Open ∷ ts) st nu (omega (arith, room.turns))
    ∙ list_closed fn' (f - 1) ts rest t st nu c (record {
      turns = omega (arith, room.turns);
      steps = omega
          (arith, room.steps);
      numbers = omega (arith, room.numbers);
    })
list_complete token fn ts rest t (left_out word) c = λ f st nu room.
    operand f (tokens.LeftOutFunction word ∷ tokens.Open ∷ ts) st nu (omega (arith, room.turns))
    ∙ list_closed Maximum (f - 1) ts rest t st nu c (record {
      turns = omega (arith, room.turns);
      steps = omega
          (arith, room.steps);
      numbers = omega (arith, room.numbers);
    })

tighter_complete : (level : ℕ) (ts rest : List Token) (t : Tree) → Sized (ALevel level) ts t rest → Complete (ALevel level) ts t rest
    → Complete (ALevel (suc level)) ts t rest
tighter_complete level ts rest t k c = λ f st nu loose room. record {
  turns = f - 1;
  enough = omega (arith, room.turns, k.shorter);
  same = turn f (parts.Level (suc level)) (state ts st nu) (omega (arith, room.turns))
      ∙ level_suc (parse (f - 1)) level (state ts st nu)
      ∙ bind_ok (parse (f - 1) (parts.Level level) (state ts st nu)) (λ a. parse (f - 1) (parts.Tail (suc level)) a)
      (read_to t rest st nu)
      (whole_level level ts t rest c (f - 1) st nu loose (record {
        turns = omega (arith, room.turns);
        steps = omega
            (arith, room.steps);
        numbers = omega (arith, room.numbers);
      }));
}

-- the second operand of an operator, and its step
second_step : (f level : ℕ) (ts rest : List Token) (s t : Tree) (st : List Step) (nu : List Float) (step : Step) (tail : Part)
    → Sized (ALevel level) ts t rest → Complete (ALevel level) ts t rest → Loose level rest
    → Room level 1 f ts (st ++ steps_of s) (nu ++ numbers_of s)
    → (parse f (parts.Level level) (state ts (st ++ steps_of s) (nu ++ numbers_of s)) >>= (λ a. emitted step a >>= (λ b. parse f tail b)))
    ≡ parse f tail (state rest (st ++ (steps_of s ++ (steps_of t ++ step ∷ []))) (nu ++ (numbers_of s ++ numbers_of t)))
second_step f level ts rest s t st nu step tail k c loose room =
    bind_ok (parse f (parts.Level level) (state ts (st ++ steps_of s) (nu ++ numbers_of s))) (λ a. emitted step a >>=
    (λ b. parse f tail b)) (read_to t rest (st ++ steps_of s) (nu ++ numbers_of s))
    (whole_level level ts t rest c f (st ++ steps_of s) (nu ++ numbers_of s) loose (record {
      turns = room.turns;
      steps = omega
          (arith, room.steps);
      numbers = room.numbers;
    }))
    ∙ bind_ok (emitted step (read_to t rest (st ++ steps_of s) (nu ++ numbers_of s))) (λ b. parse f tail b) (state rest
    (((st ++ steps_of s) ++ steps_of t) ++ step ∷ []) ((nu ++ numbers_of s) ++ numbers_of t))
    (emits step rest ((st ++ steps_of s) ++ steps_of t) ((nu ++ numbers_of s) ++ numbers_of t) (omega (
      arith,
      length-append
          (st ++ steps_of s) (steps_of t),
      k.steps,
      k.shorter,
      room.steps,
    )))
    ∙ ap (λ x. parse f tail x) (same_state rest _ _ _ _ (behind_two st (steps_of s) (steps_of t) step) (append_assoc nu (numbers_of s)
    (numbers_of t)))

two_complete : (level : ℕ) (op : Infix) (ts us rest : List Token) (s t : Tree) → level_of op ≡ suc level
    → Sized (ALevel (suc level)) ts s (tokens.Infix op ∷ us) → Sized (ALevel level) us t rest
    → Complete (ALevel (suc level)) ts s (tokens.Infix op ∷ us) → Complete (ALevel level) us t rest
    → Complete (ALevel (suc level)) ts (Two op s t) rest
unfolding tail_with operator_with
two_complete level op ts us rest s t le k j c d = λ f st nu loose room.
    let p = c f st nu (omega (arith, le)) room in
    let r : Reader = parse (p.turns - 1) in
    let here : State = read_to s (tokens.Infix op ∷ us) st nu in
    let one_less : suc level - 1 ≡ level = omega arith in
    let most : level_of op ≤ 6 = level_most op in
    record {
      turns = p.turns - 1;
      enough = omega (arith, p.enough, j.shorter);
      same = p.same ∙ turn p.turns (parts.Tail (suc level)) here (omega (arith, p.enough))
          ∙ if_true (level_of op == suc level) (operator_with r (suc level) op us here) (Some here) (eq-eqb (level_of op) (suc level) le)
          ∙ ap (λ n. r (parts.Level n) (state us (st ++ steps_of s) (nu ++ numbers_of s)) >>= (λ a. emitted (steps.Infix op) a >>=
          (λ b. r (parts.Tail (suc level)) b))) one_less
          ∙ second_step (p.turns - 1) level us rest s t st nu (steps.Infix op) (parts.Tail (suc level)) j d loose
          (record {
            turns = omega (arith, p.enough, most, le);
            steps = omega (arith, room.steps, k.steps, length-append st (steps_of s));
            numbers = omega (arith, room.numbers, k.numbers, length-append nu (numbers_of s));
          });
    }

power_complete : (raise : LeftOut) (e : Exponent) (ts us rest : List Token) (t : Tree) → exponent_of us ≡ Some (e, rest)
    → Sized (ALevel 1) ts t (tokens.Power raise ∷ us) → Complete (ALevel 1) ts t (tokens.Power raise ∷ us)
    → Complete (ALevel 1) ts (Power t e) rest
unfolding tail_with power_with
power_complete raise e ts us rest t is k c = λ f st nu loose room.
    let p = c f st nu refl room in
    let r : Reader = parse (p.turns - 1) in
    let here : State = read_to t (tokens.Power raise ∷ us) st nu in
    record {
      turns = p.turns - 1;
      enough = omega (arith, p.enough, exponent_short us rest e is);
      same = p.same ∙ turn p.turns (parts.Tail 1) here (omega (arith, p.enough))
          ∙ ap (λ o. power_from r o us here) is
          ∙ bind_ok (emitted (steps.Power e) (read_to t rest st nu)) (λ a. r (parts.Tail 1) a) (state rest
          ((st ++ steps_of t) ++ steps.Power e ∷ []) (nu ++ numbers_of t))
          (emits (steps.Power e) rest (st ++ steps_of t) (nu ++ numbers_of t) (omega (
            arith,
            length-append st
                (steps_of t),
            k.steps,
            room.steps,
          )))
          ∙ ap (λ x. r (parts.Tail 1) (state rest x (nu ++ numbers_of t))) (behind_one st (steps_of t) (steps.Power e));
    }

other_power_complete : (raise : LeftOut) (ts us rest : List Token) (s t : Tree) → exponent_of us ≡ None
    → Sized (ALevel 1) ts s (tokens.Power raise ∷ us) → Sized (ALevel 0) us t rest
    → Complete (ALevel 1) ts s (tokens.Power raise ∷ us) → Complete (ALevel 0) us t rest → Complete (ALevel 1) ts (Two Multiply s t) rest
unfolding tail_with power_with
other_power_complete raise ts us rest s t is k j c d = λ f st nu loose room.
    let p = c f st nu refl room in
    let r : Reader = parse (p.turns - 1) in
    let here : State = read_to s (tokens.Power raise ∷ us) st nu in
    record {
      turns = p.turns - 1;
      enough = omega (arith, p.enough, j.shorter);
      same = p.same ∙ turn p.turns (parts.Tail 1) here (omega (arith, p.enough))
          ∙ ap (λ o. power_from r o us here) is
          ∙ second_step (p.turns - 1) 0 us rest s t st nu (steps.Infix Multiply) (parts.Tail 1) j d loose
          (record {
            turns = omega (arith, p.enough);
            steps = omega (arith, room.steps, k.steps, length-append st (steps_of s));
            numbers = omega (arith, room.numbers, k.numbers, length-append nu (numbers_of s));
          });
    }

whole_complete : (ts rest : List Token) (t : Tree) → Complete (ALevel 6) ts t rest → Complete AValue ts t rest
unfolding value_with choice_with
whole_complete ts rest t c = λ f st nu ends room.
    turn f parts.Value (state ts st nu) (omega (arith, room.turns))
    ∙ bind_ok (parse (f - 1) (parts.Level 6) (state ts st nu)) (λ a. choice_with (parse (f - 1)) a) (read_to t rest st nu)
    (whole_level 6 ts t rest c (f - 1) st nu (ends_loose 6 rest ends) (record {
      turns = omega
          (arith, room.turns);
      steps = room.steps;
      numbers = room.numbers;
    }))
    ∙ choice_stops (parse (f - 1)) rest (read_to t rest st nu) ends

choice_complete : (ts us vs rest : List Token) (q s t : Tree) → Sized (ALevel 6) ts q (tokens.Question ∷ us)
    → Sized AValue us s (tokens.Colon ∷ vs) → Sized AValue vs t rest
    → Complete (ALevel 6) ts q (tokens.Question ∷ us) → Complete AValue us s (tokens.Colon ∷ vs) → Complete AValue vs t rest
    → Complete AValue ts (Choice q s t) rest
unfolding value_with choice_with second_with
choice_complete ts us vs rest q s t k j i c d e = λ f st nu ends room.
    let r : Reader = parse (f - 1) in
    let st1 : List Step = st ++ steps_of q in
    let nu1 : List Float = nu ++ numbers_of q in
    let st2 : List Step = st1 ++ steps_of s in
    let nu2 : List Float = nu1 ++ numbers_of s in
    turn f parts.Value (state ts st nu) (omega (arith, room.turns))
    ∙ bind_ok (r (parts.Level 6) (state ts st nu)) (λ a. choice_with r a) (read_to q (tokens.Question ∷ us) st nu)
    (whole_level 6 ts q (tokens.Question ∷ us) c (f - 1) st nu tt (record {
      turns = omega
          (arith, room.turns);
      steps = room.steps;
      numbers = room.numbers;
    }))
    ∙ bind_ok (r parts.Value (state us st1 nu1)) (λ a. second_with r a) (read_to s (tokens.Colon ∷ vs) st1 nu1)
    (d (f - 1) st1 nu1 tt (record {
      turns = omega (arith, room.turns, k.shorter);
      steps = omega (arith, room.steps, k.steps, length-append st (steps_of q));
      numbers = omega (arith, room.numbers, k.numbers, length-append nu (numbers_of q));
    }))
    ∙ bind_ok (r parts.Value (state vs st2 nu2)) (λ a. emitted steps.Choose a) (read_to t rest st2 nu2)
    (e (f - 1) st2 nu2 ends (record {
      turns = omega (arith, room.turns, k.shorter, j.shorter);
      steps = omega (arith, room.steps, k.steps, j.steps, length-append st (steps_of q), length-append st1 (steps_of s));
      numbers = omega (arith, room.numbers, k.numbers, j.numbers, length-append nu (numbers_of q), length-append nu1 (numbers_of s));
    }))
    ∙ emits steps.Choose rest (st2 ++ steps_of t) (nu2 ++ numbers_of t)
    (omega (
      arith,
      room.steps,
      k.steps,
      j.steps,
      i.steps,
      length-append st (steps_of q),
      length-append st1
          (steps_of s),
      length-append st2 (steps_of t),
    ))
    ∙ ap Some (same_state rest _ _ _ _ (behind_three st (steps_of q) (steps_of s) (steps_of t) steps.Choose) (simp append_assoc))

first_complete : (fn : ListFunction) (ts rest : List Token) (t : Tree) → Sized AValue ts t rest → Complete AValue ts t rest
    → Complete (AList fn) ts (First fn t) rest
unfolding arguments_with
first_complete fn ts rest t k c = λ f st nu ends room.
    let r : Reader = parse (f - 1) in
    record {
      turns = f - 1;
      enough = omega (arith, room.turns, k.shorter);
      same = turn f (parts.Arguments fn) (state ts st nu) (omega (arith, room.turns))
          ∙ bind_ok (r parts.Value (state ts st nu)) (λ a. emitted (steps.First fn) a >>= (λ b. r (parts.MoreArguments fn) b))
          (read_to t rest st nu)
          (c (f - 1) st nu ends (record { turns = omega (arith, room.turns); steps = omega (arith, room.steps); numbers = room.numbers }))
          ∙ bind_ok (emitted (steps.First fn) (read_to t rest st nu)) (λ b. r (parts.MoreArguments fn) b) (state rest
          ((st ++ steps_of t) ++ steps.First fn ∷ []) (nu ++ numbers_of t))
          (emits (steps.First fn) rest (st ++ steps_of t) (nu ++ numbers_of t) (omega (
            arith,
            length-append st
                (steps_of t),
            k.steps,
            room.steps,
          )))
          ∙ ap (λ x. r (parts.MoreArguments fn) (state rest x (nu ++ numbers_of t))) (behind_one st (steps_of t) (steps.First fn));
    }

next_complete : (fn : ListFunction) (ts us rest : List Token) (s t : Tree) → Sized (AList fn) ts s (tokens.Comma ∷ us)
    → Sized AValue us t rest
    → Complete (AList fn) ts s (tokens.Comma ∷ us) → Complete AValue us t rest → Complete (AList fn) ts (More fn s t) rest
unfolding more_arguments_with
next_complete fn ts us rest s t k j c d = λ f st nu ends room.
    let p = c f st nu tt room in
    let r : Reader = parse (p.turns - 1) in
    let st1 : List Step = st ++ steps_of s in
    let nu1 : List Float = nu ++ numbers_of s in
    record {
      turns = p.turns - 1;
      enough = omega (arith, p.enough, j.shorter);
      same = p.same ∙ turn p.turns (parts.MoreArguments fn) (read_to s (tokens.Comma ∷ us) st nu) (omega (arith, p.enough))
          ∙ bind_ok (r parts.Value (state us st1 nu1)) (λ a. emitted (steps.Next fn) a >>= (λ b. r (parts.MoreArguments fn) b))
          (read_to t rest st1 nu1)
          (d (p.turns - 1) st1 nu1 ends (record {
            turns = omega (arith, p.enough);
            steps = omega (arith, room.steps, k.steps, length-append st (steps_of s));
            numbers = omega (arith, room.numbers, k.numbers, length-append nu (numbers_of s));
          }))
          ∙ bind_ok (emitted (steps.Next fn) (read_to t rest st1 nu1)) (λ b. r (parts.MoreArguments fn) b) (state rest
          ((st1 ++ steps_of t) ++ steps.Next fn ∷ []) (nu1 ++ numbers_of t))
          (emits (steps.Next fn) rest (st1 ++ steps_of t) (nu1 ++ numbers_of t) (omega (
            arith,
            length-append st
                (steps_of s),
            length-append st1 (steps_of t),
            k.steps,
            j.steps,
            room.steps,
          )))
          ∙ ap (λ x. r (parts.MoreArguments fn) x) (same_state rest _ _ _ _ (behind_two st (steps_of s) (steps_of t) (steps.Next fn))
          (append_assoc nu (numbers_of s) (numbers_of t)));
    }

pub complete : (p : Phrase) (ts : List Token) (t : Tree) (rest : List Token) → Reads p ts t rest → Complete p ts t rest
complete p ts t rest (number x rest') = λ f st nu room.
    operand f (tokens.Number x ∷ rest') st nu (omega (arith, room.turns))
    ∙ numbers_fit x rest' st nu (omega (arith, room.steps)) (omega (arith, room.numbers))
complete p ts t rest (argument place rest') = λ f st nu room.
    operand f (tokens.Argument place ∷ rest') st nu (omega (arith, room.turns))
    ∙ emits (steps.Argument place) rest' st nu (omega (arith, room.steps))
    ∙ ap (λ x. Some (state rest' (st ++ steps.Argument place ∷ []) x)) (sym (append-nil nu))
complete p ts t rest (before rest') = λ f st nu room.
    operand f (tokens.Value ∷ rest') st nu (omega (arith, room.turns)) ∙ emits steps.Value rest' st nu (omega (arith, room.steps))
    ∙ ap (λ x. Some (state rest' (st ++ steps.Value ∷ []) x)) (sym (append-nil nu))
complete p ts t rest (random rest') = λ f st nu room.
    operand f (tokens.Random ∷ rest') st nu (omega (arith, room.turns)) ∙ emits steps.Value rest' st nu (omega (arith, room.steps))
    ∙ ap (λ x. Some (state rest' (st ++ steps.Value ∷ []) x)) (sym (append-nil nu))
complete p ts t rest (brackets ts' rest' t' d) = brackets_complete ts' rest' t' (complete AValue ts' t' (tokens.Close ∷ rest') d)
complete p ts t rest (prefix op ts' rest' t' d) = prefix_complete op ts' rest' t' (sized (ALevel 0) ts' t' rest' d) (complete
    (ALevel 0) ts' t' rest' d)
complete p ts t rest (of_one token fn ts' rest' t' is shut d) = one_complete token fn ts' rest' t' is shut (sized
    (ALevel 0) ts' t' rest' d) (complete (ALevel 0) ts' t' rest' d)
complete p ts t rest (of_list token fn ts' rest' t' is d) = list_complete token fn ts' rest' t' is (complete (AList fn) ts' t'
    (tokens.Close ∷ rest') d)
complete p ts t rest (tighter level ts' rest' t' d) = tighter_complete level ts' rest' t' (sized (ALevel level) ts' t' rest' d)
    (complete (ALevel level) ts' t' rest' d)
complete p ts t rest (two level op ts' us rest' s' t' le d e) =
    two_complete level op ts' us rest' s' t' le (sized (ALevel (suc level)) ts' s' (tokens.Infix op ∷ us) d) (sized
    (ALevel level) us t' rest' e)
    (complete (ALevel (suc level)) ts' s' (tokens.Infix op ∷ us) d) (complete (ALevel level) us t' rest' e)
complete p ts t rest (power raise e ts' us rest' t' d is) =
    power_complete raise e ts' us rest' t' is (sized (ALevel 1) ts' t' (tokens.Power raise ∷ us) d) (complete (ALevel 1) ts' t'
    (tokens.Power raise ∷ us) d)
complete p ts t rest (other_power raise ts' us rest' s' t' d is e) =
    other_power_complete raise ts' us rest' s' t' is (sized (ALevel 1) ts' s' (tokens.Power raise ∷ us) d) (sized
    (ALevel 0) us t' rest' e)
    (complete (ALevel 1) ts' s' (tokens.Power raise ∷ us) d) (complete (ALevel 0) us t' rest' e)
complete p ts t rest (whole ts' rest' t' d) = whole_complete ts' rest' t' (complete (ALevel 6) ts' t' rest' d)
complete p ts t rest (choice ts' us vs rest' q s' t' d e f) =
    choice_complete ts' us vs rest' q s' t' (sized (ALevel 6) ts' q (tokens.Question ∷ us) d) (sized AValue us s' (tokens.Colon ∷ vs) e)
    (sized AValue vs t' rest' f)
    (complete (ALevel 6) ts' q (tokens.Question ∷ us) d) (complete AValue us s' (tokens.Colon ∷ vs) e) (complete AValue vs t' rest' f)
complete p ts t rest (first fn ts' rest' t' d) = first_complete fn ts' rest' t' (sized AValue ts' t' rest' d)
    (complete AValue ts' t' rest' d)
complete p ts t rest (next fn ts' us rest' s' t' d e) =
    next_complete fn ts' us rest' s' t' (sized (AList fn) ts' s' (tokens.Comma ∷ us) d) (sized AValue us t' rest' e)
    (complete (AList fn) ts' s' (tokens.Comma ∷ us) d) (complete AValue us t' rest' e)
