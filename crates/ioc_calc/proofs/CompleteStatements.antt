-- The parser reads all statements of the grammar, and their program can run.
use Rattle.std.proofs.Common.{◌≡◌, ℕ, zero, suc, ◌+◌, ◌-◌, ◌*◌, ◌<◌, ◌≤◌, ◌⊎◌, List, [], ◌∷◌, ◌++◌, length, length-append, refl, ap, arith, ◌∙◌, sym, subst, append_assoc, append-nil, inl, inr, true, false, Bool}
use Rattle.std.proofs.lemmas.Bool.{lt-ltb, eq-eqb}
use Rattle.std.specs.Prelude.{Option, Some, None, ◌&&◌, ◌||◌}
use Rattle.std.specs.Float.Ieee.{Float}
use Rattle.ioc_calc.specs.declared.program.Step.{Step}
use Rattle.ioc_calc.specs.declared.program.Step.TheVariants as steps
use Rattle.ioc_calc.specs.declared.token.Token.{Token}
use Rattle.ioc_calc.specs.declared.token.Token.TheVariants as tokens
use Rattle.ioc_calc.specs.declared.parser.Part.TheVariants as parts
use Rattle.ioc_calc.specs.declared.parser.TheConstants.{TURNS}
use Rattle.ioc_calc.specs.Tree.{Tree, Argument, Statement, Value, Store, values_in}
use Rattle.ioc_calc.specs.Machine.{steps_of, numbers_of, all_steps, all_numbers, can_run}
use Rattle.ioc_calc.specs.Grammar.{AValue, Reads, argument, tighter, whole, ReadsStatement, value, store, AreStatements, last, more}
use Rattle.ioc_calc.specs.Parsing.{State, ◌>>=◌, emitted, parse}
use Rattle.ioc_calc.specs.Statements.{stored_in, is_none, statement_with, statement_from, statements, statement_and, ended}
use Rattle.ioc_calc.proofs.Sizes.{sized}
use Rattle.ioc_calc.proofs.Fits.{leaves_fit, tree_runs, step_runs}
use Rattle.ioc_calc.proofs.Complete.{complete, Ends, Room, state, read_to, bind_ok, emits, if_true, if_false, same_state}
use Rattle.ioc_calc.proofs.Sound.{some_same}
use Rattle.ioc_calc.proofs.SoundStatements.{steps_in, numbers_in, is_value, all_steps-cons, all_numbers-cons, stored_in_some, one_unless}

-- the end, or a semicolon
abbrev pub Closes : List Token → Type 0
Closes [] = Unit {0}
Closes (tokens.Semicolon ∷ rest) = Unit {0}
Closes (_ ∷ rest) = ⊥

closes_ends : (ts : List Token) → Closes ts → Ends ts
closes_ends [] c = tt
closes_ends (tokens.Semicolon ∷ rest) c = tt
closes_ends (_ ∷ rest) c = absurd c

option_cases : {A : Type 0} (o : Option A) → (o ≡ None) ⊎ ((x : A) × (o ≡ Some x))
option_cases None = inl refl
option_cases (Some x) = inr (x, refl)

-- ---- a value doesn't begin as a store does

value_turns : (ts : List Token) → length ts ≤ 79 → 16 * length ts + 7 ≤ TURNS
value_turns ts h = omega arith

-- a value is read to one place alone
one_rest : (ts : List Token) (s t : Tree) (r q : List Token) → length ts ≤ 79 → Reads AValue ts s r → Reads AValue ts t q → Ends r
    → Ends q → r ≡ q
one_rest ts s t r q h d e dr eq =
    let room : Room 7 0 TURNS ts [] [] = record { turns = value_turns ts h; steps = omega arith; numbers = omega arith } in
    let both : Some (read_to s r [] []) ≡ Some (read_to t q [] []) = sym (complete AValue ts s r d TURNS [] [] dr room)
    ∙ complete AValue ts t q e TURNS [] [] eq room in
    ap (λ (x : State). x.rest) (some_same (read_to s r [] []) (read_to t q [] []) both)

no_assign : (rest us : List Token) → Closes rest → rest ≡ tokens.Assign ∷ us → ⊥
no_assign [] us c e = cc
no_assign (tokens.Semicolon ∷ rest) us c e = cc
no_assign (_ ∷ rest) us c e = absurd c

argument_first : (place : ℕ) (us : List Token)
    → Reads AValue (tokens.Argument place ∷ tokens.Assign ∷ us) (Argument place) (tokens.Assign ∷ us)
argument_first place us =
    let ts : List Token = tokens.Argument place ∷ tokens.Assign ∷ us in
    let rest : List Token = tokens.Assign ∷ us in
    let t : Tree = Argument place in
    whole ts rest t (tighter 5 ts rest t (tighter 4 ts rest t (tighter 3 ts rest t (tighter 2 ts rest t (tighter 1 ts rest t
    (tighter 0 ts rest t (argument place rest)))))))

value_is_none : (ts : List Token) (t : Tree) (rest : List Token) → length ts ≤ 79 → Reads AValue ts t rest → Closes rest
    → stored_in ts ≡ None
value_is_none ts t rest h d c =
    elim (option_cases (stored_in ts)) [
      | inl none ↦ none
      | inr found ↦
          let begins = stored_in_some ts found.0.0 found.0.1 found.1 in
          let moved : Reads AValue (tokens.Argument found.0.0 ∷ tokens.Assign ∷ found.0.1) t rest = subst
          (λ x. Reads AValue x t rest) begins d in
          let short : length (tokens.Argument found.0.0 ∷ tokens.Assign ∷ found.0.1) ≤ 79 = subst (λ x. length x ≤ 79) begins h in
          absurd (no_assign rest found.0.1 c (one_rest (tokens.Argument found.0.0 ∷ tokens.Assign ∷ found.0.1) t
          (Argument found.0.0) rest (tokens.Assign ∷ found.0.1) short moved (argument_first found.0.0 found.0.1)
          (closes_ends rest c) tt))
    ]

-- ---- one statement

pub record StatementSized (ts : List Token) (s : Statement) (rest : List Token) : Type 0 where
  pub steps : length (steps_in s) + length rest ≤ length ts
  pub numbers : 2 * length (numbers_in s) + length rest ≤ length ts + 1
  pub shorter : length rest < length ts

statement_sized : (ts : List Token) (s : Statement) (rest : List Token) → ReadsStatement ts s rest → StatementSized ts s rest
statement_sized ts s rest (value ts' rest' t d) =
    let k = sized AValue ts' t rest' d in
    record { steps = omega (arith, k.steps); numbers = k.numbers; shorter = k.shorter }
statement_sized ts s rest (store place ts' rest' t d) =
    let k = sized AValue ts' t rest' d in
    let l = length-append (steps_of t) (steps.Store place ∷ []) in
    record { steps = omega (arith, k.steps, l); numbers = omega (arith, k.numbers); shorter = omega (arith, k.shorter) }

kind_of : (ts : List Token) (s : Statement) (rest : List Token) → length ts ≤ 79 → ReadsStatement ts s rest → Closes rest
    → is_none (stored_in ts) ≡ is_value s
kind_of ts s rest h (value ts' rest' t d) c = ap is_none (value_is_none ts' t rest' h d c)
kind_of ts s rest h (store place ts' rest' t d) c = refl

statement_complete : (ts : List Token) (s : Statement) (rest : List Token) → ReadsStatement ts s rest → Closes rest
    → (st : List Step) (nu : List Float) → length st + length ts ≤ 79 → 2 * length nu + length ts ≤ 79
    → statement_with (state ts st nu) ≡ Some (state rest (st ++ steps_in s) (nu ++ numbers_in s))
unfolding statement_with
statement_complete ts s rest (value ts' rest' t d) c st nu h k =
    ap (λ o. statement_from o (state ts' st nu)) (value_is_none ts' t rest' (omega arith) d c)
    ∙ complete AValue ts' t rest' d TURNS st nu (closes_ends rest' c) (record {
      turns = value_turns ts'
          (omega arith);
      steps = omega arith;
      numbers = omega arith;
    })
statement_complete ts s rest (store place ts' rest' t d) c st nu h k =
    let z = sized AValue ts' t rest' d in
    bind_ok (parse TURNS parts.Value (state ts' st nu)) (λ a. emitted (steps.Store place) a) (read_to t rest' st nu)
    (complete AValue ts' t rest' d TURNS st nu (closes_ends rest' c) (record {
      turns = value_turns ts'
          (omega arith);
      steps = omega arith;
      numbers = omega arith;
    }))
    ∙ emits (steps.Store place) rest' (st ++ steps_of t) (nu ++ numbers_of t) (omega (arith, length-append st (steps_of t), z.steps))
    ∙ ap (λ x. Some (state rest' x (nu ++ numbers_of t))) (append_assoc st (steps_of t) (steps.Store place ∷ []))

-- ---- all statements

-- what is left to say once this statement is read
values_after : (s : Statement) (ss : List Statement) (has : Bool) → values_in (s ∷ ss) ≡ one_unless has
    → values_in ss ≡ one_unless (has || is_value s)
values_after (Value t) ss true h = absurd (omega arith)
values_after (Value t) ss false h = omega arith
values_after (Store p t) ss true h = h
values_after (Store p t) ss false h = h

not_both : (s : Statement) (ss : List Statement) (has : Bool) → values_in (s ∷ ss) ≡ one_unless has → (is_value s && has) ≡ false
not_both (Value t) ss true h = absurd (omega arith)
not_both (Value t) ss false h = refl
not_both (Store p t) ss true h = refl
not_both (Store p t) ss false h = refl

has_one : (has : Bool) → 0 ≡ one_unless has → has ≡ true
has_one true h = refl
has_one false h = absurd (omega arith)

-- one statement, and the end or others behind it
and_complete : (later : Bool → State
    → Option State) (ts : List Token) (s : Statement) (rest : List Token) (ss : List Statement) (has : Bool) (st : List Step)
    (nu : List Float) → ReadsStatement ts s rest → Closes rest
    → values_in (s ∷ ss) ≡ one_unless has → length st + length ts ≤ 79 → 2 * length nu + length ts ≤ 79
    → statement_and later has (is_none (stored_in ts)) (state ts st nu) ≡ ended (later (has || is_value s)) (has || is_value s)
    (state rest (st ++ steps_in s) (nu ++ numbers_in s))
unfolding statement_and
and_complete later ts s rest ss has st nu d c v h k =
    ap (λ b. statement_and later has b (state ts st nu)) (kind_of ts s rest (omega arith) d c)
    ∙ if_false (is_value s && has) None (statement_with (state ts st nu) >>= (λ a. ended (later (has || is_value s))
    (has || is_value s) a)) (not_both s ss has v)
    ∙ bind_ok (statement_with (state ts st nu)) (λ a. ended (later (has || is_value s)) (has || is_value s) a) (state rest
    (st ++ steps_in s) (nu ++ numbers_in s)) (statement_complete ts s rest d c st nu h k)

statements_suc : (n : ℕ) (has : Bool) (s : State)
    → statements (suc n) has s ≡ statement_and (statements n) has (is_none (stored_in s.rest)) s
unfolding statements
statements_suc n has s = refl

pub statements_complete : (ts : List Token) (ss : List Statement) → AreStatements ts ss
    → (n : ℕ) (has : Bool) (st : List Step) (nu : List Float) → length ts ≤ n → values_in ss ≡ one_unless has
    → length st + length ts ≤ 79 → 2 * length nu + length ts ≤ 79
    → statements n has (state ts st nu) ≡ Some (state [] (st ++ all_steps ss) (nu ++ all_numbers ss))
unfolding ended
statements_complete ts ss (last ts' s d) zero has st nu le v h k = let z = statement_sized ts' s [] d in absurd (omega (arith, z.shorter))
statements_complete ts ss (last ts' s d) (suc n) has st nu le v h k =
    statements_suc n has (state ts' st nu)
    ∙ and_complete (statements n) ts' s [] [] has st nu d tt v h k
    ∙ if_true (has || is_value s) (Some (state [] (st ++ steps_in s) (nu ++ numbers_in s))) None (has_one (has || is_value s)
    (values_after s [] has v))
    ∙ ap Some (same_state [] _ _ _ _ (ap (λ x. st ++ x) (sym (append-nil (steps_in s))
    ∙ sym (all_steps-cons s []))) (ap (λ x. nu ++ x) (sym (append-nil (numbers_in s)) ∙ sym (all_numbers-cons s []))))
statements_complete ts ss (more ts' us s ss' d e) zero has st nu le v h k = let z = statement_sized ts' s
    (tokens.Semicolon ∷ us) d in absurd (omega (arith, z.shorter))
statements_complete ts ss (more ts' us s ss' d e) (suc n) has st nu le v h k =
    let z = statement_sized ts' s (tokens.Semicolon ∷ us) d in
    statements_suc n has (state ts' st nu)
    ∙ and_complete (statements n) ts' s (tokens.Semicolon ∷ us) ss' has st nu d tt v h k
    ∙ statements_complete us ss' e n (has || is_value s) (st ++ steps_in s) (nu ++ numbers_in s) (omega (arith, z.shorter))
    (values_after s ss' has v)
    (omega (arith, z.steps, length-append st (steps_in s))) (omega (arith, z.numbers, length-append nu (numbers_in s)))
    ∙ ap Some (same_state [] _ _ _ _
    (append_assoc st (steps_in s) (all_steps ss') ∙ ap (λ x. st ++ x) (sym (all_steps-cons s ss')))
    (append_assoc nu (numbers_in s) (all_numbers ss') ∙ ap (λ x. nu ++ x) (sym (all_numbers-cons s ss'))))

-- ---- runs

-- whether a statement leaves a value
abbrev pub left_by : Statement → ℕ
left_by (Value t) = 1
left_by (Store p t) = 0

statement_runs : (ts : List Token) (s : Statement) (rest : List Token) → ReadsStatement ts s rest → (more' : List Step) (d n : ℕ)
    → 2 * d + length ts ≤ 79 → length ts + 1 ≤ 2 * n
    → can_run (steps_in s ++ more') d n ≡ can_run more' (d + left_by s) (n - length (numbers_in s))
statement_runs ts s rest (value ts' rest' t e) more' d n h k =
    let l = leaves_fit AValue ts' t rest' e in
    let z = sized AValue ts' t rest' e in
    tree_runs t more' d n (omega arith) (omega (arith, z.numbers))
statement_runs ts s rest (store place ts' rest' t e) more' d n h k =
    let l = leaves_fit AValue ts' t rest' e in
    let z = sized AValue ts' t rest' e in
    ap (λ x. can_run x d n) (append_assoc (steps_of t) (steps.Store place ∷ []) more')
    ∙ tree_runs t (steps.Store place ∷ more') d n (omega arith) (omega (arith, z.numbers))
    ∙ step_runs (steps.Store place) more' (d + 1) (n - length (numbers_of t)) (d + 0) (n - length (numbers_of t)) (lt-ltb 0 (d + 1)
    (omega arith)) (omega arith) refl

values_left : (s : Statement) (ss : List Statement) → values_in (s ∷ ss) ≡ left_by s + values_in ss
values_left (Value t) ss = omega arith
values_left (Store p t) ss = omega arith

left_room : (s : Statement) (ts us : List Token) → ReadsStatement ts s (tokens.Semicolon ∷ us) → 2 * left_by s + length us ≤ length ts
left_room s ts us (value ts' rest' t e) = let z = sized AValue ts' t rest' e in omega (arith, z.shorter)
left_room s ts us (store place ts' rest' t e) = let z = sized AValue ts' t rest' e in omega (arith, z.shorter)

pub statements_run : (ts : List Token) (ss : List Statement) → AreStatements ts ss → (d n : ℕ) → 2 * d + length ts ≤ 79
    → length ts + 1 ≤ 2 * n → d + values_in ss ≡ 1 → can_run (all_steps ss) d n ≡ true
statements_run ts ss (last ts' s e) d n h k v =
    ap (λ x. can_run x d n) (all_steps-cons s [])
    ∙ statement_runs ts' s [] e [] d n h k
    ∙ eq-eqb (d + left_by s) 1 (omega (arith, v, values_left s []))
statements_run ts ss (more ts' us s ss' e f) d n h k v =
    let z = statement_sized ts' s (tokens.Semicolon ∷ us) e in
    ap (λ x. can_run x d n) (all_steps-cons s ss')
    ∙ statement_runs ts' s (tokens.Semicolon ∷ us) e (all_steps ss') d n h k
    ∙ statements_run us ss' f (d + left_by s) (n - length (numbers_in s)) (omega (arith, left_room s ts' us e)) (omega
    (arith, z.numbers)) (omega (arith, v, values_left s ss'))
