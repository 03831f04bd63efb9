-- A run of the steps of a tree puts what the tree means on the stack.
use Rattle.std.proofs.Common.{◌≡◌, List, [], ◌∷◌, ◌++◌, refl, ap, ◌∙◌, append_assoc, arith}
use Rattle.std.specs.Float.Ieee.{Float}
use Rattle.std.specs.Prelude.{slice_set}
use Rattle.ioc_calc.specs.declared.program.Step.{Step}
use Rattle.ioc_calc.specs.declared.program.Step.TheVariants as steps
use Rattle.ioc_calc.specs.Tree.{Tree, Constant, Argument, Before, One, First, More, Two, Power, Choice, Statement, Value, Store, meaning, arguments_after, value_of, values_in}
use Rattle.ioc_calc.specs.Machine.{steps_of, numbers_of, all_steps, all_numbers, Code, IsProgramOf, Machine, stepped, ran}

-- a machine of these parts
abbrev pub machine : List Float → List Float → List Float → Machine
machine arguments numbers stack = record { arguments = arguments; numbers = numbers; stack = stack }

-- steps one after the other
pub ran-append : (v : Float) (a b : List Step) (m : Machine) → ran v (a ++ b) m ≡ ran v b (ran v a m)
ran-append v [] b m = refl
ran-append v (s ∷ a) b m = ran-append v a b (stepped v s m)

-- the steps of a tree
pub runs : (v : Float) (t : Tree) (args more stack : List Float)
    → ran v (steps_of t) (machine args (numbers_of t ++ more) stack) ≡ machine args more (meaning args v t ∷ stack)
runs v (Constant x) args more stack = refl
runs v (Argument place) args more stack = refl
runs v Before args more stack = refl
runs v (One op t) args more stack =
    ran-append v (steps_of t) (steps.Prefix op ∷ []) (machine args (numbers_of t ++ more) stack)
    ∙ ap (ran v (steps.Prefix op ∷ [])) (runs v t args more stack)
runs v (First f t) args more stack =
    ran-append v (steps_of t) (steps.First f ∷ []) (machine args (numbers_of t ++ more) stack)
    ∙ ap (ran v (steps.First f ∷ [])) (runs v t args more stack)
runs v (Power t e) args more stack =
    ran-append v (steps_of t) (steps.Power e ∷ []) (machine args (numbers_of t ++ more) stack)
    ∙ ap (ran v (steps.Power e ∷ [])) (runs v t args more stack)
runs v (More f s t) args more stack =
    ap (λ n. ran v (steps_of s ++ (steps_of t ++ steps.Next f ∷ [])) (machine args n stack)) (append_assoc (numbers_of s)
    (numbers_of t) more)
    ∙ ran-append v (steps_of s) (steps_of t ++ steps.Next f ∷ []) (machine args (numbers_of s ++ (numbers_of t ++ more)) stack)
    ∙ ap (ran v (steps_of t ++ steps.Next f ∷ [])) (runs v s args (numbers_of t ++ more) stack)
    ∙ ran-append v (steps_of t) (steps.Next f ∷ []) (machine args (numbers_of t ++ more) (meaning args v s ∷ stack))
    ∙ ap (ran v (steps.Next f ∷ [])) (runs v t args more (meaning args v s ∷ stack))
runs v (Two op s t) args more stack =
    ap (λ n. ran v (steps_of s ++ (steps_of t ++ steps.Infix op ∷ [])) (machine args n stack)) (append_assoc (numbers_of s)
    (numbers_of t) more)
    ∙ ran-append v (steps_of s) (steps_of t ++ steps.Infix op ∷ []) (machine args (numbers_of s ++ (numbers_of t ++ more)) stack)
    ∙ ap (ran v (steps_of t ++ steps.Infix op ∷ [])) (runs v s args (numbers_of t ++ more) stack)
    ∙ ran-append v (steps_of t) (steps.Infix op ∷ []) (machine args (numbers_of t ++ more) (meaning args v s ∷ stack))
    ∙ ap (ran v (steps.Infix op ∷ [])) (runs v t args more (meaning args v s ∷ stack))
runs v (Choice c s t) args more stack =
    ap (λ n. ran v (steps_of c ++ (steps_of s ++ (steps_of t ++ steps.Choose ∷ []))) (machine args n stack))
    (append_assoc (numbers_of c) (numbers_of s ++ numbers_of t) more
    ∙ ap (λ n. numbers_of c ++ n) (append_assoc (numbers_of s) (numbers_of t) more))
    ∙ ran-append v (steps_of c) (steps_of s ++ (steps_of t ++ steps.Choose ∷ [])) (machine args (numbers_of c ++ (numbers_of s ++
    (numbers_of t ++ more))) stack)
    ∙ ap (ran v (steps_of s ++ (steps_of t ++ steps.Choose ∷ []))) (runs v c args (numbers_of s ++ (numbers_of t ++ more)) stack)
    ∙ ran-append v (steps_of s) (steps_of t ++ steps.Choose ∷ []) (machine args (numbers_of s ++ (numbers_of t ++ more))
    (meaning args v c ∷ stack))
    ∙ ap (ran v (steps_of t ++ steps.Choose ∷ [])) (runs v s args (numbers_of t ++ more) (meaning args v c ∷ stack))
    ∙ ran-append v (steps_of t) (steps.Choose ∷ []) (machine args (numbers_of t ++ more) (meaning args v s ∷ meaning args v c ∷ stack))
    ∙ ap (ran v (steps.Choose ∷ [])) (runs v t args more (meaning args v s ∷ meaning args v c ∷ stack))

-- statements of which none is a value leave the stack as it is
pub runs_all : (v : Float) (ss : List Statement) (args more stack : List Float) → values_in ss ≡ 0
    → ran v (all_steps ss) (machine args (all_numbers ss ++ more) stack) ≡ machine (arguments_after ss v args) more stack
runs_all v [] args more stack h = refl
runs_all v (Value t ∷ ss) args more stack h = absurd (omega arith)
runs_all v (Store p t ∷ ss) args more stack h =
    ap (λ n. ran v (steps_of t ++ (steps.Store p ∷ all_steps ss)) (machine args n stack)) (append_assoc (numbers_of t)
    (all_numbers ss) more)
    ∙ ran-append v (steps_of t) (steps.Store p ∷ all_steps ss) (machine args (numbers_of t ++ (all_numbers ss ++ more)) stack)
    ∙ ap (ran v (steps.Store p ∷ all_steps ss)) (runs v t args (all_numbers ss ++ more) stack)
    ∙ runs_all v ss (slice_set args p (meaning args v t)) more stack h

-- statements of which one is a value put it on the stack
pub runs_one : (v : Float) (ss : List Statement) (args more stack : List Float) → values_in ss ≡ 1
    → ran v (all_steps ss) (machine args (all_numbers ss ++ more) stack) ≡ machine (arguments_after ss v args) more
    (value_of ss v args ∷ stack)
runs_one v [] args more stack h = absurd (omega arith)
runs_one v (Value t ∷ ss) args more stack h =
    ap (λ n. ran v (steps_of t ++ all_steps ss) (machine args n stack)) (append_assoc (numbers_of t) (all_numbers ss) more)
    ∙ ran-append v (steps_of t) (all_steps ss) (machine args (numbers_of t ++ (all_numbers ss ++ more)) stack)
    ∙ ap (ran v (all_steps ss)) (runs v t args (all_numbers ss ++ more) stack)
    ∙ runs_all v ss args more (meaning args v t ∷ stack) (omega arith)
runs_one v (Store p t ∷ ss) args more stack h =
    ap (λ n. ran v (steps_of t ++ (steps.Store p ∷ all_steps ss)) (machine args n stack)) (append_assoc (numbers_of t)
    (all_numbers ss) more)
    ∙ ran-append v (steps_of t) (steps.Store p ∷ all_steps ss) (machine args (numbers_of t ++ (all_numbers ss ++ more)) stack)
    ∙ ap (ran v (steps.Store p ∷ all_steps ss)) (runs v t args (all_numbers ss ++ more) stack)
    ∙ runs_one v ss (slice_set args p (meaning args v t)) more stack h

-- the run of a program
pub program_runs : (v : Float) (code : Code) (ss : List Statement) (args : List Float) (p : IsProgramOf code ss)
    → ran v code.steps (machine args code.numbers []) ≡ machine (arguments_after ss v args) p.unused (value_of ss v args ∷ [])
program_runs v code ss args p =
    ap (λ s. ran v s (machine args code.numbers [])) p.steps
    ∙ ap (λ n. ran v (all_steps ss) (machine args n [])) p.numbers
    ∙ runs_one v ss args p.unused [] p.one_value
