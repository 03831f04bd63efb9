-- The turns of a run.
use Rattle.std.proofs.Common.{◌≡◌, ℕ, suc, ◌+◌, ◌-◌, ◌<◌, ◌≤◌, List, [], ◌∷◌, length, take, drop, ap, arith, ◌∙◌, sym, get_or, add-one, subst, IsTrue, Bool}
use Rattle.std.proofs.Math.Seq.{drop-cons}
use Rattle.std.proofs.lemmas.List.{get_or-take, length-take}
use Rattle.std.proofs.lemmas.List.{drop_all, drop-drop, take_all, length-drop}
use Rattle.std.proofs.lemmas.Bool.{and_parts}
use Rattle.std.specs.Float.Ieee.{Float}
use Rattle.std.specs.Prelude.{◌&&◌}
use Rattle.ioc_calc.specs.declared.program.Step.{Step}
use Rattle.ioc_calc.specs.Stack.{top}
use Rattle.ioc_calc.specs.Tree.{Statement, value_of, arguments_after}
use Rattle.ioc_calc.proofs.Runs.{machine, program_runs}
use Rattle.ioc_calc.specs.Machine.{IsProgramOf, Machine, can_run, can_step, depth_after, unused_after, stepped, ran}

-- the steps that are left begin with this one
pub drop-step : (xs : List Step) (n i : ℕ) (d : Step) → i < n → n ≤ length xs
    → drop i (take n xs) ≡ get_or xs i d ∷ drop (i + 1) (take n xs)
drop-step xs n i d lt le =
    let within : i < length (take n xs) = omega (arith, length-take n xs) in
    drop-cons (take n xs) i d within
    ∙ ap (λ s. s ∷ drop (suc i) (take n xs)) (get_or-take n xs i d lt)
    ∙ ap (λ k. get_or xs i d ∷ drop k (take n xs)) (sym (add-one i))

both_right : (a b : Bool) → IsTrue (a && b) → IsTrue b
both_right a b h = (and_parts a b h).1

pub turn_fits : (xs : List Step) (n i : ℕ) (d : Step) (depth unused depth' unused' : ℕ) → i < n → n ≤ length xs
    → IsTrue (can_run (drop i (take n xs)) depth unused) → depth' ≡ depth_after (get_or xs i d) depth
    → unused' ≡ unused_after (get_or xs i d) unused → IsTrue (can_run (drop (i + 1) (take n xs)) depth' unused')
turn_fits xs n i d depth unused depth' unused' lt le h de ue =
    let now : IsTrue (can_run (get_or xs i d ∷ drop (i + 1) (take n xs)) depth unused) = subst (λ s. IsTrue (can_run s depth unused))
    (drop-step xs n i d lt le) h in
    let then : IsTrue (can_run (drop (i + 1) (take n xs)) (depth_after (get_or xs i d) depth) (unused_after
    (get_or xs i d) unused)) = both_right (can_step (get_or xs i d) depth unused) _ now in
    subst (λ k. IsTrue (can_run (drop (i + 1) (take n xs)) k unused')) (sym de) (subst (λ k. IsTrue (can_run (drop (i + 1) (take n xs))
    (depth_after (get_or xs i d) depth) k)) (sym ue) then)

pub turn_same : (v : Float) (xs : List Step) (n i : ℕ) (d : Step) (m m' : Machine) → i < n → n ≤ length xs
    → m' ≡ stepped v (get_or xs i d) m → ran v (drop (i + 1) (take n xs)) m' ≡ ran v (drop i (take n xs)) m
turn_same v xs n i d m m' lt le e =
    ap (ran v (drop (i + 1) (take n xs))) e ∙ sym (ap (λ s. ran v s m) (drop-step xs n i d lt le))

-- where no steps are left, the program has run
pub ended : (v : Float) (xs : List Step) (n i : ℕ) (numbers : List Float) (ss : List Statement) (args : List Float) (m : Machine)
    → n ≤ i → n ≤ length xs → IsProgramOf (record { steps = take n xs; numbers = numbers }) ss
    → ran v (drop i (take n xs)) m ≡ ran v (take n xs) (machine args numbers [])
    → (top m.stack ≡ value_of ss v args) × (m.arguments ≡ arguments_after ss v args)
ended v xs n i numbers ss args m le within p same =
    let short : length (take n xs) ≤ i = omega (arith, length-take n xs) in
    let whole : m ≡ machine (arguments_after ss v args) p.unused (value_of ss v args ∷ []) = sym (ap (λ s. ran v s m) (drop_all i
    (take n xs) short)) ∙ same ∙ program_runs v (record { steps = take n xs; numbers = numbers }) ss args p in
    (ap (λ (x : Machine). top x.stack) whole, ap (λ (x : Machine). x.arguments) whole)

-- one element less
pub drop_one : (i : ℕ) (xs : List ℕ) → drop 1 (drop i xs) ≡ drop (i + 1) xs
drop_one i xs = drop-drop 1 i xs

-- what a slice from i on holds
pub from_on : (i : ℕ) (xs : List ℕ) → take (length xs - i) (drop i xs) ≡ drop i xs
from_on i xs = take_all (length xs - i) (drop i xs) (omega (arith, length-drop i xs))
