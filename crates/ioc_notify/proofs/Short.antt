-- A table has no more lines than other lines that contain all its numbers.
use Rattle.std.proofs.Common.{◌≡◌, ◌≢◌, ℕ, ◌+◌, ◌<◌, ◌≤◌, Bool, true, false, not, cond, nat_eq, List, [], ◌∷◌, length, refl, ap, subst, arith}
use Rattle.std.specs.List.{filter}
use Rattle.std.proofs.lemmas.Bool.{eq-eqb, eqb-true}
use Rattle.std.proofs.lemmas.List.Sums.{sum_by-cons}
use Rattle.ioc_notify.specs.declared.live_numbers.Live.{Live}
use Rattle.ioc_notify.specs.Living.{holders_of}
use Rattle.ioc_notify.specs.Counts.{holders_in, lines_of, IsTable}

abbrev one_if : ℕ → Live → ℕ
one_if n l = cond (nat_eq l.number n) 1 0

-- The lines of other numbers.
abbrev others : ℕ → List Live → List Live
others n ls = filter (λ l. not (nat_eq l.number n)) ls

others_fewer : (n m : ℕ) (ls : List Live) → lines_of m (others n ls) ≤ lines_of m ls
others_fewer n m [] = omega arith
others_fewer n m (x ∷ xs) =
    let rest = others_fewer n m xs in
    let all = sum_by-cons (one_if m) x xs in
    let with_it = sum_by-cons (one_if m) x (others n xs) in
    elim (nat_eq x.number n) as (λ b. lines_of m (cond (not b) (x ∷ others n xs) (others n xs)) ≤ lines_of m (x ∷ xs)) [
      | true ↦ omega (arith, rest, all)
      | false ↦ omega (arith, rest, all, with_it)
    ]

length_others : (n : ℕ) (ls : List Live) → length ls ≡ lines_of n ls + length (others n ls)
length_others n [] = refl
length_others n (x ∷ xs) =
    let rest = length_others n xs in
    let all = sum_by-cons (one_if n) x xs in
    by (nat_eq x.number n) refl rest all
  where
    by : (b : Bool) → nat_eq x.number n ≡ b → length xs ≡ lines_of n xs + length (others n xs) → lines_of n (x ∷ xs) ≡ one_if n x + lines_of n xs → length (x ∷ xs) ≡ lines_of n (x ∷ xs) + length (cond (not b) (x ∷ others n xs) (others n xs))
    by true is rest all = let here : one_if n x ≡ 1 = ap (λ (c : Bool). cond c 1 0) is in omega (arith, rest, all, here)
    by false is rest all = let here : one_if n x ≡ 0 = ap (λ (c : Bool). cond c 1 0) is in omega (arith, rest, all, here)

-- The lines of another number are all among the others.
others_keep : (n m : ℕ) (ls : List Live) → n ≢ m → lines_of m (others n ls) ≡ lines_of m ls
others_keep n m [] apart = refl
others_keep n m (x ∷ xs) apart =
    let rest = others_keep n m xs apart in
    let all = sum_by-cons (one_if m) x xs in
    let with_it = sum_by-cons (one_if m) x (others n xs) in
    by (nat_eq x.number n) refl rest all with_it
  where
    none : nat_eq x.number n ≡ true → (b : Bool) → nat_eq x.number m ≡ b → one_if m x ≡ 0
    none is true also = absurd (apart (let a = eqb-true x.number n is in let b = eqb-true x.number m also in omega (arith, a, b)))
    none is false also = ap (λ (c : Bool). cond c 1 0) also

    by : (b : Bool) → nat_eq x.number n ≡ b → lines_of m (others n xs) ≡ lines_of m xs → lines_of m (x ∷ xs) ≡ one_if m x + lines_of m xs → lines_of m (x ∷ others n xs) ≡ one_if m x + lines_of m (others n xs)
        → lines_of m (cond (not b) (x ∷ others n xs) (others n xs)) ≡ lines_of m (x ∷ xs)
    by true is rest all with_it = let here = none is (nat_eq x.number m) refl in omega (arith, rest, all, here)
    by false is rest all with_it = omega (arith, rest, all, with_it)

none_left : (n : ℕ) (ls : List Live) → lines_of n (others n ls) ≡ 0
none_left n [] = refl
none_left n (x ∷ xs) =
    let rest = none_left n xs in
    let with_it = sum_by-cons (one_if n) x (others n xs) in
    by (nat_eq x.number n) refl rest with_it
  where
    by : (b : Bool) → nat_eq x.number n ≡ b → lines_of n (others n xs) ≡ 0 → lines_of n (x ∷ others n xs) ≡ one_if n x + lines_of n (others n xs) → lines_of n (cond (not b) (x ∷ others n xs) (others n xs)) ≡ 0
    by true is rest with_it = rest
    by false is rest with_it = let here : one_if n x ≡ 0 = ap (λ (c : Bool). cond c 1 0) is in omega (arith, rest, with_it, here)

-- A number with a count, other than that of the first line, has one in the rest.
of_rest : (y : Live) (ys : List Live) (n : ℕ) → y.number ≢ n → 0 < holders_of n (y ∷ ys) → 0 < holders_of n ys
of_rest y ys n apart some = by (nat_eq y.number n) refl some
  where
    by : (b : Bool) → nat_eq y.number n ≡ b → 0 < cond b y.holders (holders_of n ys) → 0 < holders_of n ys
    by true is some' = absurd (apart (eqb-true y.number n is))
    by false is some' = some'

-- Lines with different numbers are no more than other lines in which each of their numbers has a
-- count.
short : (ls ms : List Live) → ((n : ℕ) → lines_of n ls ≤ 1) → ((n : ℕ) → 0 < lines_of n ls → 0 < holders_of n ms) → length ls ≤ length ms
short [] [] once has = omega arith
short (x ∷ xs) [] once has =
    let all = sum_by-cons (one_if x.number) x xs in
    let here : one_if x.number x ≡ 1 = ap (λ (c : Bool). cond c 1 0) (eq-eqb x.number x.number refl) in
    let some : 0 < 0 = has x.number (omega (arith, all, here)) in
    absurd (omega (arith, some))
short ls (y ∷ ms) once has =
    let n = y.number in
    let rest = short (others n ls) ms (λ m. let a = others_fewer n m ls in let b = once m in omega (arith, a, b)) (λ m some. of_others m some (nat_eq n m) refl) in
    let split = length_others n ls in
    let one = once n in
    omega (arith, rest, split, one)
  where
    of_others : (m : ℕ) → 0 < lines_of m (others y.number ls) → (b : Bool) → nat_eq y.number m ≡ b → 0 < holders_of m ms
    of_others m some true is =
        let same = eqb-true y.number m is in
        let none = none_left y.number ls in
        absurd (let zero_lines = subst (λ (q : ℕ). lines_of q (others y.number ls) ≡ 0) same none in omega (arith, some, zero_lines))
    of_others m some false isnt =
        let fewer = others_fewer y.number m ls in
        of_rest y ms m (λ same. not_both (eq-eqb y.number m same) isnt) (has m (omega (arith, some, fewer)))
      where
        not_both : nat_eq y.number m ≡ true → nat_eq y.number m ≡ false → ⊥
        not_both a b = cc

pub table_short : (ls ms : List Live) → IsTable ls → ((n : ℕ) → holders_in n ls ≡ holders_of n ms) → length ls ≤ length ms
table_short ls ms table told = short ls ms table.once (λ n some. let lines = table.held n in let same = told n in omega (arith, some, lines, same))
