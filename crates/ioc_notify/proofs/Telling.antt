-- The meaning of a table's lines.
use Rattle.std.proofs.Common.{◌≡◌, ◌↔◌, ℕ, zero, suc, ◌<◌, ◌≤◌, Bool, true, false, cond, ◌||◌, nat_eq, List, [], ◌∷◌, refl, ap, arith}
use Rattle.std.specs.Prelude.{IsTrue}
use Rattle.std.proofs.lemmas.List.Sums.{sum_by-cons}
use Rattle.ioc_notify.specs.declared.live_numbers.Live.{Live}
use Rattle.ioc_notify.specs.Living.{holders_of, is_live}
use Rattle.ioc_notify.specs.Counts.{has_by, holders_in, lines_of, IsTable}
use Rattle.ioc_notify.proofs.Tables.{none_has}

abbrev one_if : ℕ → Live → ℕ
one_if n l = cond (nat_eq l.number n) 1 0

-- If a number has at most one line, that line has its count.
holders_by : (n : ℕ) (x : Live) (xs : List Live) (b : Bool) → nat_eq x.number n ≡ b → lines_of n (x ∷ xs) ≤ 1 → (lines_of n xs ≤ 1 → holders_of n xs ≡ holders_in n xs) → cond b x.holders (holders_of n xs) ≡ holders_in n (x ∷ xs)
holders_by n x xs true is once others =
    let lines = sum_by-cons (one_if n) x xs in
    let here : one_if n x ≡ 1 = ap (λ (c : Bool). cond c 1 0) is in
    let holders = sum_by-cons (has_by n) x xs in
    let has : has_by n x ≡ x.holders = ap (λ (c : Bool). cond c x.holders 0) is in
    let none = none_has n xs (omega (arith, lines, here, once)) in
    omega (arith, holders, has, none)
holders_by n x xs false is once others =
    let lines = sum_by-cons (one_if n) x xs in
    let here : one_if n x ≡ 0 = ap (λ (c : Bool). cond c 1 0) is in
    let holders = sum_by-cons (has_by n) x xs in
    let has : has_by n x ≡ 0 = ap (λ (c : Bool). cond c x.holders 0) is in
    let rest = others (omega (arith, lines, here, once)) in
    omega (arith, holders, has, rest)

pub told : (ls : List Live) (n : ℕ) → lines_of n ls ≤ 1 → holders_of n ls ≡ holders_in n ls
told [] n once = refl
told (x ∷ xs) n once = holders_by n x xs (nat_eq x.number n) refl once (told xs n)

-- A number is live if and only if it has a line.
live_by : (n : ℕ) (x : Live) (xs : List Live) (b : Bool) → nat_eq x.number n ≡ b → (IsTrue (is_live n xs) ↔ (0 < lines_of n xs)) → IsTrue (b || is_live n xs) ↔ (0 < lines_of n (x ∷ xs))
live_by n x xs true is others =
    let lines = sum_by-cons (one_if n) x xs in
    let here : one_if n x ≡ 1 = ap (λ (c : Bool). cond c 1 0) is in
    (λ live. omega (arith, lines, here), λ some. refl)
live_by n x xs false is others =
    let lines = sum_by-cons (one_if n) x xs in
    let here : one_if n x ≡ 0 = ap (λ (c : Bool). cond c 1 0) is in
    (λ live. (let rest = others.0 live in omega (arith, lines, here, rest)), λ some. others.1 (omega (arith, lines, here, some)))

pub lives : (ls : List Live) (n : ℕ) → IsTrue (is_live n ls) ↔ (0 < lines_of n ls)
lives [] n = (λ live. cc, λ some. absurd (omega (arith, some)))
lives (x ∷ xs) n = live_by n x xs (nat_eq x.number n) refl (lives xs n)

pub held : (ls : List Live) (n : ℕ) → IsTable ls → IsTrue (is_live n ls) ↔ (0 < holders_in n ls)
held ls n table =
    let lines = table.held n in (
      λ live. (let some = (lives ls n).0 live in omega (arith, lines, some)),
      λ some. (lives ls n).1 (some_line (lines_of n ls) refl some),
    )
  where
    some_line : (count : ℕ) → lines_of n ls ≡ count → 0 < holders_in n ls → 0 < lines_of n ls
    some_line zero is some = let none = none_has n ls is in absurd (omega (arith, some, none))
    some_line (suc more) is some = omega (arith, is)
