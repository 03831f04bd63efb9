-- A table with one line replaced, removed or added.
use Rattle.std.proofs.Common.{◌≡◌, ℕ, zero, suc, ◌+◌, ◌-◌, ◌<◌, ◌≤◌, Bool, true, false, not, cond, nat_eq, nat_lt, Some, None, List, [], ◌∷◌, ◌++◌, length, take, drop, get_or, set, position, refl, sym, ap, subst, ◌∙◌, arith}
use Rattle.std.specs.List.{remove, sum_by, position_or_len}
use Rattle.std.proofs.lemmas.Bool.{ltb-false}
use Rattle.std.proofs.lemmas.Bool.Decides.{nat_tests}
use Rattle.std.proofs.lemmas.List.Sums.{sum_by-cons, sum_by-append, sum_by_push}
use Rattle.std.proofs.lemmas.List.Quantifiers.{position-Some}
use Rattle.ioc_notify.specs.declared.live_numbers.Live.{Live}
use Rattle.ioc_notify.specs.Counts.{has_by, holders_in, lines_of, IsTable}

abbrev one_if : ℕ → Live → ℕ
one_if n l = cond (nat_eq l.number n) 1 0

-- ---- Sums over a list split at an index

pub parted : (xs : List Live) (i : ℕ) (d : Live) → i < length xs → xs ≡ take i xs ++ get_or xs i d ∷ drop (suc i) xs
parted [] i d l = absurd (omega (arith, l))
parted (x ∷ xs) zero d l = refl
parted (x ∷ xs) (suc i) d l = ap (λ (ys : List Live). x ∷ ys) (parted xs i d (omega (arith, l)))

set_parted : (xs : List Live) (i : ℕ) (v : Live) → i < length xs → set xs i v ≡ take i xs ++ v ∷ drop (suc i) xs
set_parted [] i v l = absurd (omega (arith, l))
set_parted (x ∷ xs) zero v l = refl
set_parted (x ∷ xs) (suc i) v l = ap (λ (ys : List Live). x ∷ ys) (set_parted xs i v (omega (arith, l)))

sum_with : (f : Live → ℕ) (xs : List Live) (x : Live) (ys : List Live) → sum_by f (xs ++ x ∷ ys) ≡ sum_by f xs + (f x + sum_by f ys)
sum_with f xs x ys = sum_by-append f xs (x ∷ ys) ∙ ap (λ (s : ℕ). sum_by f xs + s) (sum_by-cons f x ys)

-- A list without a line for a number has the count 0 for it.
none_by : (n : ℕ) (b : Bool) (x : Live) → nat_eq x.number n ≡ b → one_if n x ≡ 0 → has_by n x ≡ 0
none_by n true x is zero_lines = let one : one_if n x ≡ 1 = ap (λ (c : Bool). cond c 1 0) is in absurd (omega (arith, zero_lines, one))
none_by n false x is zero_lines = ap (λ (c : Bool). cond c x.holders 0) is

pub none_has : (n : ℕ) (xs : List Live) → lines_of n xs ≡ 0 → holders_in n xs ≡ 0
none_has n [] none = refl
none_has n (x ∷ xs) none =
    let parts = sym (sum_by-cons (one_if n) x xs) ∙ none in
    let here : one_if n x ≡ 0 = omega (arith, parts) in
    let rest : lines_of n xs ≡ 0 = omega (arith, parts) in
    let all = sum_by-cons (has_by n) x xs in
    let first = none_by n (nat_eq x.number n) x refl here in
    let others = none_has n xs rest in
    omega (arith, all, first, others)

-- A number for which no line is found has none.
no_place : (p : Live → Bool) (xs : List Live) → position p xs ≡ None → length xs ≤ position_or_len p xs
no_place p xs none = ltb-false (position_or_len p xs) (length xs) (is_none (nat_lt (position_or_len p xs) (length xs)) none)
  where
    is_none : (b : Bool) → cond b (Some (position_or_len p xs)) None ≡ None → b ≡ false
    is_none true is = cc
    is_none false is = refl

none_lines : (n : ℕ) (xs : List Live) → length xs ≤ position_or_len (λ l. nat_eq l.number n) xs → lines_of n xs ≡ 0
none_lines n [] none = refl
none_lines n (x ∷ xs) none =
    let other = isnt (nat_eq x.number n) refl in
    let all = sum_by-cons (one_if n) x xs in
    let here : one_if n x ≡ 0 = ap (λ (b : Bool). cond b 1 0) other in
    let others = none_lines n xs (rest other) in
    omega (arith, all, here, others)
  where
    first : (b : Bool) → nat_eq x.number n ≡ b → position_or_len (λ l. nat_eq l.number n) (x ∷ xs) ≡ cond (not b) (1 + position_or_len (λ l. nat_eq l.number n) xs) 0
    first b is = ap (λ (c : Bool). cond (not c) (1 + position_or_len (λ l. nat_eq l.number n) xs) 0) is

    isnt : (b : Bool) → nat_eq x.number n ≡ b → nat_eq x.number n ≡ false
    isnt true is = let at = first true is in absurd (omega (arith, none, at))
    isnt false is = is

    rest : nat_eq x.number n ≡ false → length xs ≤ position_or_len (λ l. nat_eq l.number n) xs
    rest is = let at = first false is in omega (arith, none, at)

pub nobody : (n : ℕ) (xs : List Live) → position (λ l. nat_eq l.number n) xs ≡ None → (lines_of n xs ≡ 0) × (holders_in n xs ≡ 0)
nobody n xs none = let none_there = none_lines n xs (no_place (λ l. nat_eq l.number n) xs none) in (none_there, none_has n xs none_there)

abbrev line : ℕ → ℕ → Live
line number holders = record { number = number; holders = holders }

by_number : (n : ℕ) (l : Live) (b : Bool) → nat_eq l.number n ≡ b → (one_if n l ≡ cond b 1 0) × (has_by n l ≡ cond b l.holders 0)
by_number n l b is = (ap (λ (c : Bool). cond c 1 0) is, ap (λ (c : Bool). cond c l.holders 0) is)

same : (a b : ℕ) → a ≡ b → nat_eq a b ≡ true
same a b e = grind (arith, nat_tests)

is_same : (a b : ℕ) → nat_eq a b ≡ true → a ≡ b
is_same a b e = grind (arith, nat_tests)

-- ---- The line of a number that was found

module _ (number : ℕ) (xs : List Live) (i : ℕ) (found : position (λ l. nat_eq l.number number) xs ≡ Some i) (x : Live) (is : x ≡ get_or xs i x) (table : IsTable xs) where
  there : i < length xs
  there = (position-Some (λ l. nat_eq l.number number) xs i x found).0

  named : x.number ≡ number
  named = ap (λ (l : Live). l.number) is ∙ is_same (get_or xs i x).number number (position-Some (λ l. nat_eq l.number number) xs i x found).1

  abbrev front : List Live
  front = take i xs

  abbrev back : List Live
  back = drop (suc i) xs

  whole : (f : Live → ℕ) → sum_by f xs ≡ sum_by f front + (f x + sum_by f back)
  whole f = ap (λ (l : List Live). sum_by f l) (parted xs i x there ∙ ap (λ (y : Live). front ++ y ∷ back) (sym is)) ∙ sum_with f front x back

  with_line : (f : Live → ℕ) (v : Live) → sum_by f (set xs i v) ≡ sum_by f front + (f v + sum_by f back)
  with_line f v = ap (λ (l : List Live). sum_by f l) (set_parted xs i v there) ∙ sum_with f front v back

  without_line : (f : Live → ℕ) → sum_by f (remove xs i) ≡ sum_by f front + sum_by f back
  without_line f = sum_by-append f front back

  at_x : (n : ℕ) (b : Bool) → nat_eq number n ≡ b → (one_if n x ≡ cond b 1 0) × (has_by n x ≡ cond b x.holders 0)
  at_x n b e = by_number n x b (ap (λ (m : ℕ). nat_eq m n) named ∙ e)

  -- No other line is for the number.
  alone : (n : ℕ) → nat_eq number n ≡ true → (lines_of n front ≡ 0) × (lines_of n back ≡ 0)
  alone n e =
      let once = table.once n in
      let all = whole (one_if n) in
      let here = (at_x n true e).0 in
      (omega (arith, once, all, here), omega (arith, once, all, here))

  pub held : holders_in number xs ≡ x.holders
  held =
      let e = same number number refl in
      let none = alone number e in
      let all = whole (has_by number) in
      let here = (at_x number true e).1 in
      let before = none_has number front none.0 in
      let after = none_has number back none.1 in
      omega (arith, all, here, before, after)

  once_set : (h n : ℕ) (b : Bool) → nat_eq number n ≡ b → lines_of n (set xs i (line number h)) ≤ 1
  once_set h n b e =
      let once = table.once n in
      let all = whole (one_if n) in
      let now = with_line (one_if n) (line number h) in
      let here = (at_x n b e).0 in
      let new = (by_number n (line number h) b e).0 in
      omega (arith, once, all, now, here, new)

  held_set : (h n : ℕ) (b : Bool) → 0 < h → nat_eq number n ≡ b → lines_of n (set xs i (line number h)) ≤ holders_in n (set xs i (line number h))
  held_set h n true some e =
      let once = once_set h n true e in
      let now = with_line (has_by n) (line number h) in
      let new = (by_number n (line number h) true e).1 in
      omega (arith, some, once, now, new)
  held_set h n false some e =
      let before = table.held n in
      let lines = whole (one_if n) in
      let holders = whole (has_by n) in
      let lines_now = with_line (one_if n) (line number h) in
      let holders_now = with_line (has_by n) (line number h) in
      let here = at_x n false e in
      let new = by_number n (line number h) false e in
      let a = here.0 in
      let b = here.1 in
      let c = new.0 in
      let d = new.1 in
      omega (arith, before, lines, holders, lines_now, holders_now, a, b, c, d)

  pub set_table : (h : ℕ) → 0 < h → IsTable (set xs i (line number h))
  set_table h some = record { once = λ n. once_set h n (nat_eq number n) refl; held = λ n. held_set h n (nat_eq number n) some refl }

  held_removed : (n : ℕ) (b : Bool) → nat_eq number n ≡ b → lines_of n (remove xs i) ≤ holders_in n (remove xs i)
  held_removed n true e =
      let none = alone n e in
      let a = none.0 in
      let b = none.1 in
      let now = without_line (one_if n) in
      omega (arith, a, b, now)
  held_removed n false e =
      let before = table.held n in
      let lines = whole (one_if n) in
      let holders = whole (has_by n) in
      let lines_now = without_line (one_if n) in
      let holders_now = without_line (has_by n) in
      let here = at_x n false e in
      let a = here.0 in
      let b = here.1 in
      omega (arith, before, lines, holders, lines_now, holders_now, a, b)

  pub removed_table : IsTable (remove xs i)
  removed_table = record {
    once = λ n. (
        let once = table.once n in
        let all = whole (one_if n) in
        let now = without_line (one_if n) in
        omega (arith, once, all, now));
    held = λ n. held_removed n (nat_eq number n) refl;
  }

  -- The counts after subtracting from a line, and after adding to it.
  less_by : (h n : ℕ) (b : Bool) → h < x.holders → nat_eq number n ≡ b → holders_in n (set xs i (line number (x.holders - h))) + has_by n (line number h) ≡ holders_in n xs
  less_by h n true fewer e =
      let all = whole (has_by n) in
      let now = with_line (has_by n) (line number (x.holders - h)) in
      let here = (at_x n true e).1 in
      let new = (by_number n (line number (x.holders - h)) true e).1 in
      let by = (by_number n (line number h) true e).1 in
      omega (arith, fewer, all, now, here, new, by)
  less_by h n false fewer e =
      let all = whole (has_by n) in
      let now = with_line (has_by n) (line number (x.holders - h)) in
      let here = (at_x n false e).1 in
      let new = (by_number n (line number (x.holders - h)) false e).1 in
      let by = (by_number n (line number h) false e).1 in
      omega (arith, fewer, all, now, here, new, by)

  pub less : (h : ℕ) → h < x.holders → (n : ℕ) → holders_in n (set xs i (line number (x.holders - h))) + has_by n (line number h) ≡ holders_in n xs
  less h fewer n = less_by h n (nat_eq number n) fewer refl

  gone_by : (h n : ℕ) (b : Bool) → h ≡ x.holders → nat_eq number n ≡ b → holders_in n (remove xs i) + has_by n (line number h) ≡ holders_in n xs
  gone_by h n true all_of e =
      let all = whole (has_by n) in
      let now = without_line (has_by n) in
      let here = (at_x n true e).1 in
      let by = (by_number n (line number h) true e).1 in
      omega (arith, all_of, all, now, here, by)
  gone_by h n false all_of e =
      let all = whole (has_by n) in
      let now = without_line (has_by n) in
      let here = (at_x n false e).1 in
      let by = (by_number n (line number h) false e).1 in
      omega (arith, all_of, all, now, here, by)

  pub gone : (h : ℕ) → h ≤ holders_in number xs → x.holders ≤ h → (n : ℕ) → holders_in n (remove xs i) + has_by n (line number h) ≡ holders_in n xs
  gone h there all n = let here = held in gone_by h n (nat_eq number n) (omega (arith, there, all, here)) refl

  more_by : (h n : ℕ) (b : Bool) → nat_eq number n ≡ b → holders_in n (set xs i (line number (x.holders + h))) ≡ holders_in n xs + has_by n (line number h)
  more_by h n true e =
      let all = whole (has_by n) in
      let now = with_line (has_by n) (line number (x.holders + h)) in
      let here = (at_x n true e).1 in
      let new = (by_number n (line number (x.holders + h)) true e).1 in
      let by = (by_number n (line number h) true e).1 in
      omega (arith, all, now, here, new, by)
  more_by h n false e =
      let all = whole (has_by n) in
      let now = with_line (has_by n) (line number (x.holders + h)) in
      let here = (at_x n false e).1 in
      let new = (by_number n (line number (x.holders + h)) false e).1 in
      let by = (by_number n (line number h) false e).1 in
      omega (arith, all, now, here, new, by)

  pub more : (h n : ℕ) → holders_in n (set xs i (line number (x.holders + h))) ≡ holders_in n xs + has_by n (line number h)
  more h n = more_by h n (nat_eq number n) refl

-- ---- A number without a line

no_holders : (number n : ℕ) (b : Bool) → nat_eq number n ≡ b → has_by n (line number 0) ≡ 0
no_holders number n true e = (by_number n (line number 0) true e).1
no_holders number n false e = (by_number n (line number 0) false e).1

pub nobody_less : (number h : ℕ) (xs : List Live) → position (λ l. nat_eq l.number number) xs ≡ None → h ≤ holders_in number xs → (n : ℕ) → holders_in n xs + has_by n (line number h) ≡ holders_in n xs
nobody_less number h xs none there n =
    let nobody_has = (nobody number xs none).1 in
    let zero_more : h ≡ 0 = omega (arith, nobody_has, there) in
    ap (λ (s : ℕ). holders_in n xs + has_by n (line number s)) zero_more ∙ ap (λ (s : ℕ). holders_in n xs + s) (no_holders number n (nat_eq number n) refl) ∙ omega arith

pub none_more : (number h : ℕ) (xs : List Live) → h ≡ 0 → (n : ℕ) → holders_in n xs ≡ holders_in n xs + has_by n (line number h)
none_more number h xs none n = sym (ap (λ (s : ℕ). holders_in n xs + has_by n (line number s)) none ∙ ap (λ (s : ℕ). holders_in n xs + s) (no_holders number n (nat_eq number n) refl) ∙ omega arith)

pub one_more : (number h : ℕ) (xs : List Live) (n : ℕ) → holders_in n (xs ++ line number h ∷ []) ≡ holders_in n xs + has_by n (line number h)
one_more number h xs n = sum_by_push (has_by n) xs (line number h)

module _ (number h : ℕ) (xs : List Live) (none : position (λ l. nat_eq l.number number) xs ≡ None) (some : 0 < h) (table : IsTable xs) where
  pushed_at : (n : ℕ) (b : Bool) → nat_eq number n ≡ b → (lines_of n (xs ++ line number h ∷ []) ≤ 1) × (lines_of n (xs ++ line number h ∷ []) ≤ holders_in n (xs ++ line number h ∷ []))
  pushed_at n true e =
      let nobody_has = (nobody number xs none).0 in
      let is = is_same number n e in
      let none_here : lines_of n xs ≡ 0 = subst (λ (m : ℕ). lines_of m xs ≡ 0) is nobody_has in
      let lines = sum_by_push (one_if n) xs (line number h) in
      let holders = sum_by_push (has_by n) xs (line number h) in
      let new = by_number n (line number h) true e in
      let a = new.0 in
      let b = new.1 in
      (omega (arith, none_here, lines, a), omega (arith, some, none_here, lines, holders, a, b))
  pushed_at n false e =
      let once = table.once n in
      let before = table.held n in
      let lines = sum_by_push (one_if n) xs (line number h) in
      let holders = sum_by_push (has_by n) xs (line number h) in
      let new = by_number n (line number h) false e in
      let a = new.0 in
      let b = new.1 in
      (omega (arith, once, lines, a), omega (arith, before, lines, holders, a, b))

  pub pushed_table : IsTable (xs ++ line number h ∷ [])
  pushed_table = record { once = λ n. (pushed_at n (nat_eq number n) refl).0; held = λ n. (pushed_at n (nat_eq number n) refl).1 }
