-- Replacing the put with notification with a number.
use Rattle.std.proofs.Common.{◌≡◌, ◌≢◌, ℕ, zero, suc, ◌+◌, ◌-◌, ◌^◌, ◌<◌, ◌≤◌, Bool, true, false, not, cond, ◌||◌, nat_eq, nat_lt, Some, List, [], ◌∷◌, ◌++◌, length, take, drop, get_or, set, refl, sym, ap, ◌∙◌, arith}
use Rattle.std.specs.List.{list_any}
use Rattle.std.proofs.lemmas.Bool.Decides.{nat_tests}
use Rattle.std.proofs.lemmas.List.{append-nil}
use Rattle.std.specs.List.{remove}
use Rattle.std.specs.Prelude.{min, ◌&&◌}
use Rattle.ioc_notify.specs.declared.live_numbers.Live.{Live}
use Rattle.ioc_notify.specs.Living.{at_number, one_more, one_less, gained, lost, forgotten, holders_of, is_at_its_last, IsPlaceOf}

same_number : (a b : ℕ) → a ≡ b → nat_eq a b ≡ true
same_number a b e = grind (arith, nat_tests)

other_number : (a b : ℕ) → a ≢ b → nat_eq a b ≡ false
other_number a b e = grind (arith, nat_tests)

-- The first one with the number is replaced.
pub others_there : (n : ℕ) (f : Live → List Live) (xs : List Live) (i : ℕ) (d : Live) → i < length xs → ((e : Live) → (get_or xs i e).number ≡ n) → ((k : ℕ) (e : Live) → k < i → (get_or xs k e).number ≢ n)
    → at_number n f xs ≡ take i xs ++ f (get_or xs i d) ++ drop (suc i) xs
others_there n f [] i d l at before = absurd (omega arith)
others_there n f (x ∷ xs) zero d l at before = ap (λ b. cond b (f x ++ xs) (x ∷ at_number n f xs)) (same_number x.number n (at d))
others_there n f (x ∷ xs) (suc i) d l at before =
    ap (λ b. cond b (f x ++ xs) (x ∷ at_number n f xs)) (other_number x.number n (before 0 d (omega arith)))
    ∙ ap (λ ys. x ∷ ys) (others_there n f xs i d (omega arith) at (λ k e lk. before (suc k) e (omega arith)))

pub holders_there : (n : ℕ) (xs : List Live) (i : ℕ) (d : Live) → i < length xs → ((e : Live) → (get_or xs i e).number ≡ n) → ((k : ℕ) (e : Live) → k < i → (get_or xs k e).number ≢ n)
    → (holders_of n xs ≡ (get_or xs i d).holders) × (list_any (λ l. nat_eq l.number n) xs ≡ true)
holders_there n [] i d l at before = absurd (omega arith)
holders_there n (x ∷ xs) zero d l at before =
    let e = same_number x.number n (at d) in
    (ap (λ b. cond b x.holders (holders_of n xs)) e, rw e refl)
holders_there n (x ∷ xs) (suc i) d l at before =
    let e = other_number x.number n (before 0 d (omega arith)) in
    let h = holders_there n xs i d (omega arith) at (λ k v lk. before (suc k) v (omega arith)) in
    (ap (λ b. cond b x.holders (holders_of n xs)) e ∙ h.0, rw e h.1)

by_test : (b : Bool) (rest : Bool) → (b || rest) ≡ false → (b ≡ false) × (rest ≡ false)
by_test true rest e = cc
by_test false rest e = (refl, e)

-- If none has the number, the list stays the same.
pub nobody : (n : ℕ) (f : Live → List Live) (xs : List Live) → list_any (λ l. nat_eq l.number n) xs ≡ false → at_number n f xs ≡ xs
nobody n f [] e = refl
nobody n f (x ∷ xs) e =
    let t = by_test (nat_eq x.number n) (list_any (λ l. nat_eq l.number n) xs) e in
    ap (λ b. cond b (f x ++ xs) (x ∷ at_number n f xs)) t.0 ∙ ap (λ ys. x ∷ ys) (nobody n f xs t.1)

set_split : (xs : List Live) (i : ℕ) (v : Live) → i < length xs → set xs i v ≡ take i xs ++ v ∷ [] ++ drop (suc i) xs
set_split [] i v l = absurd (omega arith)
set_split (x ∷ xs) zero v l = refl
set_split (x ∷ xs) (suc i) v l = ap (λ ys. x ∷ ys) (set_split xs i v (omega arith))

abbrev one_live : ℕ → ℕ → Live
one_live number holders = record { number = number; holders = holders }

module _ (n : ℕ) (xs : List Live) (i : ℕ) (x : Live) (there : IsPlaceOf n xs (Some i)) (is : x ≡ get_or xs i x) where
  replaced : (f : Live → List Live) (v : Live) → f x ≡ v ∷ [] → set xs i v ≡ at_number n f xs
  replaced f v e =
      set_split xs i v there.0 ∙ ap (λ ys. take i xs ++ ys ++ drop (suc i) xs) (sym (ap f (sym is) ∙ e)) ∙ sym (others_there n f xs i x there.0 there.1 there.2)

  dropped : (f : Live → List Live) → f x ≡ [] → remove xs i ≡ at_number n f xs
  dropped f e =
      ap (λ ys. ys ++ drop (suc i) xs) (sym (append-nil (take i xs))) ∙ ap (λ ys. take i xs ++ ys ++ drop (suc i) xs) (sym (ap f (sym is) ∙ e)) ∙ sym (others_there n f xs i x there.0 there.1 there.2)

  named : x.number ≡ n
  named = ap (λ (v : Live). v.number) is ∙ there.1 x

  with_holders : (h : ℕ) → ◌≡◌ {A = Live} (record x { holders = h }) (record { number = n; holders = h })
  with_holders h = ap (λ m. one_live m h) named

  held : holders_of n xs ≡ x.holders
  held = (holders_there n xs i x there.0 there.1 there.2).0 ∙ sym (ap (λ (v : Live). v.holders) is)

  pub gained_there : (h : ℕ) → h ≡ min (2 ^ 64 - 1) (x.holders + 1) → set xs i (record { number = n; holders = h }) ≡ gained n xs
  gained_there h e = replaced one_more (record { number = n; holders = h }) (ap (λ (v : Live). v ∷ []) (with_holders (min (2 ^ 64 - 1) (x.holders + 1)) ∙ ap (λ m. one_live n m) (sym e)))

  pub lost_more : nat_lt 1 x.holders ≡ true → set xs i (record { number = n; holders = x.holders - 1 }) ≡ lost n xs
  lost_more e = replaced one_less (record { number = n; holders = x.holders - 1 })
      (ap (λ b. cond b ((record x { holders = x.holders - 1 }) ∷ []) []) e ∙ ap (λ (v : Live). v ∷ []) (with_holders (x.holders - 1)))

  pub lost_last : nat_lt 1 x.holders ≡ false → remove xs i ≡ lost n xs
  lost_last e = dropped one_less (ap (λ b. cond b ((record x { holders = x.holders - 1 }) ∷ []) []) e)

  pub forgotten_there : remove xs i ≡ forgotten n xs
  forgotten_there = dropped (λ l. []) refl

  pub at_its_last : (b : Bool) → nat_lt 1 x.holders ≡ b → is_at_its_last n xs ≡ not b
  at_its_last b e =
      ap (λ c. c && not (nat_lt 1 (holders_of n xs))) (holders_there n xs i x there.0 there.1 there.2).1 ∙ ap (λ h. not (nat_lt 1 h)) held ∙ ap not e

pub not_at_its_last : (n : ℕ) (xs : List Live) → list_any (λ l. nat_eq l.number n) xs ≡ false → is_at_its_last n xs ≡ false
not_at_its_last n xs e = ap (λ c. c && not (nat_lt 1 (holders_of n xs))) e

pub lt_true : (a b : ℕ) → a < b → nat_lt a b ≡ true
lt_true a b l = grind (arith, nat_tests)

pub lt_false : (a b : ℕ) → b ≤ a → nat_lt a b ≡ false
lt_false a b l = grind (arith, nat_tests)
