-- The number that groups of digits are, group by group.
use Rattle.std.proofs.Common.{◌≡◌, ℕ, suc, zero, ◌+◌, ◌-◌, ◌*◌, ◌/◌, ◌%◌, ◌^◌, ◌<◌, ◌≤◌, List, [], ◌∷◌, ◌++◌, length, get_or, take, set, replicate, sym, ap, ◌∙◌, arith, lit<}
use Rattle.std.proofs.lemmas.List.{take_more, take_more_set, length-take-le, take_all}
use Rattle.std.proofs.lemmas.Nat.{pow-add}
use Rattle.std.proofs.Math.Nat.{mul-le-mul_right}
use Rattle.ioc_double.specs.Groups.{value, AreGroups}

pub nine_more : (n : ℕ) → 10 ^ (9 * (n + 1)) ≡ 10 ^ 9 * 10 ^ (9 * n)
nine_more n = let e : 9 * (n + 1) ≡ 9 + 9 * n = omega arith in rw e (pow-add 10 9 (9 * n))

nine_suc : (n : ℕ) → 10 ^ (9 * suc n) ≡ 10 ^ 9 * 10 ^ (9 * n)
nine_suc n = let e : 9 * suc n ≡ 9 + 9 * n = omega arith in rw e (pow-add 10 9 (9 * n))

distributed : (g x p y : ℕ) → g + 10 ^ 9 * (x + p * y) ≡ g + 10 ^ 9 * x + (10 ^ 9 * p) * y
distributed g x p y = omega arith

pub value-append : (xs ys : List ℕ) → value (xs ++ ys) ≡ value xs + 10 ^ (9 * length xs) * value ys
value-append [] ys = omega arith
value-append (g ∷ xs) ys =
    ap (λ (n : ℕ). g + 10 ^ 9 * n) (value-append xs ys) ∙ distributed g (value xs) (10 ^ (9 * length xs)) (value ys)
    ∙ ap (λ (p : ℕ). g + 10 ^ 9 * value xs + p * value ys) (sym (nine_suc (length xs)))

one_more : (xs : List ℕ) (i v : ℕ) → length xs ≡ i → value (xs ++ v ∷ []) ≡ value xs + 10 ^ (9 * i) * v
one_more xs i v e = rw (value-append xs (v ∷ []), e) (omega arith)

pub value_next : (xs : List ℕ) (i : ℕ) → i < length xs → value (take (i + 1) xs) ≡ value (take i xs) + 10 ^ (9 * i) * get_or xs i 0
value_next xs i h = rw (take_more xs i 0 h) (one_more (take i xs) i (get_or xs i 0) (length-take-le i xs (omega arith)))

pub value_next_set : (xs : List ℕ) (i v : ℕ) → i < length xs → value (take (i + 1) (set xs i v)) ≡ value (take i xs) + 10 ^ (9 * i) * v
value_next_set xs i v h = rw (take_more_set xs i v h) (one_more (take i xs) i v (length-take-le i xs (omega arith)))

-- The step of a product: p is the product of a group with what was carried.
group_product : (v w f c g p place : ℕ) → v + place * c ≡ w * f → p ≡ g * f + c → v + place * (p % 10 ^ 9) + 10 ^ 9 * place * (p / 10 ^ 9) ≡ (w + place * g) * f
group_product v w f c g p place h e =
    let a : p ≡ p % 10 ^ 9 + 10 ^ 9 * (p / 10 ^ 9) = omega arith in
    let b : place * p ≡ place * (p % 10 ^ 9 + 10 ^ 9 * (p / 10 ^ 9)) = ap (λ (n : ℕ). place * n) a in
    let d : place * p ≡ place * (g * f + c) = ap (λ (n : ℕ). place * n) e in
    omega arith

pub product_next : (xs ys : List ℕ) (i f c p : ℕ) → i < length xs → i < length ys → value (take i xs) + 10 ^ (9 * i) * c ≡ value (take i ys) * f
    → p ≡ get_or ys i 0 * f + c → value (take (i + 1) (set xs i (p % 10 ^ 9))) + 10 ^ (9 * (i + 1)) * (p / 10 ^ 9) ≡ value (take (i + 1) ys) * f
product_next xs ys i f c p hx hy h e =
    rw (value_next_set xs i (p % 10 ^ 9) hx, value_next ys i hy, nine_more i)
    (group_product (value (take i xs)) (value (take i ys)) f c (get_or ys i 0) p (10 ^ (9 * i)) h e)

pub carry_small : (g f c : ℕ) → g < 10 ^ 9 → c ≤ f → (g * f + c) / 10 ^ 9 ≤ f
carry_small g f c h k = let a : g ≤ 10 ^ 9 - 1 = omega arith in let b = mul-le-mul_right f a in omega arith

-- Groups stay groups where one is set.
pub groups_set : (xs : List ℕ) (i v : ℕ) → AreGroups xs → v < 10 ^ 9 → AreGroups (set xs i v)
groups_set [] i v h s k = h k
groups_set (x ∷ xs) zero v h s zero = s
groups_set (x ∷ xs) zero v h s (suc k) = h (suc k)
groups_set (x ∷ xs) (suc i) v h s zero = h 0
groups_set (x ∷ xs) (suc i) v h s (suc k) = groups_set xs i v (λ j. h (suc j)) s k

pub groups_take : (xs : List ℕ) (n : ℕ) → AreGroups xs → AreGroups (take n xs)
groups_take xs zero h k = lit< tt
groups_take [] (suc n) h k = lit< tt
groups_take (x ∷ xs) (suc n) h zero = h 0
groups_take (x ∷ xs) (suc n) h (suc k) = groups_take xs n (λ j. h (suc j)) k

-- The highest group.
pub value_front : (xs : List ℕ) (n : ℕ) → n + 1 ≡ length xs → value xs ≡ value (take n xs) + 10 ^ (9 * n) * get_or xs n 0
value_front xs n e = ap value (sym (take_all (n + 1) xs (omega arith))) ∙ value_next xs n (omega arith)

pub groups_zero : (n : ℕ) → AreGroups (replicate n 0)
groups_zero zero k = lit< tt
groups_zero (suc n) zero = lit< tt
groups_zero (suc n) (suc k) = groups_zero n k
