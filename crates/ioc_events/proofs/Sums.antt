-- Sums over the numbers below one, and the total of a weighted map as such a sum.
use Rattle.std.proofs.Common.{◌≡◌, ◌≢◌, ℕ, zero, suc, ◌+◌, ◌<◌, ◌≤◌, Bool, true, false, cond, eqb, T, List, [], ◌∷◌, Option, Some, None, refl, sym, ap, subst, ◌∙◌, arith}
use Rattle.std.specs.Ordering.{nat_cmp, is_eq, eq_by_cmp}
use Rattle.std.specs.Cmp.{unsigned_tied}
use Rattle.std.specs.declared.cmp.Ordering.{Ordering}
use Rattle.std.specs.FinMap.{FinMap, get, get-entries, entries, entries_sorted, find}
use Rattle.std.specs.FinMap.Entries.{is_sorted, below_all}
use Rattle.std.proofs.lemmas.Bool.{eqb-true, eq-eqb}
use Rattle.ioc_store.specs.World.{total}
use Rattle.ioc_store.specs.Weights.{first, second, less, weight_of}

abbrev pub sum-below : (ℕ → ℕ) → ℕ → ℕ
sum-below f zero = 0
sum-below f (suc n) = sum-below f n + f n

pub sum-same : (f g : ℕ → ℕ) (n : ℕ) → ((q : ℕ) → f q ≡ g q) → sum-below f n ≡ sum-below g n
sum-same f g zero same = refl
sum-same f g (suc n) same = let here = same n in let rest = sum-same f g n same in omega arith

pub sum-add : (f g : ℕ → ℕ) (n : ℕ) → sum-below (λ q. f q + g q) n ≡ sum-below f n + sum-below g n
sum-add f g zero = omega arith
sum-add f g (suc n) = let rest = sum-add f g n in omega arith

pub sum-none : (f : ℕ → ℕ) (n : ℕ) → ((q : ℕ) → f q ≡ 0) → sum-below f n ≡ 0
sum-none f zero none = refl
sum-none f (suc n) none = let here = none n in let rest = sum-none f n none in omega arith

pub sum-least : (f g : ℕ → ℕ) (n : ℕ) → ((q : ℕ) → f q ≤ g q) → sum-below f n ≤ sum-below g n
sum-least f g zero least = omega arith
sum-least f g (suc n) least = let here = least n in let rest = sum-least f g n least in omega arith

-- A sum is less if no term is greater and one is less.
pub sum-less : (f g : ℕ → ℕ) (r n : ℕ) → r < n → ((q : ℕ) → f q ≤ g q) → f r < g r → sum-below f n < sum-below g n
sum-less f g r zero within least less = absurd (omega (arith, within))
sum-less f g r (suc n) within least less = elim (eqb r n) as (λ b. eqb r n ≡ b → sum-below f n + f n < sum-below g n + g n) [
  | true ↦ λ is.
      let here : f n < g n = subst (λ (m : ℕ). f m < g m) (eqb-true r n is) less in
      let rest = sum-least f g n least in
      omega (arith, here, rest)
  | false ↦ λ isnt.
      let apart : r ≢ n = λ e. absurd (differ (sym (eq-eqb r n e) ∙ isnt)) in
      let rest = sum-less f g r n (omega arith) least less in
      let here = least n in
      omega (arith, rest, here)
] refl
  where
    differ : true ≡ false → ⊥
    differ e = cc

-- A sum to which only one number contributes.
module _ (is : ℕ → Bool) (a x : ℕ) (only : (q : ℕ) → is q ≡ true → q ≡ a) (self : is a ≡ true) where
  at-one : (n : ℕ) (b : Bool) → is n ≡ b → (b ≡ true → n ≡ a) → n ≢ a → cond b x 0 ≡ 0
  at-one n true e same apart = absurd (apart (same refl))
  at-one n false e same apart = refl

  sum-before : (n : ℕ) → n ≤ a → sum-below (λ q. cond (is q) x 0) n ≡ 0
  sum-before zero lt = refl
  sum-before (suc n) lt =
      let rest = sum-before n (omega arith) in
      let apart : n ≢ a = λ e. absurd (omega arith) in
      let here : cond (is n) x 0 ≡ 0 = at-one n (is n) refl (only n) apart in
      omega arith

  pub sum-one : (n : ℕ) → a < n → sum-below (λ q. cond (is q) x 0) n ≡ x
  sum-one zero lt = absurd (omega arith)
  sum-one (suc n) lt = elim (is n) as (λ b. is n ≡ b → sum-below (λ q. cond (is q) x 0) n + cond b x 0 ≡ x) [
    | true ↦ λ e.
        let same = only n e in
        let rest = sum-before n (omega arith) in
        omega arith
    | false ↦ λ e.
        let apart : n ≢ a = λ same. absurd (differ (sym (subst (λ (m : ℕ). is m ≡ true) (sym same) self) ∙ e)) in
        let rest = sum-one n (omega arith) in
        omega arith
  ] refl
    where
      differ : true ≡ false → ⊥
      differ e = cc

-- A number greater than all keys.
abbrev pub top : {X : Type 0} → List (ℕ × X) → ℕ
top [] = 0
top (e ∷ es) = e.0 + 1 + top es

-- A key below all others isn't among them.
pub find-none : {X : Type 0} (q : ℕ) (es : List (ℕ × X)) → T (below_all nat_cmp q es) → find nat_cmp q es ≡ None
find-none q [] below = refl
find-none q (e ∷ es) below = ap (λ (r : Ordering). cond (is_eq r) (Some e.1) (find nat_cmp q es)) (less _ (first _ _ below)) ∙ find-none q es (second _ _ below)

module _ {X : Type 0} (weight : X → ℕ) where
  -- The weight at a number is that of the first entry plus that of the others.
  split-one : (b : Bool) (x : X) (o : Option X) → (b ≡ true → o ≡ None) → weight_of weight (cond b (Some x) o) ≡ cond b (weight x) 0 + weight_of weight o
  split-one true x o none = let is : weight_of weight o ≡ 0 = ap (weight_of weight) (none refl) in omega arith
  split-one false x o none = omega arith

  total-sum : (es : List (ℕ × X)) (n : ℕ) → T (is_sorted nat_cmp es) → top es ≤ n → total weight es ≡ sum-below (λ q. weight_of weight (find nat_cmp q es)) n
  total-sum [] n sorted reach = sym (sum-none (λ q. 0) n (λ q. refl))
  total-sum (e ∷ es) n sorted reach =
      let rest = total-sum es n (second _ (is_sorted nat_cmp es) sorted) (omega arith) in
      let only : (q : ℕ) → eq_by_cmp nat_cmp q e.0 ≡ true → q ≡ e.0 = λ q is. eqb-true q e.0 (sym (unsigned_tied q e.0) ∙ is) in
      let alone : (q : ℕ) → eq_by_cmp nat_cmp q e.0 ≡ true → find nat_cmp q es ≡ None
      = λ q is. subst (λ (m : ℕ). find nat_cmp m es ≡ None) (sym (only q is)) (find-none e.0 es (first _ _ sorted)) in
      let each = sum-same (λ q. weight_of weight (find nat_cmp q (e ∷ es))) (λ q. cond (eq_by_cmp nat_cmp q e.0) (weight e.1) 0 + weight_of weight (find nat_cmp q es)) n
      (λ q. split-one (eq_by_cmp nat_cmp q e.0) e.1 (find nat_cmp q es) (alone q)) in
      let parts = sum-add (λ q. cond (eq_by_cmp nat_cmp q e.0) (weight e.1) 0) (λ q. weight_of weight (find nat_cmp q es)) n in
      let one = sum-one (λ q. eq_by_cmp nat_cmp q e.0) e.0 (weight e.1) only (unsigned_tied e.0 e.0 ∙ eq-eqb e.0 e.0 refl) n (omega arith) in
      omega (arith, each, parts, one, rest)

  -- The total of a map is the sum of the weights at all numbers below one that no key reaches.
  pub map-sum : (m : FinMap nat_cmp X) (n : ℕ) → top (entries m) ≤ n → total weight (entries m) ≡ sum-below (λ q. weight_of weight (get m q)) n
  map-sum m n reach =
      total-sum (entries m) n (entries_sorted m) reach
      ∙ sum-same (λ q. weight_of weight (find nat_cmp q (entries m))) (λ q. weight_of weight (get m q)) n (λ q. ap (weight_of weight) (sym (get-entries m q)))
