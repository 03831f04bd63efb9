-- A list that has no item more often than another is no longer than that.
use Rattle.std.proofs.Common.{◌≡◌, ℕ, ◌+◌, ◌≤◌, Bool, true, false, cond, eqb, List, [], ◌∷◌, length, refl, sym, ap, subst, arith}
use Rattle.std.proofs.lemmas.Bool.{eqb-true, eq-eqb}
use Rattle.ioc_events.specs.Holding.{how_many}
use Rattle.ioc_events.proofs.Counting.{one_if}

module _ {B : Type 0} (g : B → ℕ) (m : ℕ) where
  -- The list without the first item with this number.
  abbrev without_one : List B → List B
  without_one [] = []
  without_one (y ∷ ys) = cond (eqb (g y) m) ys (y ∷ without_one ys)

  without-shorter : (ys : List B) → 1 ≤ how_many g m ys → length (without_one ys) + 1 ≡ length ys
  without-shorter [] some = absurd (let z : ⊥ = omega (arith, some) in z)
  without-shorter (y ∷ ys) some = elim (eqb (g y) m) as (λ b. 1 ≤ cond b (1 + how_many g m ys) (how_many g m ys) → length (cond b ys (y ∷ without_one ys)) + 1 ≡ length (y ∷ ys)) [
    | true ↦ λ _. omega arith
    | false ↦ λ rest. omega (arith, without-shorter ys rest)
  ] some

  without-counts : (n : ℕ) (ys : List B) → 1 ≤ how_many g m ys → how_many g n (without_one ys) + one_if (eqb m n) ≡ how_many g n ys
  without-counts n [] some = absurd (let z : ⊥ = omega (arith, some) in z)
  without-counts n (y ∷ ys) some =
      elim (eqb (g y) m) as (λ b. eqb (g y) m ≡ b → 1 ≤ cond b (1 + how_many g m ys) (how_many g m ys)
      → how_many g n (cond b ys (y ∷ without_one ys)) + one_if (eqb m n) ≡ cond (eqb (g y) n) (1 + how_many g n ys) (how_many g n ys)) [
        | true ↦ λ e _.
            let same : eqb m n ≡ eqb (g y) n = ap (λ (x : ℕ). eqb x n) (sym (eqb-true (g y) m e)) in
            subst (λ (c : Bool). how_many g n ys + one_if c ≡ cond (eqb (g y) n) (1 + how_many g n ys) (how_many g n ys)) (sym same)
            (elim (eqb (g y) n) as (λ c. how_many g n ys + one_if c ≡ cond c (1 + how_many g n ys) (how_many g n ys)) [
              | true ↦ omega arith
              | false ↦ omega arith
            ])
        | false ↦ λ e rest.
            let less = without-counts n ys rest in
            elim (eqb (g y) n) as (λ c. cond c (1 + how_many g n (without_one ys)) (how_many g n (without_one ys)) + one_if (eqb m n) ≡ cond c (1 + how_many g n ys) (how_many g n ys)) [
              | true ↦ omega (arith, less)
              | false ↦ omega (arith, less)
            ]
      ] refl some

one-first : (b : Bool) (a c : ℕ) → cond b (1 + a) a ≤ c → one_if b + a ≤ c
one-first true a c le = omega (arith, le)
one-first false a c le = omega (arith, le)

pub fewer : {A B : Type 0} (f : A → ℕ) (g : B → ℕ) (xs : List A) (ys : List B) → ((n : ℕ) → how_many f n xs ≤ how_many g n ys) → length xs ≤ length ys
fewer f g [] ys few = omega arith
fewer f g (x ∷ xs) ys few =
    let m = f x in
    let same : eqb m m ≡ true = eq-eqb m m refl in
    let here : 1 + how_many f m xs ≤ how_many g m ys = subst (λ (b : Bool). cond b (1 + how_many f m xs) (how_many f m xs) ≤ how_many g m ys) same (few m) in
    let some : 1 ≤ how_many g m ys = omega (arith, here) in
    let rest : (n : ℕ) → how_many f n xs ≤ how_many g n (without_one g m ys) = λ n.
    let less = without-counts g m n ys some in
    let each : one_if (eqb m n) + how_many f n xs ≤ how_many g n ys = one-first (eqb m n) (how_many f n xs) (how_many g n ys) (few n) in
    omega (arith, less, each) in
    omega (arith, without-shorter g m ys some, fewer f g xs (without_one g m ys) rest)
