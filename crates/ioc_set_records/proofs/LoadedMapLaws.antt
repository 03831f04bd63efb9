-- Finite maps from numbers: their lookups after a number is set.
use Rattle.std.proofs.Common.{◌≡◌, ◌≢◌, ℕ, Some, cond, true, false, refl, ap, ◌∙◌, arith}
use Rattle.std.specs.Prelude.{◌==◌}
use Rattle.std.specs.Ordering.{nat_cmp}
use Rattle.std.specs.Cmp.{nat_cmp_total, unsigned_tied}
use Rattle.std.specs.FinMap.{FinMap, get, insert, get-insert}
use Rattle.std.proofs.lemmas.Bool.Decides.{nat_tests}

pub same_number : (q k : ℕ) → q ≡ k → (q == k) ≡ true
same_number q k e = grind (arith, nat_tests)

pub other_number : (q k : ℕ) → q ≢ k → (q == k) ≡ false
other_number q k e = grind (arith, nat_tests)

module _ {X : Type 0} where
  get_inserted : (m : FinMap nat_cmp X) (k : ℕ) (v : X) (q : ℕ) → get (insert m k v) q ≡ cond (q == k) (Some v) (get m q)
  get_inserted m k v q = get-insert nat_cmp_total m k v q ∙ ap (λ b. cond b (Some v) (get m q)) (unsigned_tied q k)

  pub get_here : (m : FinMap nat_cmp X) (k : ℕ) (v : X) → get (insert m k v) k ≡ Some v
  get_here m k v = get_inserted m k v k ∙ ap (λ b. cond b (Some v) (get m k)) (same_number k k refl)

  pub get_there : (m : FinMap nat_cmp X) (k : ℕ) (v : X) (q : ℕ) → q ≢ k → get (insert m k v) q ≡ get m q
  get_there m k v q a = get_inserted m k v q ∙ ap (λ b. cond b (Some v) (get m q)) (other_number q k a)
