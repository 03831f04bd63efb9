-- A sum over the values of a finite map when one of them changes.
use Rattle.std.proofs.Common.{◌≡◌, ℕ, ◌+◌, Bool, true, false, cond, ◌&&◌, T, List, [], ◌∷◌, Option, Some, None, refl, sym, ap, subst, ◌∙◌, arith}
use Rattle.ioc_store.specs.World.{total}
use Rattle.std.specs.declared.cmp.Ordering.{Ordering}
use Rattle.std.specs.declared.cmp.Ordering.TheVariants.{Less, Equal, Greater}
use Rattle.std.specs.Ordering.{nat_cmp, is_lt, is_eq}
use Rattle.std.specs.Cmp.{nat_cmp_total}
use Rattle.std.specs.FinMap.{FinMap, get, get-entries, insert, entries, entries_sorted, entries-insert, find}
use Rattle.std.specs.FinMap.Entries.{put, is_sorted, below_all, by_order}

pub first : (a b : Bool) → T (a && b) → T a
first true b p = tt
first false b p = p

pub second : (a b : Bool) → T (a && b) → T b
second true b p = p
second false b p = absurd p

pub less : (o : Ordering) → T (is_lt o) → o ≡ Less
less Less p = refl
less Equal p = absurd p
less Greater p = absurd p

find_below : {X : Type 0} (k q : ℕ) (es : List (ℕ × X)) → nat_cmp k q ≡ Less → T (below_all nat_cmp q es) → find nat_cmp k es ≡ None
find_below k q [] is_less below = refl
find_below k q (e ∷ es) is_less below =
    ap (λ r. cond (is_eq r) (Some e.1) (find nat_cmp k es)) (nat_cmp_total.trans k q e.0 is_less (less _ (first _ _ below)))
    ∙ find_below k q es is_less (second _ _ below)

module _ {X : Type 0} (weight : X → ℕ) where
  abbrev pub weight_of : Option X → ℕ
  weight_of None = 0
  weight_of (Some x) = weight x

  total-put : (k : ℕ) (v : X) (es : List (ℕ × X)) → T (is_sorted nat_cmp es) → total weight (put nat_cmp k v es) + weight_of (find nat_cmp k es) ≡ total weight es + weight v
  total-put k v [] sorted = omega arith
  total-put k v (e ∷ es) sorted =
      elim (nat_cmp k e.0) as (λ r. nat_cmp k e.0 ≡ r → total weight (by_order r ((k, v) ∷ e ∷ es) ((e.0, v) ∷ es) (e ∷ put nat_cmp k v es)) + weight_of (cond (is_eq r) (Some e.1) (find nat_cmp k es)) ≡ (weight e.1 + total weight es) + weight v) [
        | Less ↦ λ is_less. subst (λ (o : Option X). (weight v + (weight e.1 + total weight es)) + weight_of o ≡ (weight e.1 + total weight es) + weight v) (sym (find_below k e.0 es is_less (first _ _ sorted))) (omega arith)
        | Equal ↦ λ _. omega arith
        | Greater ↦ λ _. omega (arith, total-put k v es (second _ _ sorted))
      ] refl

  pub total-insert : (m : FinMap nat_cmp X) (k : ℕ) (v : X) → total weight (entries (insert m k v)) + weight_of (get m k) ≡ total weight (entries m) + weight v
  total-insert m k v = rw (entries-insert nat_cmp_total m k v, get-entries m k) (total-put k v (entries m) (entries_sorted m))
