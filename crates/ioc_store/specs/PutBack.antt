-- A record that is put back unchanged changes nothing.
use Rattle.std.proofs.Common.{◌≡◌, ℕ, true, false, cond, eqb, Option, Some, None as Nothing_, IsTrue, is_some, unwrap_or, refl, ap, ◌∙◌, arith}
use Rattle.std.specs.Prelude.{Result, Ok, Err, OnOk, OnErr}
use Rattle.std.specs.Ordering.{nat_cmp, eq_by_cmp}
use Rattle.std.specs.Cmp.{nat_cmp_total, unsigned_tied}
use Rattle.std.specs.FinMap.{FinMap, get, contains_key, same_map, get-insert, nat_cmp-IsAntisymmetric}
use Rattle.std.proofs.lemmas.Grind.{common_steps}
use Rattle.ioc_record.specs.RecordRules.{RecordRules}
use Rattle.ioc_store.specs.World.{World, Has, at, put}

module _ {R : Type 0} (k : RecordRules R) where
  found : (o : Option R) → IsTrue (is_some o) → Some (unwrap_or o k.missing) ≡ o
  found Nothing_ is = cc
  found (Some r) is = refl

  found_at : (m : FinMap nat_cmp R) (n q : ℕ) → IsTrue (contains_key m n) → cond (eq_by_cmp nat_cmp q n) (Some (unwrap_or (get m n) k.missing)) (get m q) ≡ get m q
  found_at m n q has =
      rw (unsigned_tied q n) (elim (eqb q n) as (λ b. eqb q n ≡ b → cond b (Some (unwrap_or (get m n) k.missing)) (get m q) ≡ get m q) [
        | true ↦ λ e. let is : n ≡ q = grind (arith, common_steps) in found (get m n) has ∙ ap (get m) is
        | false ↦ λ _. refl
      ] refl)

  -- A record that is put back unchanged changes nothing.
  pub put-at : (w : World R) (n : ℕ) → Has w n → put w n (at k w n) ≡ w
  unfolding put at
  put-at w n has = ap (λ (m : FinMap nat_cmp R). record w { records = m })
      (same_map nat_cmp_total nat_cmp-IsAntisymmetric _ _ (λ q. get-insert nat_cmp_total w.records n _ q ∙ found_at w.records n q has))

pub on_ok : {X E : Type 0} (r : Result X E) (P : Type 0) → P → OnOk r P
on_ok (Ok x) P p = p
on_ok (Err e) P p = tt

pub on_err_as : {X E : Type 0} (r : Result X E) (P Q : Type 0) → (P → Q) → OnErr r P → OnErr r Q
on_err_as (Ok x) P Q f p = tt
on_err_as (Err e) P Q f p = f p
