-- The numbers of a set's records, and their keys.
use Rattle.std.proofs.Common.{Ordering, Less, Equal, Greater, ◌≡◌, ℕ, zero, suc, true, List, [], ◌∷◌, length, map, sym, ap, ◌∙◌, refl, inl, inr, ⊎_elim, arith}
use Rattle.std.specs.Prelude.{Contains}
use Rattle.std.specs.Ordering.{nat_cmp, eq_by_cmp, is_eq}
use Rattle.std.specs.FinMap.{FinMap, keys, len, empty, entries, contains_key, contains_key-keys, len-entries, len-empty, nat_cmp-IsAntisymmetric}
use Rattle.std.proofs.lemmas.List.{length-map}
use Rattle.std.proofs.lemmas.Cmp.{eq_by_cmp_equiv, nat_cmp_total}
use Rattle.std.proofs.lemmas.Map.Views.{Contains-from_any, list_any-from_Contains}
use Rattle.ioc_journal.specs.Key.{Key, Has, record_keys}

equal_of : (o : Ordering) → is_eq o ≡ true → o ≡ Equal
equal_of Less e = cc
equal_of Equal e = refl
equal_of Greater e = cc

pub tie : (x y : ℕ) → eq_by_cmp nat_cmp x y ≡ true → x ≡ y
tie x y e = nat_cmp-IsAntisymmetric x y (equal_of (nat_cmp x y) e)

module _ {X : Type 0} (m : FinMap nat_cmp X) where
  pub key_there : (n : ℕ) → Contains (keys m) n → contains_key m n ≡ true
  key_there n c = contains_key-keys m n ∙ list_any-from_Contains (eq_by_cmp_equiv nat_cmp_total) n (keys m) c

  pub there_key : (n : ℕ) → contains_key m n ≡ true → Contains (keys m) n
  there_key n has = Contains-from_any tie n (keys m) (sym (contains_key-keys m n) ∙ has)

  pub keys_count : len m ≡ length (keys m)
  keys_count = len-entries m ∙ sym (length-map (entries m) (λ e. e.0))

pub record_contains : (key : Key) (ns : List ℕ) → Has key (record_keys ns) → Contains ns key.1
record_contains key [] h = absurd h
record_contains key (x ∷ xs) h =
    ⊎_elim (λ (e : (0, x) ≡ key). (zero, omega arith, ap (λ (p : Key). p.1) e))
    (λ (t : Has key (record_keys xs)). let c = record_contains key xs t in (suc c.0, (let lt = c.1 in omega (arith, lt)), c.2)) h

pub contains_record : (n : ℕ) (ns : List ℕ) → Contains ns n → Has (0, n) (record_keys ns)
contains_record n [] (i, lt, is) = absurd (omega (arith, lt))
contains_record n (x ∷ xs) (zero, lt, is) = inl (ap (λ (m : ℕ). (0, m)) is)
contains_record n (x ∷ xs) (suc i, lt, is) = inr (contains_record n xs (i, omega (arith, lt), is))

no_entries : {A : Type 0} (xs : List A) → length xs ≡ 0 → xs ≡ []
no_entries [] e = refl
no_entries (x ∷ xs) e = absurd (let z : ⊥ = omega (arith, e) in z)

pub no_keys : (X : Type 0) → keys (empty {K = ℕ} {X = X} {R = nat_cmp}) ≡ []
no_keys X = ap (λ l. map (λ e. e.0) l) (no_entries (entries (empty {K = ℕ} {X = X} {R = nat_cmp})) (sym (len-entries (empty {K = ℕ} {X = X} {R = nat_cmp})) ∙ len-empty nat_cmp X))
