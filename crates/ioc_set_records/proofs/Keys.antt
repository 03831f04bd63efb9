-- The numbers of a set's records, one after another.
use Rattle.std.proofs.Common.{Ordering, Less, Equal, Greater, ◌≡◌, ℕ, ◌<◌, ◌+◌, true, List, Some, length, sym, ap, ◌∙◌, refl, subst, ⊎_elim, arith, get_or}
use Rattle.std.specs.Prelude.{slice_get}
use Rattle.std.specs.Ordering.{nat_cmp, eq_by_cmp, is_eq}
use Rattle.std.specs.FinMap.{FinMap, keys, len, entries, contains_key, contains_key-keys, len-entries, nat_cmp-IsAntisymmetric}
use Rattle.std.proofs.lemmas.Bool.{cases_eq}
use Rattle.std.proofs.lemmas.List.{length-map, get_or_default}
use Rattle.std.proofs.lemmas.Option.{slice_get-get_or, slice_get_within, get_or_from_slice_get}
use Rattle.std.proofs.lemmas.Cmp.{eq_by_cmp_equiv, nat_cmp_total}
use Rattle.std.proofs.lemmas.Map.Views.{Contains-from_any, list_any-from_Contains}

equal_of : (o : Ordering) → is_eq o ≡ true → o ≡ Equal
equal_of Less e = cc
equal_of Equal e = refl
equal_of Greater e = cc

tie : (x y : ℕ) → eq_by_cmp nat_cmp x y ≡ true → x ≡ y
tie x y e = nat_cmp-IsAntisymmetric x y (equal_of (nat_cmp x y) e)

module _ {X : Type 0} (m : FinMap nat_cmp X) where
  pub key_there : (i q : ℕ) → slice_get (keys m) i ≡ Some q → contains_key m q ≡ true
  key_there i q e =
      contains_key-keys m q
      ∙ list_any-from_Contains (eq_by_cmp_equiv nat_cmp_total) q (keys m) (i, slice_get_within (keys m) i q e, get_or_from_slice_get (keys m) i q q e)

  pub there_key : (q : ℕ) → contains_key m q ≡ true → (i : ℕ) × (i < length (keys m)) × (slice_get (keys m) i ≡ Some q)
  there_key q has =
      let c = Contains-from_any tie q (keys m) (sym (contains_key-keys m q) ∙ has) in
      (c.0, c.1, slice_get-get_or (keys m) c.0 q c.1 ∙ ap (λ (n : ℕ). Some n) c.2)

  pub keys_count : len m ≡ length (keys m)
  keys_count = len-entries m ∙ sym (length-map (entries m) (λ e. e.0))

-- A property of the items so far and of the next holds of one more item.
pub all_and_next : {X : Type 0} (P : X → Type 0) (xs : List X) (n : ℕ) (x : X) → n < length xs → x ≡ get_or xs n x → P x → ((i : ℕ) (d : X) → i < n → P (get_or xs i d))
    → (i : ℕ) (d : X) → i < n + 1 → P (get_or xs i d)
all_and_next P xs n x within at here before i d l =
    ⊎_elim
    (λ (e : i ≡ n). subst P (at ∙ get_or_default xs n x d within ∙ ap (λ j. get_or xs j d) (sym e)) here)
    (λ a. before i d (omega arith))
    (cases_eq i n)
