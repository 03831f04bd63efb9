-- The number of records of two sets that share those of a third.
use Rattle.std.proofs.Common.{◌≡◌, ℕ, zero, suc, Bool, true, false, cond, List, [], ◌∷◌, length, Option, None, refl, sym, ap, ◌∙◌, inl, inr, ◌+◌, ◌-◌, ◌<◌, arith}
use Rattle.std.specs.Prelude.{◌⊎◌, Contains, IsSome, is_some}
use Rattle.std.specs.Ordering.{nat_cmp, eq_by_cmp}
use Rattle.std.specs.FinMap.{FinMap, get, keys, len, insert, remove, empty_of_len, get-empty, get-remove, len-insert, len-remove, same_map, nat_cmp-IsAntisymmetric}
use Rattle.std.proofs.lemmas.Cmp.{nat_cmp_total}
use Rattle.ioc_fields.specs.declared.field_no.FieldNo.{FieldNo}
use Rattle.ioc_dbcommon.specs.Links.{no_link}
use Rattle.ioc_record.specs.RecordRules.{RecordRules}
use Rattle.ioc_set_records.specs.Contents.{record_at}
use Rattle.ioc_set_records.specs.Joined.{AreShared, HasLink, relinked}
use Rattle.ioc_set.specs.SetState.{SetState}
use Rattle.ioc_set.specs.Linking.{FallsApart}
use Rattle.ioc_journaled_set.proofs.Dealing.{none_some, of_other}
use Rattle.ioc_journaled_set.proofs.Keys.{key_there, keys_count, tie}

first_of : (xs : List ℕ) (n : ℕ) → length xs ≡ suc n → (q : ℕ) × Contains xs q
first_of [] n e = absurd (let z : ⊥ = omega (arith, e) in z)
first_of (x ∷ xs) n e = (x, (zero, omega arith, refl))

module _ {X : Type 0} where
  none_of : (m : FinMap nat_cmp X) → len m ≡ 0 → (q : ℕ) → get m q ≡ None
  none_of m none q = ap (λ (x : FinMap nat_cmp X). get x q) (empty_of_len m none) ∙ get-empty nat_cmp q

  at_key : (m : FinMap nat_cmp X) (q r : ℕ) → eq_by_cmp nat_cmp r q ≡ true → get (remove m q) r ≡ None
  at_key m q r is = get-remove nat_cmp_total m q r ∙ ap (λ (b : Bool). cond {A = Option X} b None (get m r)) is

  beside_key : (m : FinMap nat_cmp X) (q r : ℕ) → eq_by_cmp nat_cmp r q ≡ false → get (remove m q) r ≡ get m r
  beside_key m q r is = get-remove nat_cmp_total m q r ∙ ap (λ (b : Bool). cond {A = Option X} b None (get m r)) is

  less_by_one : (m : FinMap nat_cmp X) (q : ℕ) → IsSome (get m q) → len (remove m q) + 1 ≡ len m
  less_by_one m q has = one_less (len m) (len (remove m q)) (len-remove nat_cmp_total m q ∙ ap (λ (b : Bool). cond b (len m - 1) (len m)) has) (λ none. none_some (get m q) (none_of m none q) has)
    where
      one_less : (a b : ℕ) → b ≡ a - 1 → (a ≡ 0 → ⊥) → b + 1 ≡ a
      one_less zero b is some = absurd (some refl)
      one_less (suc a) b is some = omega (arith, is)

  module _ (f g h : FinMap nat_cmp X) (shared : AreShared (get f) (get g) (get h)) (q : ℕ) (has : IsSome (get h q)) where
    not_in_first : get g q ≡ None
    not_in_first = elim (shared q) [
      | inl p ↦ absurd (none_some (get h q) p.1 has)
      | inr p ↦ p.0
    ]

    without_key : (r : ℕ) (b : Bool) → eq_by_cmp nat_cmp r q ≡ b → ((get g r ≡ get (remove f q) r) × (get (remove h q) r ≡ None)) ⊎ ((get g r ≡ None) × (get (remove h q) r ≡ get (remove f q) r))
    without_key r true is = inl (ap (λ (x : ℕ). get g x) (tie r q is) ∙ not_in_first ∙ sym (at_key f q r is), at_key h q r is)
    without_key r false is = elim (shared r) [
      | inl p ↦ inl (p.0 ∙ sym (beside_key f q r is), beside_key h q r is ∙ p.1)
      | inr p ↦ inr (p.0, beside_key h q r is ∙ p.1 ∙ sym (beside_key f q r is))
    ]

  -- Two maps that share the entries of a third have as many entries together.
  shared_by : (n : ℕ) (f g h : FinMap nat_cmp X) → len h ≡ n → AreShared (get f) (get g) (get h) → len f ≡ len g + len h
  shared_by zero f g h none shared =
      let same : g ≡ f = same_map nat_cmp_total nat_cmp-IsAntisymmetric g f (λ q. elim (shared q) [
        | inl p ↦ p.0
        | inr p ↦ p.0 ∙ sym (none_of h none q) ∙ p.1
      ]) in
      let counts : len g ≡ len f = ap (λ (m : FinMap nat_cmp X). len m) same in
      omega (arith, counts, none)
  shared_by (suc n) f g h some shared =
      let key = first_of (keys h) n (sym (keys_count h) ∙ some) in
      let has : IsSome (get h key.0) = key_there h key.0 key.1 in
      let fewer = less_by_one h key.0 has in
      let fewer_of_all = less_by_one f key.0 (of_other (get f) (get g) (get h) shared key.0 has) in
      let rest = shared_by n (remove f key.0) g (remove h key.0) (omega (arith, fewer, some)) (λ r. without_key f g h shared key.0 has r (eq_by_cmp nat_cmp r key.0) refl) in
      omega (arith, fewer, fewer_of_all, rest)

  pub shared_count : (f g h : FinMap nat_cmp X) → AreShared (get f) (get g) (get h) → len f ≡ len g + len h
  shared_count f g h shared = shared_by (len h) f g h refl shared

  -- A map with an entry isn't empty.
  pub some_len : (m : FinMap nat_cmp X) (q : ℕ) → IsSome (get m q) → 0 < len m
  some_len m q has = let less = less_by_one m q has in omega (arith, less)

  -- Setting an entry that is there adds no entry.
  pub set_count : (m : FinMap nat_cmp X) (n : ℕ) (x : X) → IsSome (get m n) → len (insert m n x) ≡ len m
  set_count m n x has = len-insert nat_cmp_total m n x ∙ ap (λ (b : Bool). cond b (len m) (len m + 1)) has

-- If the link of a record is removed, the part that stays with the record and the rest have as many
-- records together as the set had.
pub part_count : {R D : Type 0} (k : RecordRules R) (before stay rest : SetState R D) (s : ℕ) (field : FieldNo) → HasLink k before.records s field → FallsApart before (relinked k before.records s field no_link) s stay rest
    → length (keys before.records) - length (keys rest.records) ≡ len stay.records
part_count {R} k before stay rest s field has falls =
    let there : IsSome (get before.records s) = ap (λ (o : Option R). is_some o) has.1 in
    let all = shared_count (relinked k before.records s field no_link) stay.records rest.records falls.shared in
    let same = set_count before.records s (k.with_link (record_at k before.records s) field no_link) there in
    let a = keys_count before.records in
    let b = keys_count rest.records in
    omega (arith, all, same, a, b)
