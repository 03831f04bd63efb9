-- The number of records that await a completion, one record after another.
use Rattle.std.proofs.Common.{◌≡◌, ℕ, ◌+◌, ◌≤◌, cond, drop, Option, Some, None, is_some, ap, ◌∙◌, subst, arith}
use Rattle.std.specs.Prelude.{slice_get}
use Rattle.std.specs.FinMap.{len, len-entries, entries, keys}
use Rattle.std.proofs.lemmas.List.{drop_all}
use Rattle.ioc_record.specs.RecordRules.{RecordRules}
use Rattle.ioc_set_records.specs.Contents.{Records, record_at}
use Rattle.ioc_store.specs.World.{total}
use Rattle.ioc_set.specs.Awaiting.{one_if_awaits}
use Rattle.ioc_set.proofs.Entries.{entry-next}

module _ {R : Type 0} (k : RecordRules R) (m : Records R) where
  -- The number of records from a place on that await a completion.
  awaits-at : (i q : ℕ) → slice_get (keys m) i ≡ Some q → (o : Option ℕ) → (k.common (record_at k m q)).pending ≡ o
      → total (one_if_awaits k) (drop i (entries m)) ≡ cond (is_some o) 1 0 + total (one_if_awaits k) (drop (i + 1) (entries m))
  awaits-at i q is o has =
      ap (total (one_if_awaits k)) (entry-next k m i q is) ∙ ap (λ (p : Option ℕ). cond {A = ℕ} (is_some p) 1 0 + total (one_if_awaits k) (drop (i + 1) (entries m))) has

  -- The count goes on if it is one more where the record at a place awaits a completion, and
  -- otherwise the same.
  pub awaits-on : (i q count after : ℕ) → slice_get (keys m) i ≡ Some q → (o : Option ℕ) → (k.common (record_at k m q)).pending ≡ o → after ≡ count + cond (is_some o) 1 0
      → (count + total (one_if_awaits k) (drop i (entries m)) ≡ total (one_if_awaits k) (entries m)) × (count ≤ i)
      → (after + total (one_if_awaits k) (drop (i + 1) (entries m)) ≡ total (one_if_awaits k) (entries m)) × (after ≤ i + 1)
  awaits-on i q count after is None has now so_far = let next = awaits-at i q is None has in (omega (arith, next, now, so_far.0), omega (arith, now, so_far.1))
  awaits-on i q count after is (Some n) has now so_far = let next = awaits-at i q is (Some n) has in (omega (arith, next, now, so_far.0), omega (arith, now, so_far.1))

  pub awaits-past : (i : ℕ) → len m ≤ i → total (one_if_awaits k) (drop i (entries m)) ≡ 0
  awaits-past i past = ap (total (one_if_awaits k)) (drop_all i (entries m) (subst (λ (n : ℕ). n ≤ i) (len-entries m) past))
