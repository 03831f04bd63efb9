-- The number of records that await a completion, as records are divided into two sets or replaced.
use Rattle.std.proofs.Common.{◌≡◌, ◌⊎◌, ℕ, ◌+◌, ◌≤◌, Bool, true, false, cond, List, [], Option, Some, None, is_some, unwrap_or, refl, sym, ap, subst, ◌∙◌, ⊎_elim, arith}
use Rattle.std.specs.Prelude.{IsSome}
use Rattle.std.specs.Ordering.{nat_cmp}
use Rattle.std.specs.FinMap.{FinMap, get, insert, entries, len, len-entries}
use Rattle.ioc_fields.specs.declared.field_no.FieldNo.{FieldNo}
use Rattle.ioc_dbcommon.specs.declared.common.Common.{Common}
use Rattle.ioc_dbcommon.specs.declared.link_field.LinkField.{LinkField}
use Rattle.ioc_dbcommon.specs.Steps.{change_numbered}
use Rattle.ioc_record.specs.RecordRules.{RecordRules}
use Rattle.ioc_record.specs.Laws.{IsLawful}
use Rattle.ioc_set_records.specs.Contents.{Records, record_at}
use Rattle.ioc_set_records.specs.Joined.{AreShared, relinked}
use Rattle.ioc_store.specs.World.{World, Has, at, begun, begun_at, put, changed, lost, total}
use Rattle.ioc_store.specs.Scanning.{rewired}
use Rattle.ioc_store.specs.ScanLaws.{rewired-either, moved-either}
use Rattle.ioc_store.specs.Weights.{weight_of, total-insert}
use Rattle.ioc_store.specs.Worlds.{sent_by, ones_few}
use Rattle.ioc_events.proofs.Sums.{sum-same, sum-add, sum-none, top, map-sum}
use Rattle.ioc_set.specs.Awaiting.{one_if_awaits, awaited}
use Rattle.ioc_set.specs.Resting.{resting}
use Rattle.ioc_set.specs.Linking.{NoneAwaits}
use Rattle.ioc_set.proofs.Linked.{has_begun}

-- Lemmas about sums.

module _ {X : Type 0} (weight : X → ℕ) where
  one-of-two : (o p r : Option X) → ((p ≡ o) × (r ≡ None)) ⊎ ((p ≡ None) × (r ≡ o)) → weight_of weight o ≡ weight_of weight p + weight_of weight r
  one-of-two o p r shared = ⊎_elim
      (λ s. let here = ap (weight_of weight) s.0 in let gone : weight_of weight r ≡ 0 = ap (weight_of weight) s.1 in omega arith)
      (λ s. let here = ap (weight_of weight) s.1 in let gone : weight_of weight p ≡ 0 = ap (weight_of weight) s.0 in omega arith)
      shared

  -- The sum over a map is the sum over the two maps that share it.
  pub shared-total : (all one other : FinMap nat_cmp X) → AreShared (get all) (get one) (get other) → total weight (entries all) ≡ total weight (entries one) + total weight (entries other)
  shared-total all one other shared =
      let n = top (entries all) + top (entries one) + top (entries other) in
      let whole = map-sum weight all n (omega arith) in
      let left = map-sum weight one n (omega arith) in
      let right = map-sum weight other n (omega arith) in
      let each = sum-same (λ q. weight_of weight (get all q)) (λ q. weight_of weight (get one q) + weight_of weight (get other q)) n (λ q. one-of-two (get all q) (get one q) (get other q) (shared q)) in
      let parts = sum-add (λ q. weight_of weight (get one q)) (λ q. weight_of weight (get other q)) n in
      omega (arith, whole, left, right, each, parts)

  none-total : (m : FinMap nat_cmp X) → ((q : ℕ) → weight_of weight (get m q) ≡ 0) → total weight (entries m) ≡ 0
  none-total m none = map-sum weight m (top (entries m)) (omega arith) ∙ sum-none (λ q. weight_of weight (get m q)) (top (entries m)) none

few-one : (b : Bool) → cond b 1 0 ≤ 1
few-one true = omega arith
few-one false = omega arith

module _ {R : Type 0} (k : RecordRules R) where
  pub awaited-shared : (all one other : Records R) → AreShared (get all) (get one) (get other) → awaited k all ≡ awaited k one + awaited k other
  unfolding awaited
  awaited-shared all one other shared = shared-total (one_if_awaits k) all one other shared

  -- At most all records await a completion.
  pub awaited-few : (rs : Records R) → awaited k rs ≤ len rs
  unfolding awaited
  awaited-few rs = omega (arith, len-entries rs, ones_few (one_if_awaits k) (λ r. few-one (is_some (k.common r).pending)) (entries rs))

  none-weight : (o : Option R) → (IsSome o → (k.common (unwrap_or o k.missing)).pending ≡ None) → weight_of (one_if_awaits k) o ≡ 0
  none-weight None none = refl
  none-weight (Some r) none = ap (λ (p : Option ℕ). cond {A = ℕ} (is_some p) 1 0) (none refl)

  pub awaited-none : (rs : Records R) → NoneAwaits k rs → awaited k rs ≡ 0
  unfolding awaited
  awaited-none rs none = none-total (one_if_awaits k) rs (λ q. none-weight (get rs q) (none q))

  weight-at : (o : Option R) → IsSome o → weight_of (one_if_awaits k) o ≡ one_if_awaits k (unwrap_or o k.missing)
  weight-at None there = cc
  weight-at (Some r) there = refl

  -- Replacing a record with one that has the same pending number keeps the count.
  pub awaited-set : (rs : Records R) (s : ℕ) (x : R) → IsSome (get rs s) → (k.common x).pending ≡ (k.common (record_at k rs s)).pending → awaited k (insert rs s x) ≡ awaited k rs
  unfolding awaited
  awaited-set rs s x there same =
      let all = total-insert (one_if_awaits k) rs s x in
      let was = weight-at (get rs s) there in
      let is : one_if_awaits k x ≡ one_if_awaits k (record_at k rs s) = ap (λ (o : Option ℕ). cond {A = ℕ} (is_some o) 1 0) same in
      omega (arith, all, was, is)

  module _ (lawful : IsLawful k) where
    -- Setting a link keeps the count.
    pub awaited-relinked : (rs : Records R) (s : ℕ) (field : FieldNo) (link : LinkField) → IsSome (get rs s) → awaited k (relinked k rs s field link) ≡ awaited k rs
    awaited-relinked rs s field link there = awaited-set rs s (k.with_link (record_at k rs s) field link) there (lawful.link_set_pending (record_at k rs s) field link)

    numbered : (w : World R) (s : ℕ) → Has w s → awaited k (changed k w s change_numbered).records ≡ awaited k w.records
    unfolding at changed put
    numbered w s there =
        let r = record_at k w.records s in
        awaited-set w.records s (k.with_common r (change_numbered (k.common r))) there (ap (λ (c : Common). c.pending) (lawful.common_set r (change_numbered (k.common r))))

    -- A change of a scan list keeps the count.
    awaited-rewired : (before : List ℕ) (w : World R) (s : ℕ) → Has w s → awaited k (rewired k before w s).records ≡ awaited k w.records
    unfolding lost
    awaited-rewired before w s there =
        rewired-either k (λ (x : World R). awaited k x.records ≡ awaited k w.records) before w s refl
        (moved-either k (λ (x : World R). awaited k x.records ≡ awaited k w.records) w s
        (λ item. subst (λ (x : World R). awaited k x.records ≡ awaited k w.records) (sent_by item (changed k w s change_numbered)) (numbered w s there)) refl)

    begun-records : (moment : ℕ) (rs : Records R) → (begun_at moment (resting rs [] [])).records ≡ rs
    unfolding begun_at begun
    begun-records moment rs = refl

    pub awaited-rescanned : (rs after : Records R) (before : List ℕ) (moment s : ℕ) → IsSome (get rs s) → after ≡ (rewired k before (begun_at moment (resting rs [] [])) s).records → awaited k after ≡ awaited k rs
    awaited-rescanned rs after before moment s there is =
        ap (awaited k) is ∙ awaited-rewired before (begun_at moment (resting rs [] [])) s (has_begun rs [] [] moment s there) ∙ ap (awaited k) (begun-records moment rs)

    -- If a set is divided, its count is the sum of both.
    pub awaited-parted : (rs stay rest : Records R) (s : ℕ) (field : FieldNo) (link : LinkField) → IsSome (get rs s) → AreShared (get (relinked k rs s field link)) (get stay) (get rest)
        → awaited k rs ≡ awaited k stay + awaited k rest
    awaited-parted rs stay rest s field link there shared = sym (awaited-relinked rs s field link there) ∙ awaited-shared (relinked k rs s field link) stay rest shared

    -- If two sets become one, its count is the sum of both.
    pub awaited-joined : (rs others both : Records R) (s : ℕ) (field : FieldNo) (link : LinkField) → IsSome (get rs s) → AreShared (get both) (get (relinked k rs s field link)) (get others)
        → awaited k both ≡ awaited k rs + awaited k others
    awaited-joined rs others both s field link there shared =
        awaited-shared both (relinked k rs s field link) others shared ∙ ap (λ (n : ℕ). n + awaited k others) (awaited-relinked rs s field link there)
