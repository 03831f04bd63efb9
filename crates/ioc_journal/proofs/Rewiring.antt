-- The effect of a link change on a world: one record has another link, and perhaps a higher number
-- of scan list changes.
use Rattle.std.proofs.Common.{◌≡◌, ◌≢◌, ℕ, ◌+◌, ◌-◌, ◌^◌, Bool, true, false, cond, eqb, List, Option, Some, None, nat_lt, nat_eq, refl, sym, ap, ◌∙◌, arith}
use Rattle.std.specs.Prelude.{is_some, unwrap_or}
use Rattle.std.specs.FinMap.{FinMap, get, insert, gets}
use Rattle.std.specs.Ordering.{nat_cmp}
use Rattle.std.specs.Cmp.Lexicographic.{pointwise}
use Rattle.std.proofs.lemmas.Grind.{common_steps}
use Rattle.ioc_fields.specs.declared.field_no.FieldNo.{FieldNo}
use Rattle.ioc_dbcommon.specs.declared.common.Common.{Common}
use Rattle.ioc_dbcommon.specs.declared.link_field.LinkField.{LinkField}
use Rattle.ioc_dbcommon.specs.Steps.{change_numbered}
use Rattle.ioc_record.specs.RecordRules.{RecordRules}
use Rattle.ioc_record.specs.Laws.{IsLawful}
use Rattle.ioc_store.specs.declared.outbox.OutboxItem.{OutboxItem}
use Rattle.ioc_store.specs.declared.outbox.OutboxItem.TheVariants.{Change}
use Rattle.ioc_store.specs.World.{World, Has, at, common_at, put, changed, sent, lost, is_notification}
use Rattle.ioc_store.specs.Scanning.{device_of, moved, rewired, with_link_changed}
use Rattle.ioc_store.specs.Weights.{weight_of}
use Rattle.ioc_store.specs.Worlds.{at-put_same, sent_by}
use Rattle.ioc_events.specs.Holding.{one_if_has}
use Rattle.ioc_events.proofs.Rewired.{rewired-leaves}

-- The lookup function of a map in which one record was set.
abbrev pub set-at : {R : Type 0} → ℕ → R → (ℕ → Option R) → ℕ → Option R
set-at s r f q = cond (eqb q s) (Some r) (f q)

module _ {R : Type 0} (k : RecordRules R) where
  pub get-put : (w : World R) (s : ℕ) (r : R) (q : ℕ) → get (put w s r).records q ≡ set-at s r (get w.records) q
  unfolding put
  get-put w s r q = elim (eqb q s) as (λ b. eqb q s ≡ b → get (insert w.records s r) q ≡ cond b (Some r) (get w.records q)) [
    | true ↦ λ is. let e : q ≡ s = grind (arith, common_steps) in rw e (grind (gets, arith, common_steps))
    | false ↦ λ is. let apart : q ≢ s = grind (arith, common_steps) in grind (gets, arith, common_steps)
  ] refl

  -- Setting a record to its own value changes nothing.
  pub set-same : (w : World R) (s : ℕ) → Has w s → (q : ℕ) → get w.records q ≡ set-at s (at k w s) (get w.records) q
  unfolding at
  set-same w s there q = elim (eqb q s) as (λ b. eqb q s ≡ b → get w.records q ≡ cond b (Some (unwrap_or (get w.records s) k.missing)) (get w.records q)) [
    | true ↦ λ is. let e : q ≡ s = grind (arith, common_steps) in ap (get w.records) e ∙ is-there (get w.records s) there
    | false ↦ λ is. refl
  ] refl
    where
      is-there : (o : Option R) → is_some o ≡ true → o ≡ Some (unwrap_or o k.missing)
      is-there None there = cc
      is-there (Some r) there = refl

  sent-records : (item : OutboxItem) (w : World R) → (sent item w).records ≡ w.records
  sent-records item w = ap (λ (x : World R). x.records) (sym (sent_by item w))

  -- The record with its scan list change numbered, if there is a number left.
  abbrev renumbered : R → R
  renumbered r = cond (nat_lt (k.common r).last_change (2 ^ 64 - 1)) (k.with_common r (change_numbered (k.common r))) r

  abbrev pub landed : List ℕ → R → R
  landed before r = cond (pointwise nat_eq before (device_of k r)) r (renumbered r)

  moved-get : (w : World R) (s : ℕ) → Has w s → (q : ℕ) → get (moved k w s).records q ≡ set-at s (renumbered (at k w s)) (get w.records) q
  unfolding moved changed lost
  moved-get w s there q =
      let last = (common_at k w s).last_change in
      elim (nat_lt last (2 ^ 64 - 1)) as (λ b. get (cond b (sent (Change (record { target = s; number = last + 1; scanning = (common_at k w s).scanning; device = device_of k (at k w s) })) (changed k w s change_numbered)) (lost w)).records q
      ≡ set-at s (cond b (k.with_common (at k w s) (change_numbered (common_at k w s))) (at k w s)) (get w.records) q) [
        | true ↦ ap (λ (m : FinMap nat_cmp R). get m q) (sent-records _ _) ∙ get-put w s _ q
        | false ↦ set-same w s there q
      ]

  pub rewired-get : (before : List ℕ) (w : World R) (s : ℕ) → Has w s → (q : ℕ) → get (rewired k before w s).records q ≡ set-at s (landed before (at k w s)) (get w.records) q
  unfolding rewired
  rewired-get before w s there q =
      elim (pointwise nat_eq before (device_of k (at k w s))) as (λ b. get (cond b w (moved k w s)).records q ≡ set-at s (cond b (at k w s) (renumbered (at k w s))) (get w.records) q) [
        | true ↦ set-same w s there q
        | false ↦ moved-get w s there q
      ]

  -- Link changes.

  -- The record with its link changed.
  abbrev pub changed-record : FieldNo → LinkField → R → R
  changed-record field link r = landed (device_of k r) (k.with_link r field link)

  pub put-there : (w : World R) (s : ℕ) (r : R) → Has (put w s r) s
  unfolding put
  put-there w s r = grind (gets, arith, common_steps)

  pub put-waiting : (w : World R) (s : ℕ) (r : R) → (put w s r).waiting ≡ w.waiting
  unfolding put
  put-waiting w s r = refl

  pub set-here : (s : ℕ) (r : R) (f : ℕ → Option R) → set-at s r f s ≡ Some r
  set-here s r f = let e : eqb s s ≡ true = grind (arith, common_steps) in ap (λ (b : Bool). cond b (Some r) (f s)) e

  -- Setting a value that the function already has changes nothing.
  pub set-again : (s : ℕ) (r : R) (f : ℕ → Option R) → f s ≡ Some r → (q : ℕ) → f q ≡ set-at s r f q
  set-again s r f is q = elim (eqb q s) as (λ b. eqb q s ≡ b → f q ≡ cond b (Some r) (f q)) [
    | true ↦ λ here. let e : q ≡ s = grind (arith, common_steps) in ap f e ∙ is
    | false ↦ λ there. refl
  ] refl

  pub set-twice : (s : ℕ) (r x : R) (f : ℕ → Option R) (q : ℕ) → set-at s r (set-at s x f) q ≡ set-at s r f q
  set-twice s r x f q = elim (eqb q s) as (λ b. cond b (Some r) (cond b (Some x) (f q)) ≡ cond b (Some r) (f q)) [
    | true ↦ refl
    | false ↦ refl
  ]

  pub changed-get : (w : World R) (s : ℕ) (field : FieldNo) (link : LinkField) (q : ℕ) → get (with_link_changed k w s field link).records q ≡ set-at s (changed-record field link (at k w s)) (get w.records) q
  changed-get w s field link q =
      let r = k.with_link (at k w s) field link in
      rewired-get (device_of k (at k w s)) (put w s r) s (put-there w s r) q
      ∙ ap (λ (x : R). set-at s (landed (device_of k (at k w s)) x) (get (put w s r).records) q) (at-put_same k w s r)
      ∙ ap (λ (o : Option R). cond (eqb q s) (Some (landed (device_of k (at k w s)) r)) o) (get-put w s r q)
      ∙ set-twice s (landed (device_of k (at k w s)) r) r (get w.records) q

  pub changed-waiting : (w : World R) (s : ℕ) (field : FieldNo) (link : LinkField) → (with_link_changed k w s field link).waiting ≡ w.waiting
  unfolding put
  changed-waiting w s field link = (rewired-leaves k (device_of k (at k w s)) (put w s (k.with_link (at k w s) field link)) s).waiting

  pub changed-calls : (w : World R) (s : ℕ) (field : FieldNo) (link : LinkField) → (with_link_changed k w s field link).calls ≡ w.calls
  unfolding put
  changed-calls w s field link = (rewired-leaves k (device_of k (at k w s)) (put w s (k.with_link (at k w s) field link)) s).calls

  -- A link change leaves the notification of the record unchanged.
  module _ (lawful : IsLawful k) where
    landed-holds : (before : List ℕ) (r : R) → (k.common (landed before r)).notification ≡ (k.common r).notification
    landed-holds before r = elim (pointwise nat_eq before (device_of k r)) as (λ b. (k.common (cond b r (renumbered r))).notification ≡ (k.common r).notification) [
      | true ↦ refl
      | false ↦ elim (nat_lt (k.common r).last_change (2 ^ 64 - 1)) as (λ b. (k.common (cond b (k.with_common r (change_numbered (k.common r))) r)).notification ≡ (k.common r).notification) [
        | true ↦ ap (λ (c : Common). c.notification) (lawful.common_set r (change_numbered (k.common r)))
        | false ↦ refl
      ]
    ]

    changed-holds : (field : FieldNo) (link : LinkField) (r : R) → (k.common (changed-record field link r)).notification ≡ (k.common r).notification
    changed-holds field link r = landed-holds (device_of k r) (k.with_link r field link) ∙ ap (λ (c : Common). c.notification) (lawful.link_set_common r field link)

    pub changed-point : (number : ℕ) (w : World R) (s : ℕ) (field : FieldNo) (link : LinkField) → Has w s → (q : ℕ)
        → weight_of (one_if_has k number) (set-at s (changed-record field link (at k w s)) (get w.records) q) ≡ weight_of (one_if_has k number) (get w.records q)
    changed-point number w s field link there q =
        either-one (changed-record field link (at k w s)) (at k w s) (get w.records q) (eqb q s) (ap (λ (o : Option ℕ). cond (is_notification number o) 1 0) (changed-holds field link (at k w s))) ∙ ap (weight_of (one_if_has k number)) (sym (set-same w s there q))
      where
        either-one : (x y : R) (o : Option R) (b : Bool) → one_if_has k number x ≡ one_if_has k number y → weight_of (one_if_has k number) (cond b (Some x) o) ≡ weight_of (one_if_has k number) (cond b (Some y) o)
        either-one x y o true same = same
        either-one x y o false same = refl
