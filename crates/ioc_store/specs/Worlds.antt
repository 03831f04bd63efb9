-- The effect of a change of one record on a world.
use Rattle.std.proofs.Common.{◌≡◌, ◌≢◌, ◌≤◌, ℕ, ◌+◌, List, [], ◌∷◌, ◌++◌, length, nat_lt, Bool, true, false, cond, eqb, Option, Some, None, unwrap_or, refl, sym, ap, subst, ◌∙◌, arith}
use Rattle.std.specs.FinMap.{gets, entries, len, len-entries, len-insert}
use Rattle.std.specs.Cmp.{nat_cmp_total}
use Rattle.std.proofs.lemmas.Grind.{common_steps}
use Rattle.ioc_dbcommon.specs.declared.common.Common.{Common}
use Rattle.ioc_dbcommon.specs.Steps.{with_active}
use Rattle.ioc_record.specs.RecordRules.{RecordRules}
use Rattle.ioc_record.specs.Laws.{IsLawful}
use Rattle.ioc_ledger.specs.Requests.{more}
use Rattle.ioc_store.specs.declared.outbox.OutboxItem.{OutboxItem}
use Rattle.ioc_store.specs.World.{sent, lost, World, Has, at, common_at, put, changed, idle, one_if_idle, total}
use Rattle.ioc_store.specs.Weights.{weight_of, total-insert}

pub one_of_two : (b : Bool) → cond b 1 0 + cond b 0 1 ≡ 1
one_of_two true = refl
one_of_two false = refl

most_one : (b : Bool) → cond b 0 1 ≤ 1
most_one true = omega arith
most_one false = omega arith

pub ones_few : {R : Type 0} (weight : R → ℕ) → ((r : R) → weight r ≤ 1) → (es : List (ℕ × R)) → total weight es ≤ length es
ones_few weight small [] = omega arith
ones_few weight small (e ∷ es) = omega (arith, small e.1, ones_few weight small es)

module _ {R : Type 0} (k : RecordRules R) where
  pub at-put_same : (w : World R) (n : ℕ) (r : R) → at k (put w n r) n ≡ r
  unfolding at put
  at-put_same w n r = grind (gets, arith, common_steps)

  pub at-put_other : (w : World R) (n m : ℕ) (r : R) → m ≢ n → at k (put w n r) m ≡ at k w m
  unfolding at put
  at-put_other w n m r apart = grind (gets, arith, common_steps)

  pub has-put : (w : World R) (n m : ℕ) (r : R) → Has w m → Has (put w n r) m
  unfolding put
  has-put w n m r has = grind (gets, arith, common_steps)

  pub has-put_back : (w : World R) (n m : ℕ) (r : R) → Has w n → Has (put w n r) m → Has w m
  unfolding put
  has-put_back w n m r there has =
      elim (eqb m n) as (λ b. eqb m n ≡ b → Has w m) [
        | true ↦ λ e. let same : n ≡ m = grind (arith, common_steps) in subst (λ (q : ℕ). Has w q) same there
        | false ↦ λ e. let apart : m ≢ n = grind (arith, common_steps) in grind (gets, arith, common_steps)
      ] refl

  -- Putting a record that exists keeps the number of records.
  pub len-put : (w : World R) (n : ℕ) (r : R) → Has w n → len (put w n r).records ≡ len w.records
  unfolding put
  len-put w n r there = len-insert nat_cmp_total w.records n r ∙ ap (λ b. cond b (len w.records) (len w.records + 1)) there

  -- There are at most as many idle records as records.
  pub idle_few : (w : World R) → idle k w ≤ len w.records
  unfolding idle
  idle_few w = rw (len-entries w.records) (ones_few (one_if_idle k) (λ r. most_one (k.common r).active) (entries w.records))

  -- The number of idle records, plus one if this one is active.
  abbrev pub room : World R → ℕ → ℕ
  room w n = idle k w + cond (common_at k w n).active 1 0

module _ {R : Type 0} (k : RecordRules R) (lawful : IsLawful k) where
  one_if_missing : one_if_idle k k.missing ≡ 0
  one_if_missing = ap (λ b. cond b 0 1) lawful.missing_is_active

  weight-at : (o : Option R) → weight_of (one_if_idle k) o ≡ one_if_idle k (unwrap_or o k.missing)
  weight-at None = sym one_if_missing
  weight-at (Some r) = refl

  pub idle-put : (w : World R) (n : ℕ) (r : R) → idle k (put w n r) + one_if_idle k (at k w n) ≡ idle k w + one_if_idle k r
  unfolding idle put at
  idle-put w n r = rw (← weight-at) (total-insert (one_if_idle k) w.records n r)

  pub common_at-changed : (w : World R) (n : ℕ) (f : Common → Common) → common_at k (changed k w n f) n ≡ f (common_at k w n)
  unfolding changed
  common_at-changed w n f = ap k.common (at-put_same k w n _) ∙ lawful.common_set _ _

  pub idle-changed : (w : World R) (n : ℕ) (f : Common → Common) →
      idle k (changed k w n f) + cond (common_at k w n).active 0 1 ≡ idle k w + cond (f (common_at k w n)).active 0 1
  unfolding changed
  idle-changed w n f = idle-put w n _ ∙ ap (λ (c : Common). idle k w + cond c.active 0 1) (lawful.common_set _ _)

  -- A change that leaves a record as active as it was keeps the number of idle records.
  pub idle-kept : (w : World R) (n : ℕ) (f : Common → Common) → (f (common_at k w n)).active ≡ (common_at k w n).active → idle k (changed k w n f) ≡ idle k w
  idle-kept w n f same = omega (arith, idle-changed w n f, ap {A = Bool} {B = ℕ} (λ b. cond b 0 1) same)

  pub room-active : (w : World R) (n : ℕ) → idle k (changed k w n (with_active true)) + 1 ≡ room k w n
  room-active w n = omega (arith, idle-changed w n (with_active true), one_of_two (common_at k w n).active)

-- Sending an item changes the outbox or the number of dropped items.
pub sent_by : {R : Type 0} (item : OutboxItem) (w : World R)
    → record w { outbox = cond (nat_lt (length w.outbox) 256) (w.outbox ++ item ∷ []) w.outbox; dropped = cond (nat_lt (length w.outbox) 256) w.dropped (more w.dropped) } ≡ sent item w
unfolding sent
sent_by item w =
    elim (nat_lt (length w.outbox) 256) as (λ b. record w { outbox = cond b (w.outbox ++ item ∷ []) w.outbox; dropped = cond b w.dropped (more w.dropped) }
    ≡ cond b (record w { outbox = w.outbox ++ item ∷ [] }) (record w { dropped = more w.dropped })) [
      | true ↦ refl
      | false ↦ refl
    ]

-- Dropping an item changes the number of dropped items.
pub lost_by : {R : Type 0} (w : World R) → record w { dropped = more w.dropped } ≡ lost w
unfolding lost
lost_by w = refl
