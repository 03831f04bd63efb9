-- The number of parts of a put with notification, as records and waiting lists change.
use Rattle.std.proofs.Common.{◌≡◌, ℕ, ◌+◌, ◌≤◌, Bool, true, false, cond, eqb, nat_lt, List, [], ◌∷◌, ◌++◌, length, Option, Some, None as Nothing_, is_some, IsTrue, unwrap_or, refl, ap, ◌∙◌, arith}
use Rattle.std.specs.FinMap.{get, entries, len, len-entries}
use Rattle.ioc_fields.specs.declared.field_no.FieldNo.{FieldNo}
use Rattle.ioc_ledger.specs.Requests.{more}
use Rattle.ioc_dbcommon.specs.declared.common.Common.{Common}
use Rattle.ioc_dbcommon.specs.Steps.{change_numbered, with_notification}
use Rattle.ioc_record.specs.RecordRules.{RecordRules}
use Rattle.ioc_record.specs.Laws.{IsLawful}
use Rattle.ioc_store.specs.declared.outbox.OutboxItem.{OutboxItem}
use Rattle.ioc_store.specs.World.{World, Has, at, common_at, put, changed, sent, lost, is_notification}
use Rattle.ioc_store.specs.Weights.{weight_of, total-insert}
use Rattle.ioc_store.specs.Worlds.{ones_few}
use Rattle.ioc_store.specs.Scanning.{moved, rescanned, rewired}
use Rattle.ioc_store.specs.ScanLaws.{moved-either, rescanned-either, rewired-either}
use Rattle.ioc_events.specs.Holding.{how_many, one_if_has, holders}
use Rattle.ioc_events.proofs.Counting.{lives, one_if, itself}

weight-there : {R : Type 0} (weight : R → ℕ) (missing : R) (o : Option R) → IsTrue (is_some o) → weight_of weight o ≡ weight (unwrap_or o missing)
weight-there weight missing Nothing_ is = cc
weight-there weight missing (Some r) is = refl

few-ones : (b : Bool) → cond b 1 0 ≤ 1
few-ones true = omega arith
few-ones false = omega arith

-- The number of times that a put with notification has ended in the event.
abbrev pub ends : ℕ → List ℕ → ℕ
ends = how_many (λ n. n)

-- The number of times that it is live or has ended in the event.
abbrev pub stands : {R : Type 0} → World R → ℕ → ℕ
stands w n = lives n w.live + ends n w.ended

module _ {R : Type 0} (k : RecordRules R) (lawful : IsLawful k) where
  pub holders-put : (w : World R) (s : ℕ) (r : R) → Has w s → (n : ℕ) → holders k (put w s r) n + one_if_has k n (at k w s) ≡ holders k w n + one_if_has k n r
  unfolding holders put at
  holders-put w s r there n =
      let all = total-insert (one_if_has k n) w.records s r in
      let was = weight-there (one_if_has k n) k.missing (get w.records s) there in
      omega (arith, all, was)

  -- Two records that are part of the same put with notification count the same.
  same-holds : (n : ℕ) (a b : R) → (k.common b).notification ≡ (k.common a).notification → one_if_has k n b ≡ one_if_has k n a
  same-holds n a b same = ap (λ (o : Option ℕ). one_if (is_notification n o)) same

  pub holders-few : (w : World R) (n : ℕ) → holders k w n ≤ len w.records + how_many (λ x. x.number) n w.waiting
  unfolding holders
  holders-few w n = omega (arith, len-entries w.records, ones_few (one_if_has k n) (λ r. few-ones (is_notification n (k.common r).notification)) (entries w.records))

  -- Each put with notification has as many parts as before, and the same are live, have ended and
  -- wait.
  pub record Alike (w v : World R) : Type 0 where
    pub held : (n : ℕ) → holders k v n ≡ holders k w n
    pub live : v.live ≡ w.live
    pub ended : v.ended ≡ w.ended
    pub waiting : v.waiting ≡ w.waiting

  pub alike-itself : (w : World R) → Alike w w
  alike-itself w = record { held = λ n. refl; live = refl; ended = refl; waiting = refl }

  pub alike-on : {a b c : World R} → Alike a b → Alike b c → Alike a c
  alike-on one two = record { held = λ n. two.held n ∙ one.held n; live = two.live ∙ one.live; ended = two.ended ∙ one.ended; waiting = two.waiting ∙ one.waiting }

  -- Worlds with the same records and the same puts with notification are alike.
  pub alike-same : (w v : World R) → v.records ≡ w.records → v.live ≡ w.live → v.ended ≡ w.ended → v.waiting ≡ w.waiting → Alike w v
  unfolding holders
  alike-same w v records live ended waiting = record {
    held = λ n. rw (records, waiting) refl;
    live = live;
    ended = ended;
    waiting = waiting;
  }

  put-live : (w : World R) (s : ℕ) (r : R) → (put w s r).live ≡ w.live
  unfolding put
  put-live w s r = refl

  put-ended : (w : World R) (s : ℕ) (r : R) → (put w s r).ended ≡ w.ended
  unfolding put
  put-ended w s r = refl

  put-waiting : (w : World R) (s : ℕ) (r : R) → (put w s r).waiting ≡ w.waiting
  unfolding put
  put-waiting w s r = refl

  pub alike-put : (w : World R) (s : ℕ) (r : R) → Has w s → (k.common r).notification ≡ (common_at k w s).notification → Alike w (put w s r)
  alike-put w s r there same = record {
    held = λ n. omega (arith, holders-put w s r there n, same-holds n (at k w s) r same);
    live = put-live w s r;
    ended = put-ended w s r;
    waiting = put-waiting w s r;
  }

  pub alike-marked : (w : World R) (s : ℕ) (f : Common → Common) → Has w s → ((c : Common) → (f c).notification ≡ c.notification) → Alike w (changed k w s f)
  unfolding changed
  alike-marked w s f there same = alike-put w s _ there (ap (λ (c : Common). c.notification) (lawful.common_set (at k w s) (f (common_at k w s))) ∙ same _)

  pub alike-sent : (item : OutboxItem) (w : World R) → Alike w (sent item w)
  unfolding sent
  alike-sent item w = elim (nat_lt (length w.outbox) 256) as (λ b. Alike w (cond b (record w { outbox = w.outbox ++ item ∷ [] }) (record w { dropped = more w.dropped }))) [
    | true ↦ alike-same w _ refl refl refl refl
    | false ↦ alike-same w _ refl refl refl refl
  ]

  pub alike-lost : (w : World R) → Alike w (lost w)
  unfolding lost
  alike-lost w = alike-same w _ refl refl refl refl

  pub alike-moved : (w : World R) (n : ℕ) → Has w n → Alike w (moved k w n)
  alike-moved w n there = moved-either k (Alike w) w n (λ item. alike-on (alike-marked w n change_numbered there (λ c. refl)) (alike-sent item _)) (alike-lost w)

  pub alike-rescanned : (w : World R) (n : ℕ) (field : FieldNo) → Has w n → Alike w (rescanned k w n field)
  alike-rescanned w n field there = rescanned-either k (Alike w) w n field (alike-itself w) (alike-moved w n there)

  pub alike-rewired : (before : List ℕ) (w : World R) (n : ℕ) → Has w n → Alike w (rewired k before w n)
  alike-rewired before w n there = rewired-either k (Alike w) before w n (alike-itself w) (alike-moved w n there)

  -- Lemmas about a record that joins or leaves a put with notification.

  changed-live : (w : World R) (s : ℕ) (f : Common → Common) → (changed k w s f).live ≡ w.live
  unfolding changed
  changed-live w s f = put-live w s _

  changed-ended : (w : World R) (s : ℕ) (f : Common → Common) → (changed k w s f).ended ≡ w.ended
  unfolding changed
  changed-ended w s f = put-ended w s _

  changed-waiting : (w : World R) (s : ℕ) (f : Common → Common) → (changed k w s f).waiting ≡ w.waiting
  unfolding changed
  changed-waiting w s f = put-waiting w s _

  -- Only the number of parts differs.
  pub record Holds (w v : World R) : Type 0 where
    pub live : v.live ≡ w.live
    pub ended : v.ended ≡ w.ended
    pub waiting : v.waiting ≡ w.waiting

  pub changed-holds : (w : World R) (s : ℕ) (f : Common → Common) → Holds w (changed k w s f)
  changed-holds w s f = record { live = changed-live w s f; ended = changed-ended w s f; waiting = changed-waiting w s f }

  set-held : (w : World R) (s : ℕ) (held : Option ℕ) → Has w s → (n : ℕ)
      → holders k (changed k w s (with_notification held)) n + one_if_has k n (at k w s) ≡ holders k w n + one_if (is_notification n held)
  unfolding changed
  set-held w s held there n =
      holders-put w s _ there n ∙ ap (λ (c : Common). holders k w n + one_if (is_notification n c.notification)) (lawful.common_set (at k w s) (with_notification held (common_at k w s)))

  pub one-more : (w : World R) (s m : ℕ) → Has w s → (common_at k w s).notification ≡ Nothing_ → (n : ℕ) → holders k (changed k w s (with_notification (Some m))) n ≡ holders k w n + one_if (eqb m n)
  one-more w s m there none n =
      let was : one_if_has k n (at k w s) ≡ 0 = ap (λ (o : Option ℕ). one_if (is_notification n o)) none in
      omega (arith, set-held w s (Some m) there n, was)

  pub one-fewer : (w : World R) (s m : ℕ) → Has w s → (common_at k w s).notification ≡ Some m → (n : ℕ) → holders k (changed k w s (with_notification Nothing_)) n + one_if (eqb m n) ≡ holders k w n
  one-fewer w s m there some n =
      let was : one_if_has k n (at k w s) ≡ one_if (eqb m n) = ap (λ (o : Option ℕ). one_if (is_notification n o)) some in
      omega (arith, set-held w s Nothing_ there n, was)

  -- A put with notification that a record is part of is counted.
  pub holds-some : (w : World R) (s m : ℕ) → Has w s → (common_at k w s).notification ≡ Some m → 1 ≤ holders k w m
  holds-some w s m there some = omega (arith, one-fewer w s m there some m, itself m)
