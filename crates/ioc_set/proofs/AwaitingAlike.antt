-- Steps that keep every active mark and every pending number keep the number of records that await
-- a completion.
use Rattle.std.proofs.Common.{◌≡◌, ◌≢◌, ℕ, ◌+◌, Bool, true, false, cond, eqb, nat_lt, List, [], ◌∷◌, ◌++◌, map, length, Option, Some, None as Nothing_, is_some, IsTrue, unwrap_or, refl, sym, ap, subst, ◌∙◌, arith}
use Rattle.std.proofs.lemmas.Grind.{common_steps}
use Rattle.std.specs.Ordering.{nat_cmp}
use Rattle.std.specs.FinMap.{FinMap, get, contains_key, entries, len}
use Rattle.ioc_values.specs.declared.value.Value.{Value}
use Rattle.ioc_values.specs.declared.input.Input.TheVariants.{Value as InputValue}
use Rattle.ioc_fields.specs.declared.field_no.FieldNo.{FieldNo}
use Rattle.ioc_ledger.specs.Requests.{more}
use Rattle.ioc_notify.specs.declared.waiting_lists.Waiting.{Waiting}
use Rattle.ioc_dbcommon.specs.declared.common.Common.{Common}
use Rattle.ioc_dbcommon.specs.declared.link_field.StandingLink.{StandingLink}
use Rattle.ioc_dbcommon.specs.declared.body.Got.{Got}
use Rattle.ioc_dbcommon.specs.declared.body.InputKind.{InputKind}
use Rattle.ioc_dbcommon.specs.Steps.{with_put_mark, with_notification, change_numbered, disabled}
use Rattle.ioc_record.specs.RecordRules.{RecordRules}
use Rattle.ioc_record.specs.Values.{put_untested, converted_for}
use Rattle.ioc_record.specs.Laws.{IsLawful}
use Rattle.ioc_store.specs.declared.outbox.OutboxItem.{OutboxItem}
use Rattle.ioc_store.specs.World.{World, Has, SameLinks, Keeps, at, common_at, put, changed, sent, lost, taken_on, let_go, admitted, queued, unqueued, cancelled, freed, is_notification, total}
use Rattle.ioc_store.specs.Weights.{weight_of, total-insert}
use Rattle.ioc_store.specs.Worlds.{at-put_same, at-put_other}
use Rattle.ioc_store.specs.StepFrames.{OwnLinks, links-set, links-stored, stored_with}
use Rattle.ioc_store.specs.Freeing.{on_value, entries-mapped, has-cancelled, len-cancelled, at_cancelled-either}
use Rattle.ioc_store.specs.Links.{handed_on}
use Rattle.ioc_store.specs.Marks.{put_mark_passed, with_disable_input}
use Rattle.ioc_store.specs.Notifying.{passed_on, notified}
use Rattle.ioc_store.specs.NotifyLaws.{passed-either, notified-either}
use Rattle.ioc_store.specs.Scanning.{moved, rescanned, rewired}
use Rattle.ioc_store.specs.ScanLaws.{moved-either, rescanned-either, rewired-either}
use Rattle.ioc_process.specs.Keeping.{same_links, keeps_all, keeps_on, keeps-put}
use Rattle.ioc_process.specs.Rules.{Inherits, from_itself, from_another, Takes, that_converts, that_does_not, Disables, by_value, not_given, not_read, Puts, that_fits, that_does_not_fit}
use Rattle.ioc_set.specs.Awaiting.{one_if_awaits, awaited}

weight-there : {R : Type 0} (weight : R → ℕ) (missing : R) (o : Option R) → IsTrue (is_some o) → weight_of weight o ≡ weight (unwrap_or o missing)
weight-there weight missing Nothing_ is = cc
weight-there weight missing (Some r) is = refl

module _ {R : Type 0} (k : RecordRules R) where
  -- The count after one record is put.
  pub awaited-put : (w : World R) (s : ℕ) (r : R) → Has w s → awaited k (put w s r).records + one_if_awaits k (at k w s) ≡ awaited k w.records + one_if_awaits k r
  unfolding awaited put at
  awaited-put w s r there =
      let all = total-insert (one_if_awaits k) w.records s r in
      let was = weight-there (one_if_awaits k) k.missing (get w.records s) there in
      omega (arith, all, was)

  pub put-calls : (w : World R) (s : ℕ) (r : R) → (put w s r).calls ≡ w.calls
  unfolding put
  put-calls w s r = refl

  -- A property of the record that is put and of every other as it was holds of each record.
  pub each-put : (w : World R) (s : ℕ) (r : R) (P : ℕ → R → Type 0) → P s r → ((n : ℕ) → n ≢ s → P n (at k w n)) → (n : ℕ) → P n (at k (put w s r) n)
  each-put w s r P own others n = elim (eqb n s) as (λ b. eqb n s ≡ b → P n (at k (put w s r) n)) [
    | true ↦ λ is. let e : n ≡ s = grind (arith, common_steps) in subst (λ (q : ℕ). P q (at k (put w s r) q)) (sym e) (subst (P s) (sym (at-put_same k w s r)) own)
    | false ↦ λ is. let apart : n ≢ s = grind (arith, common_steps) in subst (P n) (sym (at-put_other k w s n r apart)) (others n apart)
  ] refl

  -- The records, their links, their active marks and pending numbers, the number of those that
  -- await a completion, and the device calls are unchanged.
  pub record Alike (w v : World R) : Type 0 where
    pub keeps : Keeps k w v
    pub active : (n : ℕ) → (common_at k v n).active ≡ (common_at k w n).active
    pub pending : (n : ℕ) → (common_at k v n).pending ≡ (common_at k w n).pending
    pub count : awaited k v.records ≡ awaited k w.records
    pub calls : v.calls ≡ w.calls

  pub alike-itself : (w : World R) → Alike w w
  alike-itself w = record { keeps = keeps_all k w; active = λ n. refl; pending = λ n. refl; count = refl; calls = refl }

  pub alike-on : {a b c : World R} → Alike a b → Alike b c → Alike a c
  alike-on one two = record {
    keeps = keeps_on k one.keeps two.keeps;
    active = λ n. two.active n ∙ one.active n;
    pending = λ n. two.pending n ∙ one.pending n;
    count = two.count ∙ one.count;
    calls = two.calls ∙ one.calls;
  }

  -- Lemmas about a world with the same records.

  at-same : (w v : World R) → v.records ≡ w.records → (n : ℕ) → at k v n ≡ at k w n
  unfolding at
  at-same w v records n = ap (λ (rs : FinMap nat_cmp R). unwrap_or (get rs n) k.missing) records

  pub keeps-same : (w v : World R) → v.records ≡ w.records → Keeps k w v
  keeps-same w v records = record {
    has = λ n h. subst (λ (rs : FinMap nat_cmp R). IsTrue (contains_key rs n)) (sym records) h;
    only = λ n h. subst (λ (rs : FinMap nat_cmp R). IsTrue (contains_key rs n)) records h;
    count = ap len records;
    links = λ n. subst (SameLinks k (at k w n)) (sym (at-same w v records n)) (same_links k (at k w n));
  }

  pub alike-same : (w v : World R) → v.records ≡ w.records → v.calls ≡ w.calls → Alike w v
  alike-same w v records calls = record {
    keeps = keeps-same w v records;
    active = λ n. ap (λ (r : R). (k.common r).active) (at-same w v records n);
    pending = λ n. ap (λ (r : R). (k.common r).pending) (at-same w v records n);
    count = ap (awaited k) records;
    calls = calls;
  }

  pub alike-sent : (item : OutboxItem) (w : World R) → Alike w (sent item w)
  unfolding sent
  alike-sent item w = elim (nat_lt (length w.outbox) 256) as (λ b. Alike w (cond b (record w { outbox = w.outbox ++ item ∷ [] }) (record w { dropped = more w.dropped }))) [
    | true ↦ alike-same w _ refl refl
    | false ↦ alike-same w _ refl refl
  ]

  alike-lost : (w : World R) → Alike w (lost w)
  unfolding lost
  alike-lost w = alike-same w _ refl refl

  alike-taken_on : (number : ℕ) (w : World R) → Alike w (taken_on number w)
  unfolding taken_on
  alike-taken_on number w = alike-same w _ refl refl

  alike-let_go : (number : ℕ) (w : World R) → Alike w (let_go number w)
  unfolding let_go
  alike-let_go number w = alike-same w _ refl refl

  pub alike-admitted : (number : ℕ) (w : World R) → Alike w (admitted number w)
  unfolding admitted
  alike-admitted number w = alike-same w _ refl refl

  pub alike-queued : (x : Waiting) (w : World R) → Alike w (queued x w)
  unfolding queued
  alike-queued x w = alike-same w _ refl refl

  pub alike-unqueued : (number : ℕ) (w : World R) → Alike w (unqueued number w)
  unfolding unqueued
  alike-unqueued number w = alike-same w _ refl refl

module _ {R : Type 0} (k : RecordRules R) (lawful : IsLawful k) where
  -- Lemmas about putting a record with unchanged marks.

  same-weight : (a b : R) → (k.common b).pending ≡ (k.common a).pending → one_if_awaits k b ≡ one_if_awaits k a
  same-weight a b same = ap (λ (o : Option ℕ). cond {A = ℕ} (is_some o) 1 0) same

  pub count-put : (w : World R) (s : ℕ) (r : R) → Has w s → (k.common r).pending ≡ (common_at k w s).pending → awaited k (put w s r).records ≡ awaited k w.records
  count-put w s r there pending = omega (arith, awaited-put k w s r there, same-weight (at k w s) r pending)

  pub alike-put : (w : World R) (s : ℕ) (r : R) → Has w s → SameLinks k (at k w s) r → (k.common r).active ≡ (common_at k w s).active → (k.common r).pending ≡ (common_at k w s).pending
      → Alike k w (put w s r)
  alike-put w s r there links active pending = record {
    keeps = keeps-put k w s there r links;
    active = each-put k w s r (λ n x. (k.common x).active ≡ (common_at k w n).active) active (λ n _. refl);
    pending = each-put k w s r (λ n x. (k.common x).pending ≡ (common_at k w n).pending) pending (λ n _. refl);
    count = count-put w s r there pending;
    calls = put-calls k w s r;
  }

  pub alike-changed : (w : World R) (s : ℕ) (f : Common → Common) → Has w s → ((c : Common) → OwnLinks c (f c)) → ((c : Common) → (f c).active ≡ c.active) → ((c : Common) → (f c).pending ≡ c.pending)
      → Alike k w (changed k w s f)
  unfolding changed
  alike-changed w s f there links active pending =
      alike-put w s _ there (links-set k lawful (at k w s) _ (links _))
      (ap (λ (c : Common). c.active) (lawful.common_set _ _) ∙ active _) (ap (λ (c : Common). c.pending) (lawful.common_set _ _) ∙ pending _)

  pub alike-stored : (w : World R) (s : ℕ) (field : FieldNo) (v : Value) → Has w s → Alike k w (put w s (k.stored (at k w s) field v))
  alike-stored w s field v there = alike-put w s _ there (links-stored k lawful _ field v) (lawful.stored_active _ field v) (lawful.stored_pending _ field v)

  alike-moved : (w : World R) (n : ℕ) → Has w n → Alike k w (moved k w n)
  alike-moved w n there =
      moved-either k (Alike k w) w n (λ item. alike-on k (alike-changed w n change_numbered there (λ c. (refl, refl)) (λ c. refl) (λ c. refl)) (alike-sent k item _)) (alike-lost k w)

  pub alike-rescanned : (w : World R) (n : ℕ) (field : FieldNo) → Has w n → Alike k w (rescanned k w n field)
  alike-rescanned w n field there = rescanned-either k (Alike k w) w n field (alike-itself k w) (alike-moved w n there)

  pub alike-rewired : (before : List ℕ) (w : World R) (n : ℕ) → Has w n → Alike k w (rewired k before w n)
  alike-rewired before w n there = rewired-either k (Alike k w) before w n (alike-itself k w) (alike-moved w n there)

  pub alike-notification : (w : World R) (s : ℕ) (held : Option ℕ) → Has w s → Alike k w (changed k w s (with_notification held))
  alike-notification w s held there = alike-changed w s (with_notification held) there (λ c. (refl, refl)) (λ c. refl) (λ c. refl)

  pub alike-passed_on : (w : World R) (s t : ℕ) → Has w t → Alike k w (passed_on k w s t)
  alike-passed_on w s t there = passed-either k (Alike k w) w s t (alike-itself k w) (λ n. alike-on k (alike-notification w t (Some n) there) (alike-taken_on k n _))

  pub alike-notified : (w : World R) (s : ℕ) → Has w s → Alike k w (notified k w s)
  alike-notified w s there = notified-either k (Alike k w) w s (alike-itself k w) (λ n. alike-on k (alike-notification w s Nothing_ there) (alike-let_go k n _))

  pub alike-handed_on : (w : World R) (s : ℕ) (t : StandingLink) → Has w t.number → Alike k w (handed_on k w s t)
  unfolding handed_on
  alike-handed_on w s t there = alike-changed w t.number _ there (λ c. (refl, refl)) (λ c. refl) (λ c. refl)

  -- Passing PUTF keeps the links.
  pub mark-links : (by_put : Bool) (c : Common) → OwnLinks c (put_mark_passed by_put c)
  unfolding put_mark_passed
  mark-links by_put c = elim c.active as (λ b. OwnLinks c (cond b c (with_put_mark by_put c))) [
    | true ↦ (refl, refl)
    | false ↦ (refl, refl)
  ]

  pub mark-active : (by_put : Bool) (c : Common) → (put_mark_passed by_put c).active ≡ c.active
  unfolding put_mark_passed
  mark-active by_put c = elim c.active as (λ b. (cond b c (with_put_mark by_put c)).active ≡ c.active) [
    | true ↦ refl
    | false ↦ refl
  ]

  pub mark-pending : (by_put : Bool) (c : Common) → (put_mark_passed by_put c).pending ≡ c.pending
  unfolding put_mark_passed
  mark-pending by_put c = elim c.active as (λ b. (cond b c (with_put_mark by_put c)).pending ≡ c.pending) [
    | true ↦ refl
    | false ↦ refl
  ]

  pub alike-disabled : (w : World R) (s : ℕ) → Has w s → Alike k w (changed k w s disabled)
  unfolding disabled
  alike-disabled w s there = alike-changed w s disabled there (λ c. (refl, refl)) (λ c. refl) (λ c. refl)

  -- Lemmas about rules in which nothing is requested.

  pub puts-alike : {w : World R} {t : StandingLink} {v : Value} {w' : World R} {stored : Bool} → Puts k w t v w' stored → Has w t.number → Alike k w w'
  unfolding put_untested
  puts-alike (that_fits {w} {t} {v} {r} is) there =
      let with = stored_with k (at k w t.number) r t.field (converted_for k (at k w t.number) t.field (InputValue v)) is in
      let first : Alike k w (put w t.number r) = subst (λ (x : R). Alike k w (put w t.number x)) with.1 (alike-stored w t.number t.field with.0 there) in
      alike-on k first (alike-rescanned (put w t.number r) t.number t.field (first.keeps.has t.number there))
  puts-alike (that_does_not_fit {w} _) there = alike-itself k w

  pub inherits-alike : {w : World R} {s : ℕ} {t : StandingLink} {w' : World R} → Inherits k w s t w' → Has w s → Alike k w w'
  inherits-alike (from_itself {w} _) there = alike-itself k w
  inherits-alike (from_another {w} {s} {t} _) there = alike-changed w s _ there (λ c. (refl, refl)) (λ c. refl) (λ c. refl)

  pub takes-alike : {kind : R → InputKind} {w : World R} {s : ℕ} {t : StandingLink} {w' : World R} {got : Got} → Takes k kind w s t w' got → Has w s → Alike k w w'
  takes-alike (that_converts _ i) there = inherits-alike i there
  takes-alike (that_does_not {kind} {w} {s} _) there = alike-changed w s _ there (λ c. (refl, refl)) (λ c. refl) (λ c. refl)

  pub disables-alike : {w : World R} {s : ℕ} {got : Got} {w' : World R} → Disables k w s got w' → Has w s → Alike k w w'
  unfolding with_disable_input
  disables-alike (by_value {w} {s}) there = alike-changed w s _ there (λ c. (refl, refl)) (λ c. refl) (λ c. refl)
  disables-alike (not_given {w}) there = alike-itself k w
  disables-alike (not_read {w}) there = alike-itself k w

  -- Lemmas about a cancelled put with notification.

  freed-same : (m : ℕ) (r : R) → one_if_awaits k (freed k m r) ≡ one_if_awaits k r
  freed-same m r = elim (is_notification m (k.common r).notification) as (λ b. one_if_awaits k (cond b (k.with_common r (with_notification Nothing_ (k.common r))) r) ≡ one_if_awaits k r) [
    | true ↦ ap (λ (c : Common). cond {A = ℕ} (is_some c.pending) 1 0) (lawful.common_set r (with_notification Nothing_ (k.common r)))
    | false ↦ refl
  ]

  total-freed : (m : ℕ) (es : List (ℕ × R)) → total (one_if_awaits k) (map (on_value (freed k m)) es) ≡ total (one_if_awaits k) es
  total-freed m [] = refl
  total-freed m (e ∷ es) = omega (arith, freed-same m e.1, total-freed m es)

  cancelled-count : (m : ℕ) (w : World R) → awaited k (cancelled k m w).records ≡ awaited k w.records
  unfolding awaited cancelled
  cancelled-count m w = ap (total (one_if_awaits k)) (entries-mapped (freed k m) w.records) ∙ total-freed m (entries w.records)

  cancelled-calls : (m : ℕ) (w : World R) → (cancelled k m w).calls ≡ w.calls
  unfolding cancelled
  cancelled-calls m w = refl

  pub alike-cancelled : (m : ℕ) (w : World R) → Alike k w (cancelled k m w)
  alike-cancelled m w = record {
    keeps = record {
      has = λ n h. has-cancelled k m w n ∙ h;
      only = λ n h. sym (has-cancelled k m w n) ∙ h;
      count = len-cancelled k m w;
      links = λ n. at_cancelled-either k m (λ r x. SameLinks k r x) (λ r. same_links k r) (λ r. links-set k lawful r _ (refl, refl)) w n;
    };
    active = λ n. at_cancelled-either k m (λ r x. (k.common x).active ≡ (k.common r).active) (λ r. refl) (λ r. ap (λ (c : Common). c.active) (lawful.common_set r (with_notification Nothing_ (k.common r)))) w n;
    pending = λ n. at_cancelled-either k m (λ r x. (k.common x).pending ≡ (k.common r).pending) (λ r. refl) (λ r. ap (λ (c : Common). c.pending) (lawful.common_set r (with_notification Nothing_ (k.common r)))) w n;
    count = cancelled-count m w;
    calls = cancelled-calls m w;
  }
