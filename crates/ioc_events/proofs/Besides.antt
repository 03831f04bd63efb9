-- Requests depend only on the records that links lead to, and change only these, whatever puts with
-- notification other records are part of.
use Rattle.std.proofs.Common.{◌≡◌, ◌≢◌, ℕ, Bool, true, false, cond, eqb, List, [], ◌∷◌, length, Option, refl, sym, ap, subst, ◌∙◌, arith}
use Rattle.std.proofs.lemmas.Grind.{common_steps}
use Rattle.std.specs.Prelude.{Contains, nat_lt, ◌++◌}
use Rattle.std.specs.FinMap.{gets, contains_key}
use Rattle.ioc_ledger.specs.Requests.{more}
use Rattle.ioc_store.specs.declared.outbox.OutboxItem.{OutboxItem}
use Rattle.ioc_dbcommon.specs.Steps.{with_notification}
use Rattle.ioc_record.specs.RecordRules.{RecordRules, targets}
use Rattle.ioc_record.specs.Laws.{IsLawful}
use Rattle.ioc_store.specs.World.{World, at, common_at, put, changed, called, sent, lost, taken_on, let_go}
use Rattle.ioc_store.specs.declared.call.Call.{Call}
use Rattle.ioc_notify.specs.declared.live_numbers.Live.{Live}
use Rattle.ioc_process.specs.Processing.{Done, request}
use Rattle.ioc_events.specs.Beside.{Shut, Same, Spares, Agree, RequestIsLocal}
use Rattle.ioc_events.proofs.Waitings.{request-waiting}
use Rattle.ioc_store.specs.StepFrames.{targets-set, targets-taken, targets-posted, targets-finished, targets-stored}
use Rattle.ioc_store.specs.Worlds.{at-put_same, at-put_other}
use Rattle.ioc_process.specs.Alongside.{Guards, HolderGuards, Goes, pass-goes, tell-goes, request-goes}
use Rattle.ioc_store.specs.Given.{Answers}

pub not_both : {b : Bool} → b ≡ true → b ≡ false → ⊥
not_both is isnt = cc

there-put_same : {R : Type 0} (w : World R) (n : ℕ) (r : R) → contains_key (put w n r).records n ≡ true
unfolding put
there-put_same w n r = grind (gets, arith, common_steps)

there-put_other : {R : Type 0} (w : World R) (n m : ℕ) (r : R) → m ≢ n → contains_key (put w n r).records m ≡ contains_key w.records m
unfolding put
there-put_other w n m r apart = grind (gets, arith, common_steps)

module _ {R : Type 0} (k : RecordRules R) (mine : ℕ → Bool) (w0 v0 : World R) where
  -- The records with these numbers.
  abbrev U : ℕ → Type 0
  U = λ n. mine n ≡ true

  -- The two worlds are results from `w0` and `v0`.
  pub record Along (w v : World R) : Type 0 where
    pub same : Same k mine w v
    pub there : (n : ℕ) → mine n ≡ true → contains_key w0.records n ≡ contains_key v0.records n → contains_key w.records n ≡ contains_key v.records n
    pub shut : Shut k mine w
    pub spares : Spares k mine w0 w
    pub other_spares : Spares k mine v0 v

  -- A property holds of all records after a put if it holds of the record that was put and of every
  -- other as it was.
  by_put : (P : ℕ → R → Type 0) (w : World R) (n : ℕ) (r : R) → P n r → ((m : ℕ) → m ≢ n → P m (at k w m)) → (m : ℕ) → P m (at k (put w n r) m)
  by_put P w n r here there m =
      elim (eqb m n) as (λ b. eqb m n ≡ b → P m (at k (put w n r) m)) [
        | true ↦ λ is. let e : m ≡ n = grind (arith, common_steps) in rw (e, at-put_same k w n r) here
        | false ↦ λ is. let apart : m ≢ n = grind (arith, common_steps) in subst (P m) (sym (at-put_other k w n m r apart)) (there m apart)
      ] refl

  both_put : (w v : World R) (n : ℕ) (r : R) (m : ℕ) → (U m → at k w m ≡ at k v m) → U m → at k (put w n r) m ≡ at k (put v n r) m
  both_put w v n r m same there =
      elim (eqb m n) as (λ b. eqb m n ≡ b → at k (put w n r) m ≡ at k (put v n r) m) [
        | true ↦ λ is. let e : m ≡ n = grind (arith, common_steps) in rw (e, at-put_same k w n r, at-put_same k v n r) refl
        | false ↦ λ is. let apart : m ≢ n = grind (arith, common_steps) in at-put_other k w n m r apart ∙ same there ∙ sym (at-put_other k v n m r apart)
      ] refl

  there_put : (w v : World R) (n : ℕ) (r : R) (m : ℕ) → contains_key w.records m ≡ contains_key v.records m → contains_key (put w n r).records m ≡ contains_key (put v n r).records m
  there_put w v n r m same =
      elim (eqb m n) as (λ b. eqb m n ≡ b → contains_key (put w n r).records m ≡ contains_key (put v n r).records m) [
        | true ↦ λ is. let e : m ≡ n = grind (arith, common_steps) in rw e (there-put_same w n r ∙ sym (there-put_same v n r))
        | false ↦ λ is. let apart : m ≢ n = grind (arith, common_steps) in there-put_other w n m r apart ∙ same ∙ sym (there-put_other v n m r apart)
      ] refl

  -- A record in `U` differs from every one outside.
  outside-apart : (m n : ℕ) → U n → mine m ≡ false → m ≢ n
  outside-apart m n may out e = not_both may (ap mine (sym e) ∙ out)

  put-spares : (first w : World R) (n : ℕ) (r : R) → U n → Spares k mine first w → Spares k mine first (put w n r)
  unfolding put
  put-spares first w n r may spares = record {
    spared = λ m out. at-put_other k w n m r (outside-apart m n may out) ∙ spares.spared m out;
    there = λ m out. there-put_other w n m r (outside-apart m n may out) ∙ spares.there m out;
    waiting = spares.waiting;
  }

  -- The links of the record stay in `U`.
  abbrev pub Within : ℕ → R → Type 0
  Within n r = (target : ℕ) → Contains (targets k r) target → U target

  -- What was called, sent and dropped may change alike, and the puts with notification that are
  -- live or have ended may change: the records and the waiting lists stay.
  rest_along : (w v : World R) → Along w v → {calls calls' : List Call} {outbox outbox' : List OutboxItem} {dropped dropped' : ℕ} {live live' : List Live} {ended ended' : List ℕ}
      → calls ≡ calls' → outbox ≡ outbox' → dropped ≡ dropped'
      → Along (record w { calls = calls; outbox = outbox; dropped = dropped; live = live; ended = ended }) (record v { calls = calls'; outbox = outbox'; dropped = dropped'; live = live'; ended = ended' })
  unfolding at
  rest_along w v inv calls outbox dropped = record {
    same = record { moment = inv.same.moment; calls = calls; outbox = outbox; dropped = dropped; waiting = inv.same.waiting; records = inv.same.records };
    there = inv.there;
    shut = record { shut = inv.shut.shut };
    spares = record { spared = inv.spares.spared; there = inv.spares.there; waiting = inv.spares.waiting };
    other_spares = record { spared = inv.other_spares.spared; there = inv.other_spares.there; waiting = inv.other_spares.waiting };
  }

  sent_both : (w v : World R) (item : OutboxItem) (b : Bool) → Along w v → Along (cond b (record w { outbox = w.outbox ++ item ∷ [] }) (record w { dropped = more w.dropped }))
      (cond b (record v { outbox = v.outbox ++ item ∷ [] }) (record v { dropped = more v.dropped }))
  sent_both w v item true inv = rest_along w v inv inv.same.calls (ap (λ (l : List OutboxItem). l ++ item ∷ []) inv.same.outbox) inv.same.dropped
  sent_both w v item false inv = rest_along w v inv inv.same.calls inv.same.outbox (ap more inv.same.dropped)

  sent_along : (w v : World R) → Along w v → (item : OutboxItem) → Along (sent item w) (sent item v)
  unfolding sent
  sent_along w v inv item =
      subst (λ (n : ℕ). Along (sent item w) (cond (nat_lt n 256) (record v { outbox = v.outbox ++ item ∷ [] }) (record v { dropped = more v.dropped })))
      (ap length inv.same.outbox) (sent_both w v item (nat_lt (length w.outbox) 256) inv)

  lost_along : (w v : World R) → Along w v → Along (lost w) (lost v)
  unfolding lost
  lost_along w v inv = rest_along w v inv inv.same.calls inv.same.outbox (ap more inv.same.dropped)

  taken_on_along : (w v : World R) → Along w v → (number : ℕ) → Along (taken_on number w) (taken_on number v)
  unfolding taken_on
  taken_on_along w v inv number = rest_along w v inv inv.same.calls inv.same.outbox inv.same.dropped

  let_go_along : (w v : World R) → Along w v → (number : ℕ) → Along (let_go number w) (let_go number v)
  unfolding let_go
  let_go_along w v inv number = rest_along w v inv inv.same.calls inv.same.outbox inv.same.dropped

  pub put_along : (w v : World R) → Along w v → (n : ℕ) → U n → (r : R) → Within n r → Along (put w n r) (put v n r)
  unfolding put
  put_along w v inv n may r good = record {
    same = record { moment = inv.same.moment; calls = inv.same.calls; outbox = inv.same.outbox; dropped = inv.same.dropped; waiting = inv.same.waiting; records = λ m. both_put w v n r m (inv.same.records m) };
    there = λ m u first. there_put w v n r m (inv.there m u first);
    shut = record {
      shut = λ m target. by_put (λ m' x. U m' → Contains (targets k x) target → U target) w n r
          (λ u links. good target links) (λ m' _ u links. inv.shut.shut m' target u links) m;
    };
    spares = put-spares w0 w n r may inv.spares;
    other_spares = put-spares v0 v n r may inv.other_spares;
  }

  pub held_along : IsLawful k → (w v : World R) → Along w v → (n : ℕ) → U n → (held : Option ℕ) → Along (changed k w n (with_notification held)) (changed k v n (with_notification held))
  unfolding changed
  held_along lawful w v inv n may held =
      subst (λ (r : R). Along (put w n (k.with_common (at k w n) (with_notification held (common_at k w n)))) (put v n (k.with_common r (with_notification held (k.common r))))) (inv.same.records n may)
      (put_along w v inv n may _ (λ target links. inv.shut.shut n target may (subst (λ (x : List ℕ). Contains x target) (targets-set k lawful (at k w n) _ (refl, refl)) links)))

  holder_guards : IsLawful k → HolderGuards k U Along
  holder_guards lawful = record {
    same = λ inv n may. inv.same.records n may;
    hold = λ {w} {v} inv n may held. held_along lawful w v inv n may held;
    take_on = λ {w} {v} inv number. taken_on_along w v inv number;
    lets_go = λ {w} {v} inv number. let_go_along w v inv number;
  }

  pub guards : IsLawful k → Guards k U Within Along
  unfolding at put called
  guards lawful = record {
    same = λ inv n may. inv.same.records n may;
    good = λ inv n may target. inv.shut.shut n target may;
    calls = λ inv. inv.same.calls;
    moment = λ inv. inv.same.moment;
    link = λ good target links. good target links;
    common = λ good c same target links. good target (subst (λ (x : List ℕ). Contains x target) (targets-set k lawful _ c same) links);
    taken = λ good got target links. good target (subst (λ (x : List ℕ). Contains x target) (targets-taken k lawful _ got) links);
    posted = λ good changes target links. good target (subst (λ (x : List ℕ). Contains x target) (targets-posted k lawful _ changes) links);
    finished = λ good x target links. good target (subst (λ (l : List ℕ). Contains l target) (targets-finished k lawful _ x) links);
    stored = λ good f x target links. good target (subst (λ (l : List ℕ). Contains l target) (targets-stored k lawful _ f x) links);
    put = λ {w} {v} inv n may r good _. put_along w v inv n may r good;
    call = λ {w} {v} inv one. rest_along w v inv (ap (λ (l : List Call). l ++ one ∷ []) inv.same.calls) inv.same.outbox inv.same.dropped;
    send = λ {w} {v} inv item. sent_along w v inv item;
    lose = λ {w} {v} inv. lost_along w v inv;
    pass = pass-goes k _ _ (holder_guards lawful);
    tell = tell-goes k _ _ (holder_guards lawful);
  }

  as-it-was : (w : World R) → Spares k mine w w
  as-it-was w = record { spared = λ _ _. refl; there = λ _ _. refl; waiting = λ _ _. refl }

  pub along : Shut k mine w0 → Same k mine w0 v0 → Along w0 v0
  along shut same = record { same = same; there = λ n u first. first; shut = shut; spares = as-it-was w0; other_spares = as-it-was v0 }

module _ {R : Type 0} (k : RecordRules R) (lawful : IsLawful k) (mine : ℕ → Bool) (answers : Answers) where
  agree : (w v : World R) (done other : Done R) → Goes (Along k mine w v) done other → done.world.waiting ≡ w.waiting → other.world.waiting ≡ v.waiting → Agree k mine w v done other
  agree w v done other goes waits other_waits = record {
    same = goes.inv.same;
    requests = goes.requests;
    shut = goes.inv.shut;
    spares = goes.inv.spares;
    other_spares = goes.inv.other_spares;
    waiting = waits;
    other_waiting = other_waits;
  }

  pub request-local : RequestIsLocal k mine answers
  request-local w v s shut same there =
      agree w v (request k answers w s) (request k answers v s)
      (request-goes k lawful (λ n. mine n ≡ true) (Within k mine w v) (Along k mine w v) (guards k mine w v lawful) answers (along k mine w v shut same) s there)
      (request-waiting k lawful answers w s) (request-waiting k lawful answers v s)
