-- Starts of puts with notification keep the counts of their parts.
use Rattle.std.proofs.Common.{◌≡◌, ◌≢◌, ℕ, zero, suc, ◌+◌, ◌^◌, ◌<◌, ◌≤◌, true, false, cond, not, eqb, nat_eq, List, [], ◌∷◌, Option, Some, None as Nothing_, is_some, refl, sym, ap, subst, ◌∙◌, arith}
use Rattle.std.specs.Prelude.{Contains}
use Rattle.std.specs.FinMap.{len}
use Rattle.std.proofs.lemmas.Bool.{eqb-true, eqb-false, eq-eqb, and_parts}
use Rattle.ioc_fields.specs.declared.field_no.FieldNo.{FieldNo}
use Rattle.ioc_values.specs.declared.value.Value.{Value}
use Rattle.ioc_values.specs.declared.value.Finished.{Finished}
use Rattle.ioc_ledger.specs.Requests.{Requests}
use Rattle.ioc_notify.specs.declared.live_numbers.Live.{Live}
use Rattle.ioc_notify.specs.declared.waiting_lists.Waiting.{Waiting}
use Rattle.ioc_notify.specs.Waits.{without}
use Rattle.ioc_dbcommon.specs.declared.common.Common.{Common}
use Rattle.ioc_dbcommon.specs.Steps.{with_put_mark, with_notification}
use Rattle.ioc_record.specs.RecordRules.{RecordRules}
use Rattle.ioc_record.specs.Laws.{IsLawful}
use Rattle.ioc_store.specs.World.{World, Has, IsClosed, Keeps, at, common_at, put, changed, unqueued}
use Rattle.ioc_store.specs.Worlds.{has-put}
use Rattle.ioc_store.specs.Given.{Answers}
use Rattle.ioc_store.specs.Notifying.{notified}
use Rattle.ioc_process.specs.Processing.{Done}
use Rattle.ioc_process.specs.Rules.{Requested, Resumes}
use Rattle.ioc_process.specs.RulesAlone.{request-is, takes_completion-is}
use Rattle.ioc_process.specs.Keeping.{closed_on, keeps-changed, request-keeps, takes_completion-keeps, notified-keeps}
use Rattle.ioc_events.specs.Holding.{how_many, holders}
use Rattle.ioc_events.specs.Starting.{is_ready, taken_and_stored, IsNext}
use Rattle.ioc_events.specs.StepRules.{Starts, to_be_processed, at_once_told, StartsAll, no_more, next_starts}
use Rattle.ioc_events.proofs.StartRules.{waits-there}
use Rattle.ioc_events.proofs.QuietEvents.{ready-has, taken-keeps, unqueued-keeps}
use Rattle.ioc_events.proofs.Counting.{lives, one_if, of_each, itself, another, Counts, counts-same}
use Rattle.ioc_events.proofs.Holders.{ends, stands, Alike, alike-on, alike-put, alike-marked, alike-rescanned, changed-holds, one-more}
use Rattle.ioc_events.proofs.Carrying.{Carried, tell-carried, request-carried, takes_completion-carried}

-- Lemmas about those that wait.

-- The number of those that wait with this number.
abbrev pub waiters : ℕ → List Waiting → ℕ
waiters = how_many (λ x. x.number)

pub waiters-some : (xs : List Waiting) (x : Waiting) → Contains xs x → 1 ≤ waiters x.number xs
waiters-some [] x (i, lt, is) = absurd (omega arith)
waiters-some (y ∷ xs) x (zero, lt, is) = let here : y.number ≡ x.number = ap (λ (v : Waiting). v.number) is in rw (eq-eqb y.number x.number here) (omega arith)
waiters-some (y ∷ xs) x (suc i, lt, is) =
    let rest = waiters-some xs x (i, omega arith, is) in
    elim (eqb y.number x.number) as (λ b. 1 ≤ cond b (1 + waiters x.number xs) (waiters x.number xs)) [
      | true ↦ omega arith
      | false ↦ rest
    ]

pub without-here : (m : ℕ) (xs : List Waiting) → waiters m (without m xs) ≡ 0
without-here m [] = refl
without-here m (x ∷ xs) = elim (nat_eq x.number m) as (λ b. eqb x.number m ≡ b → waiters m (cond (not b) (x ∷ without m xs) (without m xs)) ≡ 0) [
  | true ↦ λ e. without-here m xs
  | false ↦ λ e. rw e (without-here m xs)
] refl

pub without-other : (m n : ℕ) → m ≢ n → (xs : List Waiting) → waiters n (without m xs) ≡ waiters n xs
without-other m n apart [] = refl
without-other m n apart (x ∷ xs) =
    elim (nat_eq x.number m) as (λ b. eqb x.number m ≡ b → waiters n (cond (not b) (x ∷ without m xs) (without m xs)) ≡ cond (eqb x.number n) (1 + waiters n xs) (waiters n xs)) [
      | true ↦ λ e.
          let is = eqb-true x.number m e in
          elim (eqb x.number n) as (λ c. eqb x.number n ≡ c → waiters n (without m xs) ≡ cond c (1 + waiters n xs) (waiters n xs)) [
            | true ↦ λ q. absurd (apart (sym is ∙ eqb-true x.number n q))
            | false ↦ λ q. without-other m n apart xs
          ] refl
      | false ↦ λ e. ap (λ (y : ℕ). cond (eqb x.number n) (1 + y) y) (without-other m n apart xs)
    ] refl

pub without-waiters : (m n : ℕ) (xs : List Waiting) → waiters m xs ≡ 1 → waiters n (without m xs) + one_if (eqb m n) ≡ waiters n xs
without-waiters m n xs one =
    of_each (λ x. waiters x (without m xs) + one_if (eqb m x) ≡ waiters x xs) m (omega (arith, without-here m xs, itself m)) (λ x apart. omega (arith, without-other m x apart xs, another m x apart)) n

pub without-few : (m n : ℕ) (xs : List Waiting) → waiters n xs ≤ 1 → waiters n (without m xs) ≤ 1
without-few m n xs few = elim (eqb m n) as (λ b. eqb m n ≡ b → waiters n (without m xs) ≤ 1) [
  | true ↦ λ e. subst (λ x. waiters x (without m xs) ≤ 1) (eqb-true m n e) (omega (arith, without-here m xs))
  | false ↦ λ e. subst (λ (x : ℕ). x ≤ 1) (sym (without-other m n (eqb-false m n e) xs)) few
] refl

none-of : (o : Option ℕ) → not (is_some o) ≡ true → o ≡ Nothing_
none-of Nothing_ is = refl
none-of (Some n) is = cc

module _ {R : Type 0} (k : RecordRules R) (lawful : IsLawful k) where
  -- No link leaves the world, it has fewer than 2^63 records, and the parts of each put with
  -- notification are counted.
  pub record Sound (w : World R) : Type 0 where
    pub closed : IsClosed k w
    pub few : len w.records < 2 ^ 63
    pub counts : Counts (holders k w) w.live
    pub once : (n : ℕ) → waiters n w.waiting ≤ 1

  -- A sound world, in which each that was live or had ended is live or has ended.
  pub record Leads (w v : World R) : Type 0 where
    pub sound : Sound v
    pub balance : (n : ℕ) → stands v n ≡ stands w n

  pub leads-on : {a b c : World R} → Leads a b → Leads b c → Leads a c
  leads-on one two = record { sound = two.sound; balance = λ n. two.balance n ∙ one.balance n }

  few-kept : (w v : World R) → Keeps k w v → len w.records < 2 ^ 63 → len v.records < 2 ^ 63
  few-kept w v keeps few = omega (arith, keeps.count)

  once-kept : (w v : World R) → v.waiting ≡ w.waiting → ((n : ℕ) → waiters n w.waiting ≤ 1) → (n : ℕ) → waiters n v.waiting ≤ 1
  once-kept w v same once n = subst (λ (xs : List Waiting). waiters n xs ≤ 1) (sym same) (once n)

  pub leads-alike : (w v : World R) → Sound w → Keeps k w v → Alike k lawful w v → Leads w v
  leads-alike w v sound keeps alike = record {
    sound = record {
      closed = closed_on k lawful keeps sound.closed;
      few = few-kept w v keeps sound.few;
      counts = subst (Counts (holders k v)) (sym alike.live) (counts-same (holders k w) (holders k v) w.live sound.counts alike.held);
      once = once-kept w v alike.waiting sound.once;
    };
    balance = λ n. ap (λ (ls : List Live). lives n ls + ends n v.ended) alike.live ∙ ap (λ (es : List ℕ). lives n w.live + ends n es) alike.ended;
  }

  leads-carried : (w v : World R) → (sound : Sound w) → Keeps k w v → Carried k lawful w sound.closed sound.few sound.once v → Leads w v
  leads-carried w v sound keeps carried = record {
    sound = record { closed = closed_on k lawful keeps sound.closed; few = few-kept w v keeps sound.few; counts = carried.counts; once = once-kept w v carried.waits sound.once };
    balance = carried.balance;
  }

  pub request-leads : (answers : Answers) {w w' : World R} {s : ℕ} {requests : Requests} → Has w s → Requested k answers w s w' requests → Sound w → Leads w w'
  request-leads answers {w} {w'} {s} there r sound =
      subst (Leads w) (ap (λ (d : Done R). d.world) (request-is k lawful answers r))
      (leads-carried w _ sound (request-keeps k lawful w sound.closed answers s there) (request-carried k lawful w sound.closed sound.few sound.once answers s there sound.counts))

  pub completion-leads : (answers : Answers) {w w' : World R} {s : ℕ} {x : Finished} {requests : Requests} → Has w s → Resumes k answers w s x w' requests → Sound w → Leads w w'
  completion-leads answers {w} {w'} {s} {x} there r sound =
      subst (Leads w) (ap (λ (d : Done R). d.world) (takes_completion-is k lawful answers r))
      (leads-carried w _ sound (takes_completion-keeps k lawful w sound.closed answers s there x) (takes_completion-carried k lawful w sound.closed sound.few sound.once answers s there x sound.counts))

  pub marked-leads : (w : World R) (s : ℕ) (f : Common → Common) → Has w s
      → ((c : Common) → ((f c).disable_link ≡ c.disable_link) × ((f c).forward_link ≡ c.forward_link)) → ((c : Common) → (f c).notification ≡ c.notification) → Sound w → Leads w (changed k w s f)
  marked-leads w s f there links same sound = leads-alike w _ sound (keeps-changed k lawful w s there f links) (alike-marked k lawful w s f there same)

  notified-leads : (w : World R) (s : ℕ) → Has w s → Sound w → Leads w (notified k w s)
  notified-leads w s there sound =
      leads-carried w _ sound (notified-keeps k lawful w s there)
      (tell-carried k lawful w sound.closed sound.few sound.once w s there (record { waits = refl; counts = sound.counts; balance = λ n. refl }))

  -- Lemmas about a start.

  -- A record becomes part of the put with notification, and the value is stored.
  record Took (w v : World R) (m : ℕ) : Type 0 where
    held : (n : ℕ) → holders k v n ≡ holders k w n + one_if (eqb m n)
    live : v.live ≡ w.live
    ended : v.ended ≡ w.ended
    waiting : v.waiting ≡ w.waiting

  pub marked-has : (w : World R) (s : ℕ) (f : Common → Common) → Has w s → Has (changed k w s f) s
  unfolding changed
  marked-has w s f there = has-put k w s s _ there

  stored-alike : (w : World R) (s : ℕ) (field : FieldNo) (v : Value) → Has w s → Alike k lawful w (put w s (k.stored (at k w s) field v))
  stored-alike w s field v there = alike-put k lawful w s _ there (ap (λ (c : Common). c.notification) (lawful.stored_common (at k w s) field v))

  taken-took : (w : World R) (x : Waiting) → Has w x.target → (common_at k w x.target).notification ≡ Nothing_ → Took w (taken_and_stored k w x) x.number
  unfolding taken_and_stored
  taken-took w x there none =
      let v = changed k w x.target (with_notification (Some x.number)) in
      let rest = changed-holds k lawful w x.target (with_notification (Some x.number)) in
      let here = marked-has w x.target (with_notification (Some x.number)) there in
      let stored = put v x.target (k.stored (at k v x.target) x.field x.value) in
      let alike = alike-on k lawful (stored-alike v x.target x.field x.value here) (alike-rescanned k lawful stored x.target x.field (has-put k v x.target x.target _ here)) in
      record {
        held = λ n. alike.held n ∙ one-more k lawful w x.target x.number there none n;
        live = alike.live ∙ rest.live;
        ended = alike.ended ∙ rest.ended;
        waiting = alike.waiting ∙ rest.waiting;
      }

  -- The condition before a start: the counts are right once this one is included.
  pub record MayStart (w : World R) (x : Waiting) : Type 0 where
    pub there : Has w x.target
    pub none : (common_at k w x.target).notification ≡ Nothing_
    pub closed : IsClosed k w
    pub few : len w.records < 2 ^ 63
    pub once : (n : ℕ) → waiters n w.waiting ≤ 1
    pub counts : Counts (λ n. holders k w n + one_if (eqb x.number n)) w.live

  stored-leads : (w : World R) (x : Waiting) → MayStart w x → Leads w (taken_and_stored k w x)
  stored-leads w x may =
      let v = taken_and_stored k w x in
      let took = taken-took w x may.there may.none in
      let keeps = taken-keeps k lawful w x may.there in
      record {
        sound = record {
          closed = closed_on k lawful keeps may.closed;
          few = few-kept w v keeps may.few;
          counts = subst (Counts (holders k v)) (sym took.live) (counts-same (λ n. holders k w n + one_if (eqb x.number n)) (holders k v) w.live may.counts took.held);
          once = once-kept w v took.waiting may.once;
        };
        balance = λ n. ap (λ (ls : List Live). lives n ls + ends n v.ended) took.live ∙ ap (λ (es : List ℕ). lives n w.live + ends n es) took.ended;
      }

  pub starts-leads : (answers : Answers) {w : World R} {x : Waiting} {w' : World R} {requests : Requests} → Starts k answers w x w' requests → MayStart w x → Leads w w'
  starts-leads answers (to_be_processed {w} {stored} {w'} {x} is _ r) may =
      let here : Has stored x.target = subst (λ (v : World R). Has v x.target) (sym is) ((taken-keeps k lawful w x may.there).has x.target may.there) in
      let first : Leads w stored = subst (Leads w) (sym is) (stored-leads w x may) in
      let marked = marked-leads stored x.target (with_put_mark true) here (λ c. (refl, refl)) (λ c. refl) first.sound in
      leads-on first (leads-on marked (request-leads answers (marked-has stored x.target (with_put_mark true) here) r marked.sound))
  starts-leads answers (at_once_told {w} {stored} {x} is _) may =
      let here : Has stored x.target = subst (λ (v : World R). Has v x.target) (sym is) ((taken-keeps k lawful w x may.there).has x.target may.there) in
      let first : Leads w stored = subst (Leads w) (sym is) (stored-leads w x may) in
      leads-on first (notified-leads stored x.target here first.sound)

  ready-none : (w : World R) (x : Waiting) → is_ready k w x ≡ true → (common_at k w x.target).notification ≡ Nothing_
  unfolding is_ready
  ready-none w x is = none-of _ (and_parts _ _ (and_parts _ _ is).1).1

  unqueued-same : (m : ℕ) (w : World R) → ((unqueued m w).live ≡ w.live) × ((unqueued m w).ended ≡ w.ended) × ((unqueued m w).waiting ≡ without m w.waiting)
  unfolding unqueued
  unqueued-same m w = (refl, refl, refl)

  unqueued-held : (m : ℕ) (w : World R) → waiters m w.waiting ≡ 1 → (n : ℕ) → holders k (unqueued m w) n + one_if (eqb m n) ≡ holders k w n
  unfolding holders unqueued
  unqueued-held m w one n = omega (arith, without-waiters m n w.waiting one)

  unqueued-none : (m : ℕ) (w : World R) (s : ℕ) → common_at k (unqueued m w) s ≡ common_at k w s
  unfolding at unqueued
  unqueued-none m w s = refl

  next-may : (w : World R) (x : Waiting) → IsNext k w x → Sound w → MayStart (unqueued x.number w) x
  next-may w x next sound =
      let m = x.number in
      let v = unqueued m w in
      let keeps = unqueued-keeps k lawful m w in
      let same = unqueued-same m w in
      let some = waiters-some w.waiting x (waits-there k w x next) in
      let few = sound.once m in
      let one : waiters m w.waiting ≡ 1 = omega arith in
      record {
        there = keeps.has x.target (ready-has k lawful w x next.ready);
        none = ap (λ (c : Common). c.notification) (unqueued-none m w x.target) ∙ ready-none w x next.ready;
        closed = closed_on k lawful keeps sound.closed;
        few = few-kept w v keeps sound.few;
        once = λ n. subst (λ (xs : List Waiting). waiters n xs ≤ 1) (sym same.2) (without-few m n w.waiting (sound.once n));
        counts = subst (Counts (λ n. holders k v n + one_if (eqb m n))) (sym same.0) (counts-same (holders k w) (λ n. holders k v n + one_if (eqb m n)) w.live sound.counts (unqueued-held m w one));
      }

  unqueued-stands : (m : ℕ) (w : World R) (n : ℕ) → stands (unqueued m w) n ≡ stands w n
  unqueued-stands m w n = let same = unqueued-same m w in ap (λ (ls : List Live). lives n ls + ends n (unqueued m w).ended) same.0 ∙ ap (λ (es : List ℕ). lives n w.live + ends n es) same.1

  pub starts_all-leads : (answers : Answers) {w w' : World R} {requests : Requests} → StartsAll k answers w w' requests → Sound w → Leads w w'
  starts_all-leads answers (no_more _) sound = record { sound = sound; balance = λ n. refl }
  starts_all-leads answers (next_starts {w} {w'} {w''} {x} next one others) sound =
      let first = starts-leads answers one (next-may w x next sound) in
      let rest = starts_all-leads answers others first.sound in
      record { sound = rest.sound; balance = λ n. rest.balance n ∙ first.balance n ∙ unqueued-stands x.number w n }
