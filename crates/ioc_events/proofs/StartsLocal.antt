-- Starts of puts with notification depend only on the records of `U`, and change only these.
use Rattle.std.proofs.Common.{◌≡◌, ◌≢◌, ℕ, Bool, true, false, cond, not, List, Option, Some, None as Nothing_, is_some, unwrap_or, refl, sym, ap, subst, ◌∙◌}
use Rattle.std.specs.Prelude.{Contains, ◌&&◌, slice_get}
use Rattle.std.specs.FinMap.{get, contains_key}
use Rattle.ioc_values.specs.declared.value.Value.{Value}
use Rattle.ioc_fields.specs.declared.field_no.FieldNo.{FieldNo}
use Rattle.ioc_ledger.specs.Requests.{Requests, None, followed_by}
use Rattle.ioc_notify.specs.declared.waiting_lists.Waiting.{Waiting}
use Rattle.ioc_dbcommon.specs.Steps.{with_put_mark}
use Rattle.ioc_record.specs.RecordRules.{RecordRules}
use Rattle.ioc_record.specs.Laws.{IsLawful}
use Rattle.ioc_store.specs.World.{World, at, common_at, put, changed, unqueued}
use Rattle.ioc_store.specs.Given.{Answers}
use Rattle.ioc_store.specs.Notifying.{notified}
use Rattle.ioc_process.specs.Processing.{Done, request}
use Rattle.ioc_process.specs.Alongside.{Goes, changed-goes, rescanned-goes, request-goes}
use Rattle.ioc_events.specs.Beside.{Spares}
use Rattle.ioc_events.specs.Local.{KeepsApart}
use Rattle.ioc_events.specs.Starting.{processes, is_ready, taken_and_stored, started, all_started, IsNext, NoneReady}
use Rattle.ioc_events.specs.StepRules.{StartsAll, no_more, next_starts}
use Rattle.ioc_events.proofs.Besides.{not_both, Within, Along, put_along, held_along, guards}
use Rattle.ioc_events.proofs.RecordLists.{waits-too, taken-same, taken-elsewhere}
use Rattle.ioc_events.proofs.StartRules.{waits-there, starts-is, starts-allowed, starts_all-is, starts_all-allowed}
use Rattle.ioc_events.proofs.Waitings.{waited, started-waiting}

pub both_followed : {a b c d : Requests} → a ≡ b → c ≡ d → followed_by a c ≡ followed_by b d
both_followed {a} {b} {c} {d} one two = ap (λ (x : Requests). followed_by x c) one ∙ ap (followed_by b) two

none-there : {R : Type 0} (k : RecordRules R) → IsLawful k → (o : Option R) → is_some o ≡ false → (k.common (unwrap_or o k.missing)).active ≡ true
none-there k lawful Nothing_ isnt = lawful.missing_is_active
none-there k lawful (Some r) isnt = cc

module _ {R : Type 0} (k : RecordRules R) (lawful : IsLawful k) where
  missing-is : (w : World R) (n : ℕ) → contains_key w.records n ≡ false → (common_at k w n).active ≡ true
  unfolding at
  missing-is w n isnt = none-there k lawful (get w.records n) isnt

  -- Whether one may start depends only on its record.
  abbrev pub idle_alone : R → Bool
  idle_alone r = not (k.common r).active && not (is_some (k.common r).notification)

  pub ready-is : (w : World R) (x : Waiting) → is_ready k w x ≡ idle_alone (at k w x.target)
  unfolding is_ready
  ready-is w x = elim (contains_key w.records x.target) as (λ b. contains_key w.records x.target ≡ b → b && idle_alone (at k w x.target) ≡ idle_alone (at k w x.target)) [
    | true ↦ λ there. refl
    | false ↦ λ isnt. sym (ap (λ b. not b && not (is_some (common_at k w x.target).notification)) (missing-is w x.target isnt))
  ] refl

  pub ready-by : (a b : World R) (x : Waiting) → at k a x.target ≡ at k b x.target → is_ready k a x ≡ is_ready k b x
  ready-by a b x same = ready-is a x ∙ ap (λ (r : R). not (k.common r).active && not (is_some (k.common r).notification)) same ∙ sym (ready-is b x)

module _ {R : Type 0} (k : RecordRules R) (lawful : IsLawful k) (mine : ℕ → Bool) where
  -- One that may start waits for a record in `U`.
  inside : (a : World R) → KeepsApart k mine a → (x : Waiting) → Contains a.waiting x → is_ready k a x ≡ true → mine x.target ≡ true
  inside a apart x waits ready = elim (mine x.target) as (λ b. mine x.target ≡ b → mine x.target ≡ true) [
    | true ↦ λ is. is
    | false ↦ λ out. absurd (not_both ready (apart.none_ready x waits out))
  ] refl

  -- If no new one waits and what is outside `U` is unchanged, they stay apart.
  fewer-apart : (a b : World R) → ((n : ℕ) → mine n ≡ false → at k b n ≡ at k a n) → ((x : Waiting) → Contains b.waiting x → Contains a.waiting x) → KeepsApart k mine a → KeepsApart k mine b
  fewer-apart a b same fewer apart = record {
    none_ready = λ x waits out. ready-by k lawful b a x (same x.target out) ∙ apart.none_ready x (fewer x waits) out;
    numbers = λ x y waits other_waits may out. apart.numbers x y (fewer x waits) (fewer y other_waits) may out;
  }

  unqueued-spares : (first a : World R) (number : ℕ) → ((x : Waiting) → Contains a.waiting x → mine x.target ≡ false → x.number ≢ number)
      → Spares k mine first a → Spares k mine first (unqueued number a)
  unfolding at unqueued
  unqueued-spares first a number others spares = record {
    spared = spares.spared;
    there = spares.there;
    waiting = λ n out. taken-elsewhere number n a.waiting (λ x waits e. others x waits (ap mine e ∙ out)) ∙ spares.waiting n out;
  }

module _ {R : Type 0} (k : RecordRules R) (lawful : IsLawful k) (mine : ℕ → Bool) (answers : Answers) (w v : World R) where
  abbrev U : ℕ → Type 0
  U = λ n. mine n ≡ true

  abbrev Both : World R → World R → Type 0
  Both = Along k mine w v

  value-goes : {a b : World R} → Both a b → (s : ℕ) → U s → (field : FieldNo) (x : Value) → Both (put a s (k.stored (at k a s) field x)) (put b s (k.stored (at k b s) field x))
  value-goes {a} {b} both s u field x =
      let r = k.stored (at k a s) field x in
      subst (λ (q : R). Both (put a s r) (put b s (k.stored q field x))) (both.same.records s u)
      (put_along k mine w v _ _ both s u r ((guards k mine w v lawful).stored {n = s} ((guards k mine w v lawful).good both s u) field x))

  taken-goes : {a b : World R} → Both a b → (x : Waiting) → U x.target → Both (taken_and_stored k a x) (taken_and_stored k b x)
  unfolding taken_and_stored
  taken-goes both x u =
      let taken = held_along k mine w v lawful _ _ both x.target u (Some x.number) in
      rescanned-goes k lawful U (Within k mine w v) Both (guards k mine w v lawful) (value-goes taken x.target u x.field x.value) x.target u x.field

  pub started-goes : {a b : World R} → Both a b → (x : Waiting) → U x.target → Goes Both (started k answers a x) (started k answers b x)
  unfolding started
  started-goes {a} {b} both x u =
      let first = taken-goes both x u in
      let a' = taken_and_stored k a x in
      let b' = taken_and_stored k b x in
      subst (λ (r : R). Goes Both (started k answers a x) (cond {A = Done R} (processes k r x.field) (request k answers (changed k b' x.target (with_put_mark true)) x.target) (record { world = notified k b' x.target; requests = None })))
      (first.same.records x.target u)
      (elim (processes k (at k a' x.target) x.field) as (λ p. Goes Both
      (cond {A = Done R} p (request k answers (changed k a' x.target (with_put_mark true)) x.target) (record { world = notified k a' x.target; requests = None }))
      (cond {A = Done R} p (request k answers (changed k b' x.target (with_put_mark true)) x.target) (record { world = notified k b' x.target; requests = None }))) [
        | true ↦ request-goes k lawful U (Within k mine w v) Both (guards k mine w v lawful) answers
            (changed-goes k lawful U (Within k mine w v) Both (guards k mine w v lawful) first x.target u (with_put_mark true) (λ c. (refl, refl, refl))) x.target u
        | false ↦ record { inv = (guards k mine w v lawful).tell first x.target u; requests = refl }
      ])

  -- The next one in one world is the next in the other, and waits for a record in `U`.
  next-goes : {a b : World R} → Both a b → KeepsApart k mine a → KeepsApart k mine b → (x : Waiting) → IsNext k a x → IsNext k b x × (mine x.target ≡ true)
  next-goes {a} {b} both apart other_apart x next =
      let u : mine x.target ≡ true = inside k lawful mine a apart x (waits-there k a x next) next.ready in (
        record {
          ready = ready-by k lawful b a x (sym (both.same.records x.target u)) ∙ next.ready;
          first = ap (λ (l : List Waiting). slice_get l 0) (sym (both.same.waiting x.target u)) ∙ next.first;
          lowest = λ y waits ready.
              let may : mine y.target ≡ true = inside k lawful mine b other_apart y waits ready in
              next.lowest y (waits-too b.waiting a.waiting y (sym (both.same.waiting y.target may)) waits) (ready-by k lawful a b y (both.same.records y.target may) ∙ ready);
        },
        u,
      )

  none-goes : {a b : World R} → Both a b → KeepsApart k mine b → NoneReady k a → NoneReady k b
  none-goes {a} {b} both other_apart none = record {
    none = λ y waits. elim (mine y.target) as (λ m. mine y.target ≡ m → is_ready k b y ≡ false) [
      | true ↦ λ u. ready-by k lawful b a y (sym (both.same.records y.target u)) ∙ none.none y (waits-too b.waiting a.waiting y (sym (both.same.waiting y.target u)) waits)
      | false ↦ λ out. other_apart.none_ready y waits out
    ] refl;
  }

  unqueued-goes : {a b : World R} → Both a b → (number : ℕ) → ((x : Waiting) → Contains a.waiting x → mine x.target ≡ false → x.number ≢ number)
      → ((x : Waiting) → Contains b.waiting x → mine x.target ≡ false → x.number ≢ number) → Both (unqueued number a) (unqueued number b)
  unfolding at unqueued
  unqueued-goes {a} {b} both number others other_others = record {
    same = record {
      moment = both.same.moment;
      calls = both.same.calls;
      outbox = both.same.outbox;
      dropped = both.same.dropped;
      waiting = λ n u. taken-same number n a.waiting b.waiting (both.same.waiting n u);
      records = both.same.records;
    };
    there = both.there;
    shut = record { shut = both.shut.shut };
    spares = unqueued-spares k lawful mine w a number others both.spares;
    other_spares = unqueued-spares k lawful mine v b number other_others both.other_spares;
  }

  -- The next one starts in both worlds.
  start-goes : {a b : World R} → Both a b → KeepsApart k mine a → KeepsApart k mine b → (x : Waiting) → IsNext k a x → IsNext k b x → U x.target
      → Goes Both (started k answers (unqueued x.number a) x) (started k answers (unqueued x.number b) x)
  start-goes {a} {b} both apart other_apart x next other_next u =
      started-goes (unqueued-goes both x.number
      (λ y waits out e. apart.numbers x y (waits-there k a x next) waits u out (sym e))
      (λ y waits out e. other_apart.numbers x y (waits-there k b x other_next) waits u out (sym e))) x u

  -- One that waits after a start waited before.
  waited-before : (a : World R) (x y : Waiting) → Contains (started k answers (unqueued x.number a) x).world.waiting y → Contains a.waiting y
  unfolding unqueued
  waited-before a x y waits = waited x.number a.waiting y (subst (λ (l : List Waiting). Contains l y) (started-waiting k lawful answers (unqueued x.number a) x) waits)

  -- The result if one starts and then the others.
  all-next : (b : World R) (x : Waiting) → IsNext k b x
      → let first = started k answers (unqueued x.number b) x in
      let rest = all_started k answers first.world in
      all_started k answers b ≡ record { world = rest.world; requests = followed_by first.requests rest.requests }
  all-next b x next = starts_all-is k lawful answers (next_starts next (starts-allowed k lawful answers (unqueued x.number b) x) (starts_all-allowed k lawful answers (started k answers (unqueued x.number b) x).world))

  starts-go : {a a' : World R} {requests : Requests} → StartsAll k answers a a' requests → (b : World R) → Both a b → KeepsApart k mine a → KeepsApart k mine b
      → Goes Both (record { world = a'; requests = requests }) (all_started k answers b)
  starts-go (no_more {w = a} none) b both apart other_apart =
      subst (λ (d : Done R). Goes Both (record { world = a; requests = None }) d) (sym (starts_all-is k lawful answers (no_more (none-goes both other_apart none)))) (record { inv = both; requests = refl })
  starts-go (next_starts {w = a} {w' = a'} {w'' = a''} {x} {first} {rest} next one others) b both apart other_apart =
      let also = next-goes both apart other_apart x next in
      let done = started k answers (unqueued x.number a) x in
      let other = started k answers (unqueued x.number b) x in
      let begun = start-goes both apart other_apart x next also.0 also.1 in
      let left : KeepsApart k mine done.world = fewer-apart k lawful mine a done.world (λ n out. begun.inv.spares.spared n out ∙ sym (both.spares.spared n out)) (waited-before a x) apart in
      let other_left : KeepsApart k mine other.world = fewer-apart k lawful mine b other.world (λ n out. begun.inv.other_spares.spared n out ∙ sym (both.other_spares.spared n out)) (waited-before b x) other_apart in
      let is : done ≡ record { world = a'; requests = first } = starts-is k lawful answers one in
      let more = starts-go others other.world (subst (λ (d : Done R). Both d.world other.world) is begun.inv) (subst (λ (d : Done R). KeepsApart k mine d.world) is left) other_left in
      subst (λ (d : Done R). Goes Both (record { world = a''; requests = followed_by first rest }) d) (sym (all-next b x also.0))
      (record { inv = more.inv; requests = both_followed (ap (λ (d : Done R). d.requests) (sym is) ∙ begun.requests) more.requests })

  pub all-goes : (a b : World R) → Both a b → KeepsApart k mine a → KeepsApart k mine b → Goes Both (all_started k answers a) (all_started k answers b)
  all-goes a b both apart other_apart =
      let done = starts-go (starts_all-allowed k lawful answers a) b both apart other_apart in
      record { inv = done.inv; requests = done.requests }
