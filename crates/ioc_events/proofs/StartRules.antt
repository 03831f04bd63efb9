-- The put with notification that starts next: the rules allow the result of the functions, and
-- nothing else.
use Rattle.std.proofs.Common.{◌≡◌, ◌≢◌, ℕ, zero, suc, ◌+◌, ◌<◌, ◌≤◌, Bool, true, false, cond, not, nat_eq, List, [], ◌∷◌, ◌++◌, length, Option, Some, None as Nothing_, refl, sym, ap, subst, ◌∙◌, inl, inr, arith, append_assoc, append-nil}
use Rattle.std.specs.Prelude.{slice_get, Contains, nat_le}
use Rattle.std.specs.List.{filter}
use Rattle.std.proofs.lemmas.Bool.{leb-true, leb-false}
use Rattle.std.proofs.lemmas.Grind.{common_steps}
use Rattle.std.proofs.lemmas.List.Elements.{Contains-append_cases}
use Rattle.ioc_ledger.specs.Requests.{Requests, None, followed_by}
use Rattle.ioc_notify.specs.declared.waiting_lists.Waiting.{Waiting}
use Rattle.ioc_notify.specs.Waits.{at_record, without}
use Rattle.ioc_dbcommon.specs.Steps.{with_put_mark}
use Rattle.ioc_record.specs.RecordRules.{RecordRules}
use Rattle.ioc_record.specs.Laws.{IsLawful}
use Rattle.ioc_store.specs.World.{World, at, changed, unqueued}
use Rattle.ioc_store.specs.Given.{Answers}
use Rattle.ioc_store.specs.Notifying.{notified}
use Rattle.ioc_process.specs.Processing.{Done, request}
use Rattle.ioc_process.specs.Rules.{Requested}
use Rattle.ioc_events.specs.Starting.{processes, sooner, is_ready, next_from, next_waiting, taken_and_stored, started, started_then, started_most, all_started, IsNext, NoneReady}
use Rattle.ioc_events.specs.StepRules.{Starts, to_be_processed, at_once_told, StartsAll, no_more, next_starts}
use Rattle.ioc_process.specs.RulesAlone.{request-is}
use Rattle.ioc_process.specs.RulesAllowed.{request-allowed}
use Rattle.ioc_events.proofs.Waitings.{started-waiting}

-- Lemmas about lists.

filter-append : {X : Type 0} (p : X → Bool) (xs ys : List X) → filter p (xs ++ ys) ≡ filter p xs ++ filter p ys
filter-append p [] ys = refl
filter-append p (x ∷ xs) ys = elim (p x) as (λ b. cond b (x ∷ filter p (xs ++ ys)) (filter p (xs ++ ys)) ≡ cond b (x ∷ filter p xs) (filter p xs) ++ filter p ys) [
  | true ↦ ap (λ zs. x ∷ zs) (filter-append p xs ys)
  | false ↦ filter-append p xs ys
]

first-append : {X : Type 0} (xs ys : List X) (x : X) → slice_get xs 0 ≡ Some x → slice_get (xs ++ ys) 0 ≡ Some x
first-append [] ys x is = cc
first-append (y ∷ xs) ys x is = is

contains-later : {X : Type 0} (y : X) (xs : List X) (x : X) → Contains xs x → Contains (y ∷ xs) x
contains-later y xs x (i, lt, is) = (suc i, omega (arith, lt), is)

filter-none : {X : Type 0} (p : X → Bool) (xs : List X) → ((x : X) → Contains xs x → p x ≡ false) → filter p xs ≡ []
filter-none p [] none = refl
filter-none p (x ∷ xs) none = rw (none x (0, omega arith, refl)) (filter-none p xs (λ y h. none y (contains-later x xs y h)))

-- The first item that passes a test is in the list and passes.
first-passes : {X : Type 0} (p : X → Bool) (xs : List X) (x : X) → slice_get (filter p xs) 0 ≡ Some x → Contains xs x × (p x ≡ true)
first-passes p [] x is = cc
first-passes p (y ∷ xs) x is =
    elim (p y) as (λ b. p y ≡ b → slice_get (cond b (y ∷ filter p xs) (filter p xs)) 0 ≡ Some x → Contains (y ∷ xs) x × (p x ≡ true)) [
      | true ↦ λ passes here. let e : y ≡ x = cc in ((0, omega arith, e), ap p (sym e) ∙ passes)
      | false ↦ λ fails here. let rest = first-passes p xs x here in (contains-later y xs x rest.0, rest.1)
    ] refl is

pub one_item : {X : Type 0} (x y : X) → Contains (x ∷ []) y → x ≡ y
one_item x y (zero, lt, is) = is
one_item x y (suc i, lt, is) = absurd (omega arith)

no_longer : (number : ℕ) (xs : List Waiting) → length (without number xs) ≤ length xs
no_longer number [] = omega arith
no_longer number (y ∷ xs) =
    let rest = no_longer number xs in
    elim (not (nat_eq y.number number)) as (λ b. length (cond b (y ∷ without number xs) (without number xs)) ≤ suc (length xs)) [
      | true ↦ omega (arith, rest)
      | false ↦ omega (arith, rest)
    ]

-- Removing one from a list that contains it makes the list shorter.
shorter : (number : ℕ) (xs : List Waiting) (x : Waiting) → Contains xs x → x.number ≡ number → length (without number xs) + 1 ≤ length xs
shorter number [] x (i, lt, is) e = absurd (omega arith)
shorter number (y ∷ xs) x (zero, lt, is) e =
    let rest = no_longer number xs in
    let same : y.number ≡ number = ap (λ (v : Waiting). v.number) is ∙ e in
    let here : nat_eq y.number number ≡ true = grind (arith, common_steps) in
    rw here (omega (arith, rest))
shorter number (y ∷ xs) x (suc i, lt, is) e =
    let rest = shorter number xs x (i, omega (arith, lt), is) e in
    elim (not (nat_eq y.number number)) as (λ b. length (cond b (y ∷ without number xs) (without number xs)) + 1 ≤ suc (length xs)) [
      | true ↦ omega (arith, rest)
      | false ↦ omega (arith, rest)
    ]

module _ {R : Type 0} (k : RecordRules R) where
  -- The one that starts next, of these that wait.
  pub IsBest : World R → List Waiting → Option Waiting → Type 0
  IsBest w xs Nothing_ = (y : Waiting) → Contains xs y → is_ready k w y ≡ false
  IsBest w xs (Some x) = (is_ready k w x ≡ true) × (slice_get (at_record x.target xs) 0 ≡ Some x) × ((y : Waiting) → Contains xs y → is_ready k w y ≡ true → x.target ≤ y.target)

  -- Whether one may start depends only on its record.
  ready-same : (w : World R) (x y : Waiting) → x.target ≡ y.target → is_ready k w x ≡ is_ready k w y
  unfolding is_ready
  ready-same w x y e = rw e refl

  not_both : {b : Bool} → b ≡ true → b ≡ false → ⊥
  not_both is isnt = cc

  -- One whose record has none before it in the list is the first of that record.
  comes_first : (xs : List Waiting) (x : Waiting) → ((y : Waiting) → Contains xs y → y.target ≢ x.target) → slice_get (at_record x.target (xs ++ x ∷ [])) 0 ≡ Some x
  comes_first xs x apart =
      let none : at_record x.target xs ≡ [] = filter-none (λ w. nat_eq w.target x.target) xs (λ y h. let other : y.target ≢ x.target = apart y h in grind (arith, common_steps)) in
      let here : nat_eq x.target x.target ≡ true = grind (arith, common_steps) in
      rw (filter-append (λ (w : Waiting). nat_eq w.target x.target) xs (x ∷ []), none, here) refl

  best-more : (w : World R) (xs : List Waiting) (x : Waiting) (best : Option Waiting) (ready : Bool) → is_ready k w x ≡ ready → IsBest w xs best → IsBest w (xs ++ x ∷ []) (cond ready (Some (sooner best x)) best)
  unfolding IsBest
  best-more w xs x Nothing_ true is before = (
    is,
    comes_first xs x (λ y h e. not_both (ready-same w y x e ∙ is) (before y h)),
    λ y h r. elim (Contains-append_cases xs (x ∷ []) y h) [
      | inl early ↦ absurd (not_both r (before y early))
      | inr late ↦ let e : x ≡ y = one_item x y late in omega (arith, ap (λ (v : Waiting). v.target) e)
    ],
  )
  best-more w xs x Nothing_ false is before = λ y h. elim (Contains-append_cases xs (x ∷ []) y h) [
    | inl early ↦ before y early
    | inr late ↦ let e : x ≡ y = one_item x y late in subst (λ (v : Waiting). is_ready k w v ≡ false) e is
  ]
  best-more w xs x (Some z) true is before =
      elim (nat_le z.target x.target) as (λ b. nat_le z.target x.target ≡ b → IsBest w (xs ++ x ∷ []) (Some (cond b z x))) [
        | true ↦ λ le.
            let low : z.target ≤ x.target = leb-true z.target x.target le in (
              before.0,
              (rw (filter-append (λ (v : Waiting). nat_eq v.target z.target) xs (x ∷ [])) (first-append (at_record z.target xs) _ z before.1)),
              λ y h r. elim (Contains-append_cases xs (x ∷ []) y h) [
                | inl early ↦ before.2 y early r
                | inr late ↦ let e : x ≡ y = one_item x y late in omega (arith, low, ap (λ (v : Waiting). v.target) e)
              ],
            )
        | false ↦ λ le.
            let up : x.target < z.target = leb-false z.target x.target le in (
              is,
              comes_first xs x (λ y h e. let low : z.target ≤ y.target = before.2 y h (ready-same w y x e ∙ is) in omega (arith, low, up, e)),
              λ y h r. elim (Contains-append_cases xs (x ∷ []) y h) [
                | inl early ↦ let low : z.target ≤ y.target = before.2 y early r in omega (arith, low, up)
                | inr late ↦ let e : x ≡ y = one_item x y late in omega (arith, ap (λ (v : Waiting). v.target) e)
              ],
            )
      ] refl
  best-more w xs x (Some z) false is before = (
    before.0,
    (rw (filter-append (λ (v : Waiting). nat_eq v.target z.target) xs (x ∷ [])) (first-append (at_record z.target xs) _ z before.1)),
    λ y h r. elim (Contains-append_cases xs (x ∷ []) y h) [
      | inl early ↦ before.2 y early r
      | inr late ↦ let e : x ≡ y = one_item x y late in absurd (not_both r (subst (λ (v : Waiting). is_ready k w v ≡ false) e is))
    ],
  )

  best-of : (w : World R) (xs ys : List Waiting) (best : Option Waiting) → IsBest w xs best → IsBest w (xs ++ ys) (next_from k w best ys)
  best-of w xs [] best before = subst (λ (l : List Waiting). IsBest w l best) (sym (append-nil xs)) before
  best-of w xs (y ∷ ys) best before =
      subst (λ (l : List Waiting). IsBest w l (next_from k w best (y ∷ ys))) (append_assoc xs (y ∷ []) ys)
      (best-of w (xs ++ y ∷ []) ys _ (best-more w xs y best (is_ready k w y) refl before))

  pub best-next : (w : World R) → IsBest w w.waiting (next_waiting k w)
  unfolding next_waiting IsBest
  best-next w = best-of w [] w.waiting Nothing_ (λ y h. absurd (omega (arith, h.1)))

  pub is-next : (w : World R) (x : Waiting) → IsBest w w.waiting (Some x) → IsNext k w x
  unfolding IsBest
  is-next w x best = record { ready = best.0; first = best.1; lowest = best.2 }

  pub waits-there : (w : World R) (x : Waiting) → IsNext k w x → Contains w.waiting x
  waits-there w x next = (first-passes (λ (v : Waiting). nat_eq v.target x.target) w.waiting x next.first).0

  best-none : (w : World R) (best : Option Waiting) → IsBest w w.waiting best → NoneReady k w → best ≡ Nothing_
  unfolding IsBest
  best-none w Nothing_ best none = refl
  best-none w (Some z) best none =
      absurd (not_both best.0 (none.none z (first-passes (λ (v : Waiting). nat_eq v.target z.target) w.waiting z best.1).0))

  pub none-next : (w : World R) → NoneReady k w → next_waiting k w ≡ Nothing_
  none-next w none = best-none w _ (best-next w) none

  best-one : (w : World R) (x : Waiting) (best : Option Waiting) → IsBest w w.waiting best → IsNext k w x → best ≡ Some x
  unfolding IsBest
  best-one w x Nothing_ best next = absurd (not_both next.ready (best x (waits-there w x next)))
  best-one w x (Some z) best next =
      let there = (first-passes (λ (v : Waiting). nat_eq v.target z.target) w.waiting z best.1).0 in
      let one : z.target ≤ x.target = best.2 x (waits-there w x next) next.ready in
      let other : x.target ≤ z.target = next.lowest z there best.0 in
      let same : x.target ≡ z.target = omega (arith, one, other) in
      sym best.1 ∙ ap (λ (t : ℕ). slice_get (at_record t w.waiting) 0) (sym same) ∙ next.first

  pub one-next : (w : World R) (x : Waiting) → IsNext k w x → next_waiting k w ≡ Some x
  one-next w x next = best-one w x _ (best-next w) next

  -- None is left that may start, or one is next.
  none-ready : (w : World R) → IsBest w w.waiting Nothing_ → NoneReady k w
  unfolding IsBest
  none-ready w best = record { none = best }

module _ {R : Type 0} (k : RecordRules R) (lawful : IsLawful k) (answers : Answers) where
  pub started-by : (w : World R) (x : Waiting) (b : Bool) → processes k (at k (taken_and_stored k w x) x.target) x.field ≡ b
      → started k answers w x ≡ cond {A = Done R} b (request k answers (changed k (taken_and_stored k w x) x.target (with_put_mark true)) x.target) (record { world = notified k (taken_and_stored k w x) x.target; requests = None })
  unfolding started
  started-by w x b is = rw is refl

  pub starts-is : {w : World R} {x : Waiting} {w' : World R} {requests : Requests} → Starts k answers w x w' requests → started k answers w x ≡ record { world = w'; requests = requests }
  starts-is (to_be_processed {w} {stored} {w'} {x} {requests} is proc r) =
      started-by w x true (ap (λ (v : World R). processes k (at k v x.target) x.field) (sym is) ∙ proc)
      ∙ request-is k lawful answers (subst (λ (v : World R). Requested k answers (changed k v x.target (with_put_mark true)) x.target w' requests) is r)
  starts-is (at_once_told {w} {stored} {x} is proc) =
      started-by w x false (ap (λ (v : World R). processes k (at k v x.target) x.field) (sym is) ∙ proc)
      ∙ ap (λ (v : World R). record { world = notified k v x.target; requests = None }) (sym is)

  pub starts-allowed : (w : World R) (x : Waiting) → Starts k answers w x (started k answers w x).world (started k answers w x).requests
  starts-allowed w x =
      let v = taken_and_stored k w x in
      elim (processes k (at k v x.target) x.field) as (λ b. processes k (at k v x.target) x.field ≡ b → Starts k answers w x (started k answers w x).world (started k answers w x).requests) [
        | true ↦ λ proc. rw (started-by w x true proc) (to_be_processed refl proc (request-allowed k lawful answers _ _))
        | false ↦ λ proc. rw (started-by w x false proc) (at_once_told refl proc)
      ] refl

  pub no-start : (most : ℕ) (w : World R) → next_waiting k w ≡ Nothing_ → started_most k answers most w ≡ record { world = w; requests = None }
  unfolding started_most
  no-start zero w none = refl
  no-start (suc most) w none = rw none refl

  unqueued-waiting : (number : ℕ) (w : World R) → (unqueued number w).waiting ≡ without number w.waiting
  unfolding unqueued
  unqueued-waiting number w = refl

  -- Fewer wait after one has started.
  fewer : (w : World R) (x : Waiting) (most : ℕ) → IsNext k w x → length w.waiting ≤ suc most → length (started k answers (unqueued x.number w) x).world.waiting ≤ most
  fewer w x most next few =
      let less = shorter x.number w.waiting x (waits-there k w x next) refl in
      omega (arith, few, less, ap length (started-waiting k lawful answers (unqueued x.number w) x), ap length (unqueued-waiting x.number w))

  pub start-next : (most : ℕ) (w : World R) (x : Waiting) → next_waiting k w ≡ Some x
      → started_most k answers (suc most) w ≡ started_then k answers (started_most k answers most) w (Some x)
  unfolding started_most
  start-next most w x is = ap (started_then k answers (started_most k answers most) w) is

  starts_most-is : {w w' : World R} {requests : Requests} → StartsAll k answers w w' requests → (most : ℕ) → length w.waiting ≤ most → started_most k answers most w ≡ record { world = w'; requests = requests }
  starts_most-is (no_more {w} none) most few = no-start most w (none-next k w none)
  starts_most-is (next_starts {w} {w'} {w''} {x} {first} {rest} next one others) zero few =
      absurd (let there = (waits-there k w x next).1 in omega (arith, few, there))
  starts_most-is (next_starts {w} {w'} {w''} {x} {first} {rest} next one others) (suc most) few =
      let done = starts-is one in
      let left : length w'.waiting ≤ most = subst (λ (d : Done R). length d.world.waiting ≤ most) done (fewer w x most next few) in
      start-next most w x (one-next k w x next)
      ∙ ap (λ (d : Done R). record { world = (started_most k answers most d.world).world; requests = followed_by d.requests (started_most k answers most d.world).requests }) done
      ∙ ap (λ (d : Done R). record { world = d.world; requests = followed_by first d.requests }) (starts_most-is others most left)

  pub starts_all-is : {w w' : World R} {requests : Requests} → StartsAll k answers w w' requests → all_started k answers w ≡ record { world = w'; requests = requests }
  unfolding all_started
  starts_all-is {w} r = starts_most-is r (length w.waiting) (omega arith)

  -- What is allowed of those that start in this world.
  AllowedFrom : ℕ → World R → Type 0
  AllowedFrom most w = StartsAll k answers w (started_most k answers most w).world (started_most k answers most w).requests

  starts_next-allowed : (most : ℕ) (w : World R) (next : Option Waiting) → length w.waiting ≤ suc most → next_waiting k w ≡ next → IsBest k w w.waiting next
      → ((v : World R) → length v.waiting ≤ most → AllowedFrom most v) → AllowedFrom (suc most) w
  unfolding AllowedFrom
  starts_next-allowed most w Nothing_ few is best rest = rw (no-start (suc most) w is) (no_more (none-ready k w best))
  starts_next-allowed most w (Some x) few is best rest =
      let next = is-next k w x best in
      rw (start-next most w x is) (next_starts next (starts-allowed (unqueued x.number w) x) (rest (started k answers (unqueued x.number w) x).world (fewer w x most next few)))

  starts_most-allowed : (most : ℕ) (w : World R) → length w.waiting ≤ most → AllowedFrom most w
  unfolding AllowedFrom
  starts_most-allowed zero w few =
      let none : NoneReady k w = record { none = λ x h. absurd (omega (arith, few, h.1)) } in
      rw (no-start zero w (none-next k w none)) (no_more none)
  starts_most-allowed (suc most) w few = starts_next-allowed most w (next_waiting k w) few refl (best-next k w) (starts_most-allowed most)

  pub starts_all-allowed : (w : World R) → StartsAll k answers w (all_started k answers w).world (all_started k answers w).requests
  unfolding all_started AllowedFrom
  starts_all-allowed w = starts_most-allowed (length w.waiting) w (omega arith)
