-- When there is a place for one more put with notification.
use Rattle.std.proofs.Common.{◌≡◌, ◌≢◌, ℕ, zero, suc, ◌+◌, ◌<◌, ◌≤◌, Bool, true, false, cond, eqb, nat_lt, ◌||◌, length, List, [], ◌∷◌, refl, sym, ap, subst, arith}
use Rattle.std.specs.Prelude.{◌&&◌, not, Contains}
use Rattle.std.specs.FinMap.{get, contains_key}
use Rattle.std.specs.List.{filter}
use Rattle.std.proofs.lemmas.Bool.{eq-eqb, ltb-true, lt-ltb}
use Rattle.ioc_notify.specs.declared.live_numbers.Live.{Live}
use Rattle.ioc_notify.specs.declared.waiting_lists.Waiting.{Waiting}
use Rattle.ioc_notify.specs.Living.{is_live}
use Rattle.ioc_record.specs.RecordRules.{RecordRules}
use Rattle.ioc_store.specs.World.{World, Has, begun, begun_at, has_place}
use Rattle.ioc_store.specs.Weights.{weight_of}
use Rattle.ioc_events.specs.Holding.{how_many, one_if_has, holders, IsCounted}
pub use Rattle.ioc_events.proofs.Ended.{there-counted}
use Rattle.ioc_journal.specs.Covering.{Holds}
use Rattle.ioc_journal.specs.Laws.{PlaceForOneMore, HeldAreFewer}
use Rattle.ioc_journal.proofs.Basics.{not_both, not_true, is-none, nobody-waits, passes-there}
use Rattle.ioc_journal.proofs.Summing.{point, same-point, of-number, holders-least}

-- Lists with as many elements as numbers.

-- The elements with another number.
abbrev others : {A : Type 0} → (A → ℕ) → ℕ → List A → List A
others number n xs = filter (λ x. not (eqb (number x) n)) xs

others-fewer : {A : Type 0} (number : A → ℕ) (n m : ℕ) (xs : List A) → how_many number m (others number n xs) ≤ how_many number m xs
others-fewer number n m [] = omega arith
others-fewer number n m (x ∷ xs) =
    let rest = others-fewer number n m xs in
    elim (eqb (number x) n) as (λ b. how_many number m (cond (not b) (x ∷ others number n xs) (others number n xs)) ≤ cond (eqb (number x) m) (1 + how_many number m xs) (how_many number m xs)) [
      | true ↦ elim (eqb (number x) m) as (λ b. how_many number m (others number n xs) ≤ cond b (1 + how_many number m xs) (how_many number m xs)) [
        | true ↦ omega arith
        | false ↦ rest
      ]
      | false ↦ elim (eqb (number x) m) as (λ b. cond b (1 + how_many number m (others number n xs)) (how_many number m (others number n xs)) ≤ cond b (1 + how_many number m xs) (how_many number m xs)) [
        | true ↦ omega arith
        | false ↦ rest
      ]
    ]

length-others : {A : Type 0} (number : A → ℕ) (n : ℕ) (xs : List A) → length xs ≡ how_many number n xs + length (others number n xs)
length-others number n [] = refl
length-others number n (x ∷ xs) =
    let rest = length-others number n xs in
    elim (eqb (number x) n) as (λ b. length (x ∷ xs) ≡ cond b (1 + how_many number n xs) (how_many number n xs) + length (cond (not b) (x ∷ others number n xs) (others number n xs))) [
      | true ↦ omega arith
      | false ↦ omega arith
    ]

among-rest : (n m : ℕ) (ns : List ℕ) → Contains (n ∷ ns) m → n ≢ m → Contains ns m
among-rest n m ns (zero, lt, is) apart = absurd (apart is)
among-rest n m ns (suc i, lt, is) apart = (i, omega (arith, lt), is)

-- A list of elements with distinct numbers from `ns` is at most as long as `ns`.
pub few-of : {A : Type 0} (number : A → ℕ) (ns : List ℕ) (xs : List A) → ((n : ℕ) → how_many number n xs ≤ 1) → ((x : A) → Contains xs x → Contains ns (number x)) → length xs ≤ length ns
few-of number [] [] once among = omega arith
few-of number [] (x ∷ xs) once among = let none = among x (0, omega arith, refl) in absurd (omega (arith, none.1))
few-of {A} number (n ∷ ns) xs once among =
    let rest = few-of number ns (others number n xs)
    (λ m. let one = once m in let fewer = others-fewer number n m xs in omega arith)
    (λ x c.
    let p = passes-there (λ (y : A). not (eqb (number y) n)) xs x c in
    among-rest n (number x) ns (among x p.0) (λ e. differ (eqb (number x) n) p.1 (eq-eqb (number x) n (sym e)))) in
    let split = length-others number n xs in
    let here = once n in
    omega arith
  where
    differ : (b : Bool) → not b ≡ true → b ≡ true → ⊥
    differ true isnt is = cc
    differ false isnt is = cc

-- Live numbers.

live-some : (n : ℕ) (ls : List Live) → is_live n ls ≡ true → 1 ≤ how_many (λ (l : Live). l.number) n ls
live-some n [] is = cc
live-some n (l ∷ ls) is = elim (eqb l.number n) as (λ b. (b || is_live n ls) ≡ true → 1 ≤ cond b (1 + how_many (λ (x : Live). x.number) n ls) (how_many (λ (x : Live). x.number) n ls)) [
  | true ↦ λ _. omega arith
  | false ↦ λ rest. live-some n ls rest
] is

pub some-live : (n : ℕ) (ls : List Live) → 1 ≤ how_many (λ (l : Live). l.number) n ls → is_live n ls ≡ true
some-live n [] some = absurd (omega arith)
some-live n (l ∷ ls) some = elim (eqb l.number n) as (λ b. 1 ≤ cond b (1 + how_many (λ (x : Live). x.number) n ls) (how_many (λ (x : Live). x.number) n ls) → (b || is_live n ls) ≡ true) [
  | true ↦ λ _. refl
  | false ↦ λ rest. some-live n ls rest
] some

all-three : (a b c : Bool) → a ≡ true → b ≡ true → c ≡ false → (a && (b && not c)) ≡ true
all-three true true false x y z = refl
all-three true true true x y z = cc
all-three true false c x y z = cc
all-three false b c x y z = cc

one-if : (a : ℕ) → 1 ≤ cond (nat_lt 0 a) 1 0 → 1 ≤ a
one-if a some = elim (nat_lt 0 a) as (λ b. nat_lt 0 a ≡ b → 1 ≤ cond b 1 0 → 1 ≤ a) [
  | true ↦ λ is _. ltb-true 0 a is
  | false ↦ λ isnt none. absurd (omega arith)
] refl some

if-one : (a : ℕ) → 1 ≤ a → cond {A = ℕ} (nat_lt 0 a) 1 0 ≡ 1
if-one a some = ap (λ (b : Bool). cond {A = ℕ} b 1 0) (lt-ltb 0 a some)

at-most-one : (b : Bool) → cond b 1 0 ≤ 1
at-most-one true = omega arith
at-most-one false = omega arith

module _ {R : Type 0} (k : RecordRules R) where
  module _ (w : World R) (counted : IsCounted k w) where
    -- A number is live exactly if a record is part of the put with notification under it.
    pub has-live : (n : ℕ) → is_live n w.live ≡ true → 1 ≤ holders k w n
    has-live n is = let some = live-some n w.live is in let once = counted.counted.live n in one-if (holders k w n) (omega arith)

    pub is-held-live : (n : ℕ) → 1 ≤ holders k w n → is_live n w.live ≡ true
    is-held-live n some = let once = counted.counted.live n in let one = if-one (holders k w n) some in some-live n w.live (omega arith)

    has-entry : (l : Live) → Contains w.live l → 1 ≤ holders k w l.number
    has-entry l c = let some = there-counted (λ (x : Live). x.number) w.live l c in let once = counted.counted.live l.number in one-if (holders k w l.number) (omega arith)

    pub has-waiting : (x : Waiting) → Contains w.waiting x → 1 ≤ holders k w x.number
    unfolding holders
    has-waiting x c = let some = there-counted (λ (y : Waiting). y.number) w.waiting x c in omega arith

    pub live-once : (n : ℕ) → how_many (λ (l : Live). l.number) n w.live ≤ 1
    live-once n = let once = counted.counted.live n in let one = at-most-one (nat_lt 0 (holders k w n)) in omega arith

    place : (numbers : List ℕ) (number moment : ℕ) → ((n : ℕ) → 1 ≤ holders k w n → Contains numbers n) → length numbers < 256 → (Contains numbers number → ⊥) → has_place (begun_at moment w) number ≡ true
    unfolding begun begun_at
    place numbers number moment among few free =
        let live = few-of (λ (l : Live). l.number) numbers w.live live-once (λ l c. among l.number (has-entry l c)) in
        let waiting = few-of (λ (x : Waiting). x.number) numbers w.waiting counted.counted.waits_once (λ x c. among x.number (has-waiting x c)) in
        all-three _ _ _ (lt-ltb (length w.live + 0) 256 (omega arith)) (lt-ltb (length w.waiting) 256 (omega arith))
        (not_true (is_live number w.live) (λ is. free (among number (has-live number is))))

  -- The count of a put with notification in a held part is at most its count in the world of all.
  held-fewer : (m v : World R) → Holds k m v → (n : ℕ) → holders k v n ≤ holders k m n
  held-fewer m v holds n = holders-least k n v m (λ q. least q)
    where
      least : (q : ℕ) → point k n v q ≤ point k n m q
      least q = elim (contains_key v.records q) as (λ b. contains_key v.records q ≡ b → point k n v q ≤ point k n m q) [
        | true ↦ λ there. let same = same-point k n q m v (holds.records q there) (holds.waiting q there) in omega arith
        | false ↦ λ isnt.
            let out : Has v q → ⊥ = λ there. not_both there isnt in
            let record_none = ap (weight_of (one_if_has k n)) (is-none (get v.records q) out) in
            let none_waits = ap (of-number n) (nobody-waits v.waiting q (λ x c e. out (subst (λ (t : ℕ). Has v t) e (holds.within x c)))) in
            omega (arith, record_none, none_waits)
      ] refl

  -- A put with notification that is live in a held part is live in the world of all.
  pub held-live : (m v : World R) → Holds k m v → IsCounted k m → IsCounted k v → (n : ℕ) → is_live n v.live ≡ true → is_live n m.live ≡ true
  held-live m v holds counted own n is =
      let fewer = held-fewer m v holds n in
      let some = has-live v own n is in
      is-held-live m counted n (omega (arith, fewer, some))

  pub held-are-fewer : HeldAreFewer k
  held-are-fewer m v holds counted own n =
      let fewer = held-fewer m v holds n in
      let all = counted.counted.counted n in
      let held = own.counted.counted n in
      omega (arith, fewer, all, held)

  pub place-for-one-more : PlaceForOneMore k
  place-for-one-more m numbers number moment sound live few free = (
    place m sound.counted numbers number moment among few free,
    λ v holds counted. place v counted numbers number moment (λ n some. let fewer = held-fewer m v holds n in among n (omega arith)) few free,
  )
    where
      among : (n : ℕ) → 1 ≤ holders k m n → Contains numbers n
      among n some = live n (is-held-live m sound.counted n some)
