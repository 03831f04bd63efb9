-- Two held sets may be joined: their live puts with notification and waiting requests are live in
-- the world of all records.
use Rattle.std.proofs.Common.{◌≡◌, ◌≢◌, ℕ, zero, suc, ◌+◌, ◌≤◌, Bool, true, false, cond, not, eqb, nat_lt, List, [], ◌∷◌, ◌++◌, length, Option, None, refl, sym, ap, subst, ◌∙◌, ⊎_elim, arith}
use Rattle.std.specs.Prelude.{IsSome, is_some, Contains}
use Rattle.std.specs.FinMap.{get}
use Rattle.std.specs.List.{filter}
use Rattle.std.proofs.lemmas.Bool.{eq-eqb, eqb-true, ltb-true, ltb-false}
use Rattle.std.proofs.lemmas.List.{length-append, length-map}
use Rattle.std.proofs.lemmas.List.Elements.{Contains-append_cases}
use Rattle.ioc_notify.specs.declared.live_numbers.Live.{Live}
use Rattle.ioc_notify.specs.declared.waiting_lists.Waiting.{Waiting}
use Rattle.ioc_notify.specs.Living.{is_live}
use Rattle.ioc_record.specs.RecordRules.{RecordRules}
use Rattle.ioc_store.specs.World.{World}
use Rattle.ioc_events.specs.Holding.{how_many, IsCounted}
use Rattle.ioc_journal.specs.Legal.{IsSound as IsSound-world}
use Rattle.ioc_journal.specs.Covering.{Holds}
use Rattle.ioc_journal.proofs.Basics.{waits-too, passes-there}
use Rattle.ioc_journal.proofs.Placing.{there-counted, few-of, has-waiting, is-held-live, live-once, held-live}
use Rattle.ioc_journal.proofs.LiveFew.{numbers, number-there, entry-live}
use Rattle.ioc_set.specs.SetState.{SetState, now_of}
use Rattle.ioc_set.specs.Sound.{IsSound}
use Rattle.ioc_set.specs.Linking.{MayBeOne}
use Rattle.ioc_set.specs.Recounting.{together}
use Rattle.ioc_journaled_set.specs.LinkLaws.{SetsMayBeOne}

not-there : {A : Type 0} (o : Option A) → o ≡ None → IsSome o → ⊥
not-there {A} o none some = let h : false ≡ true = sym (ap (λ (p : Option A). is_some p) none) ∙ some in cc

-- The number of occurrences of a number in a list.

module _ {A : Type 0} (number : A → ℕ) where
  counted-append : (n : ℕ) (xs ys : List A) → how_many number n (xs ++ ys) ≡ how_many number n xs + how_many number n ys
  counted-append n [] ys = omega arith
  counted-append n (x ∷ xs) ys =
      let rest = counted-append n xs ys in
      elim (eqb (number x) n) as (λ b. cond b (1 + how_many number n (xs ++ ys)) (how_many number n (xs ++ ys)) ≡ cond b (1 + how_many number n xs) (how_many number n xs) + how_many number n ys) [
        | true ↦ omega (arith, rest)
        | false ↦ rest
      ]

  counted-tail : (n : ℕ) (x : A) (xs : List A) → how_many number n xs ≤ how_many number n (x ∷ xs)
  counted-tail n x xs = elim (eqb (number x) n) as (λ b. how_many number n xs ≤ cond b (1 + how_many number n xs) (how_many number n xs)) [
    | true ↦ omega arith
    | false ↦ omega arith
  ]

  counted-head : (n : ℕ) (x : A) (xs : List A) → number x ≡ n → 1 ≤ how_many number n xs → how_many number n (x ∷ xs) ≤ 1 → ⊥
  counted-head n x xs is some once =
      let two : 1 + how_many number n xs ≤ 1 = subst (λ (b : Bool). cond b (1 + how_many number n xs) (how_many number n xs) ≤ 1) (eq-eqb (number x) n is) once in
      omega (arith, two, some)

  counted-there : (n : ℕ) (xs : List A) → 1 ≤ how_many number n xs → (x : A) × Contains xs x × (number x ≡ n)
  counted-there n [] some = absurd (omega (arith, some))
  counted-there n (x ∷ xs) some =
      elim (eqb (number x) n) as (λ b. eqb (number x) n ≡ b → 1 ≤ cond b (1 + how_many number n xs) (how_many number n xs) → (y : A) × Contains (x ∷ xs) y × (number y ≡ n)) [
        | true ↦ λ e _. (x, (0, omega arith, refl), eqb-true (number x) n e)
        | false ↦ λ _ rest. let i = counted-there n xs rest in (i.0, (suc i.1.0, omega (arith, i.1.1), i.1.2), i.2)
      ] refl some

  -- Two elements with the same number are equal if no number is in the list twice.
  once-same : (xs : List A) (x y : A) → Contains xs x → Contains xs y → number x ≡ number y → how_many number (number x) xs ≤ 1 → x ≡ y
  once-same [] x y (i, lt, is) there same once = absurd (omega (arith, lt))
  once-same (z ∷ zs) x y (zero, lt, is) (zero, within, so) same once = sym is ∙ so
  once-same (z ∷ zs) x y (zero, lt, is) (suc j, within, so) same once =
      let some = there-counted number zs y (j, omega (arith, within), so) in
      absurd (counted-head (number x) z zs (ap number is) (subst (λ (n : ℕ). 1 ≤ how_many number n zs) (sym same) some) once)
  once-same (z ∷ zs) x y (suc i, lt, is) (zero, within, so) same once =
      let some = there-counted number zs x (i, omega (arith, lt), is) in
      absurd (counted-head (number x) z zs (ap number so ∙ sym same) some once)
  once-same (z ∷ zs) x y (suc i, lt, is) (suc j, within, so) same once =
      let tail = counted-tail (number x) z zs in
      once-same zs x y (i, omega (arith, lt), is) (j, omega (arith, within), so) same (omega (arith, tail, once))

  -- If two lists have no common number and none twice, their concatenation has none twice.
  append-once : (n : ℕ) (xs ys : List A) → ((x y : A) → Contains xs x → Contains ys y → number x ≢ number y) → how_many number n xs ≤ 1 → how_many number n ys ≤ 1 → how_many number n (xs ++ ys) ≤ 1
  append-once n xs ys apart one two =
      let all = counted-append n xs ys in
      elim (nat_lt 0 (how_many number n xs)) as (λ b. nat_lt 0 (how_many number n xs) ≡ b → how_many number n (xs ++ ys) ≤ 1) [
        | true ↦ λ first. elim (nat_lt 0 (how_many number n ys)) as (λ b. nat_lt 0 (how_many number n ys) ≡ b → how_many number n (xs ++ ys) ≤ 1) [
          | true ↦ λ second.
              let x = counted-there n xs (ltb-true 0 (how_many number n xs) first) in
              let y = counted-there n ys (ltb-true 0 (how_many number n ys) second) in
              absurd (apart x.0 y.0 x.1 y.1 (x.2 ∙ sym y.2))
          | false ↦ λ second. let none = ltb-false 0 (how_many number n ys) second in omega (arith, all, none, one)
        ] refl
        | false ↦ λ first. let none = ltb-false 0 (how_many number n xs) first in omega (arith, all, none, two)
      ] refl

-- The puts with notification that are live on either of two sets.

module _ (one : List Live) where
  abbrev number : Live → ℕ
  number = λ l. l.number

  abbrev new : Live → Bool
  new = λ l. not (is_live l.number one)

  not-not : {b : Bool} → b ≡ true → not b ≡ true → ⊥
  not-not is isnt = cc

  together-once : (n : ℕ) (other : List Live) → how_many number n one ≤ 1 → how_many number n other ≤ 1 → how_many number n (together one other) ≤ 1
  together-once n other first second = append-once number n one (filter new other) apart first fewer
    where
      apart : (x y : Live) → Contains one x → Contains (filter new other) y → x.number ≢ y.number
      apart x y c d same = not-not (entry-live one x c) (ap (λ (q : ℕ). not (is_live q one)) same ∙ (passes-there new other y d).1)

      least : (ys : List Live) → how_many number n (filter new ys) ≤ how_many number n ys
      least [] = omega arith
      least (y ∷ ys) =
          let rest = least ys in
          let tail = counted-tail number n y ys in
          elim (new y) as (λ b. how_many number n (cond b (y ∷ filter new ys) (filter new ys)) ≤ how_many number n (y ∷ ys)) [
            | true ↦ elim (eqb y.number n) as (λ b. cond b (1 + how_many number n (filter new ys)) (how_many number n (filter new ys)) ≤ cond b (1 + how_many number n ys) (how_many number n ys)) [
              | true ↦ omega (arith, rest)
              | false ↦ rest
            ]
            | false ↦ omega (arith, rest, tail)
          ]

      fewer : how_many number n (filter new other) ≤ 1
      fewer = let all = least other in omega (arith, all, second)

module _ {R : Type 0} (D : Type 0) (k : RecordRules R) where
  module _ (m : World R) (before other : SetState R D) (sound : IsSound-world k m) (one : IsSound k before) (two : IsSound k other) (holds : Holds k m (now_of before)) (others : Holds k m (now_of other))
      (disjoint : (q : ℕ) → IsSome (get before.records q) → get other.records q ≡ None) where
    waits-in-all : (v : World R) → Holds k m v → (x : Waiting) → Contains v.waiting x → Contains m.waiting x
    waits-in-all v h x c = waits-too v.waiting m.waiting x (sym (h.waiting x.target (h.within x c))) c

    waits-apart : (x y : Waiting) → Contains before.waiting x → Contains other.waiting y → x.number ≢ y.number
    waits-apart x y c d same =
        let is : x ≡ y = once-same (λ (w : Waiting). w.number) m.waiting x y (waits-in-all (now_of before) holds x c) (waits-in-all (now_of other) others y d) same (sound.counted.counted.waits_once x.number) in
        not-there (get other.records x.target) (disjoint x.target (holds.within x c)) (subst (λ (w : Waiting). IsSome (get other.records w.target)) (sym is) (others.within y d))

    -- A request that waits in one of the sets is part of a put with notification that is live among
    -- all records.
    waits-live : (v : World R) → Holds k m v → (x : Waiting) → Contains v.waiting x → Contains (numbers m.live) x.number
    waits-live v h x c = number-there x.number m.live (is-held-live k m sound.counted x.number (has-waiting k m sound.counted x (waits-in-all v h x c)))

    -- A put with notification that is live on one of the sets is live among all records.
    lives-in-all : (v : World R) → Holds k m v → IsCounted k v → (l : Live) → Contains v.live l → Contains (numbers m.live) l.number
    lives-in-all v h counted l c = number-there l.number m.live (held-live k m v h sound.counted counted l.number (entry-live v.live l c))

    live-fits : length (together before.live other.live) ≤ 256
    live-fits =
        let all = few-of (λ (l : Live). l.number) (numbers m.live) (together before.live other.live)
        (λ n. together-once before.live n other.live (live-once k (now_of before) one.counted n) (live-once k (now_of other) two.counted n))
        (λ l c. ⊎_elim
        (λ here. lives-in-all (now_of before) holds one.counted l here)
        (λ there. lives-in-all (now_of other) others two.counted l (passes-there (λ (x : Live). not (is_live x.number before.live)) other.live l there).0)
        (Contains-append_cases before.live (filter (λ (x : Live). not (is_live x.number before.live)) other.live) l c)) in
        let same = length-map m.live (λ (l : Live). l.number) in
        let few = sound.few in
        omega (arith, all, same, few)

    waiting-fits : length before.waiting + length other.waiting ≤ 256
    waiting-fits =
        let all = few-of (λ (x : Waiting). x.number) (numbers m.live) (before.waiting ++ other.waiting)
        (λ n. append-once (λ (x : Waiting). x.number) n before.waiting other.waiting waits-apart (one.counted.counted.waits_once n) (two.counted.counted.waits_once n))
        (λ x c. ⊎_elim (λ here. waits-live (now_of before) holds x here) (λ there. waits-live (now_of other) others x there) (Contains-append_cases before.waiting other.waiting x c)) in
        let same = length-map m.live (λ (l : Live). l.number) in
        let both = length-append before.waiting other.waiting in
        let few = sound.few in
        omega (arith, all, same, both, few)

    may-be-one : MayBeOne before other
    may-be-one = record {
      own = λ x c. holds.within x c;
      others_own = λ x c. others.within x c;
      apart = waits-apart;
      live_fits = live-fits;
      waiting_fits = waiting-fits;
    }

  pub sets-may-be-one : SetsMayBeOne D k
  sets-may-be-one m before other sound one two holds others disjoint = may-be-one m before other sound one two holds others disjoint
