-- If a put with notification has as many records in some held sets as among all, no other record is
-- part of it.
use Rattle.std.proofs.Common.{◌≡◌, ◌⊎◌, ℕ, zero, suc, ◌+◌, ◌≤◌, true, false, nat_lt, List, [], ◌∷◌, Option, refl, sym, ap, ap₂, subst, ◌∙◌, inl, inr, arith}
use Rattle.std.specs.Prelude.{is_some, Contains}
use Rattle.std.specs.List.{AllPairs}
use Rattle.std.specs.FinMap.{get, contains_key}
use Rattle.std.proofs.lemmas.Bool.{ltb-true, ltb-false}
use Rattle.std.proofs.lemmas.List.Sums.{sum_by-cons}
use Rattle.ioc_notify.specs.Living.{holders_of}
use Rattle.ioc_record.specs.RecordRules.{RecordRules}
use Rattle.ioc_store.specs.World.{World, Has}
use Rattle.ioc_store.specs.Weights.{weight_of}
use Rattle.ioc_events.specs.Holding.{one_if_has, holders, IsCounted}
use Rattle.ioc_journal.specs.Covering.{Holds, WaitsWithin}
use Rattle.ioc_journal.proofs.Basics.{not_both, is-none, later, nobody-waits}
use Rattle.ioc_set.specs.SetState.{SetState, now_of}
use Rattle.ioc_journaled_set.specs.GiveUpLaws.{ShareNone, holders_in_all}
use Rattle.ioc_journal.proofs.Summing.{sum-below, sum-add, sum-none, sum-less, point, of-number, reach, holders-sum}

module _ {R D : Type 0} where
  -- One of the sets has the record, or none has.
  pub some-or-none : (q : ℕ) (hs : List (SetState R D)) → ((h : SetState R D) × Contains hs h × Has (now_of h) q) ⊎ ((h : SetState R D) → Contains hs h → Has (now_of h) q → ⊥)
  some-or-none q [] = inr (λ h c there. absurd (let lt = c.1 in omega (arith, lt)))
  some-or-none q (h ∷ hs) = elim (contains_key h.records q) as (λ b. contains_key h.records q ≡ b → ((g : SetState R D) × Contains (h ∷ hs) g × Has (now_of g) q) ⊎ ((g : SetState R D) → Contains (h ∷ hs) g → Has (now_of g) q → ⊥)) [
    | true ↦ λ there. inl (h, (0, omega arith, refl), there)
    | false ↦ λ isnt. elim (some-or-none q hs) [
      | inl some ↦ inl (some.0, later h hs some.0 some.1, some.2)
      | inr none ↦ inr (λ g c. or-later h hs g (λ e there. not_both (subst (λ (x : SetState R D). Has (now_of x) q) (sym e) there) isnt) (none g) c)
    ]
  ] refl
    where
      or-later : {P : Type 0} (h : SetState R D) (hs : List (SetState R D)) (g : SetState R D) → (h ≡ g → P) → (Contains hs g → P) → Contains (h ∷ hs) g → P
      or-later h hs g here there (zero, lt, is) = here is
      or-later h hs g here there (suc i, lt, is) = there (i, omega (arith, lt), is)

  -- The first set has no common record with those after it, and no two of these have one.
  pub shares-first : (h : SetState R D) (hs : List (SetState R D)) → AllPairs ShareNone (h ∷ hs) → (g : SetState R D) → Contains hs g → ShareNone h g
  shares-first h hs pairs g (j, lt, is) = subst (ShareNone h) is (pairs 0 (suc j) g (omega arith) (omega (arith, lt)))

  pub shares-rest : (h : SetState R D) (hs : List (SetState R D)) → AllPairs ShareNone (h ∷ hs) → AllPairs ShareNone hs
  shares-rest h hs pairs i j d before within = pairs (suc i) (suc j) d (omega (arith, before)) (omega (arith, within))

  module _ (k : RecordRules R) (number : ℕ) where
    abbrev all-points : List (SetState R D) → ℕ → ℕ
    all-points [] q = 0
    all-points (h ∷ hs) q = point k number (now_of h) q + all-points hs q

    abbrev all-holders : List (SetState R D) → ℕ
    all-holders [] = 0
    all-holders (h ∷ hs) = holders k (now_of h) number + all-holders hs

    abbrev all-reach : List (SetState R D) → ℕ
    all-reach [] = 0
    all-reach (h ∷ hs) = reach k number (now_of h) + all-reach hs

    all-sum : (hs : List (SetState R D)) (n : ℕ) → all-reach hs ≤ n → all-holders hs ≡ sum-below (all-points hs) n
    all-sum [] n within = sym (sum-none (λ q. 0) n (λ q. refl))
    all-sum (h ∷ hs) n within =
        ap₂ (λ (a b : ℕ). a + b) (holders-sum k number (now_of h) n (omega (arith, within))) (all-sum hs n (omega (arith, within)))
        ∙ sym (sum-add (point k number (now_of h)) (all-points hs) n)

    all-counted : (hs : List (SetState R D)) → ((h : SetState R D) → Contains hs h → IsCounted k (now_of h)) → holders_in_all number hs ≡ all-holders hs
    all-counted [] counted = refl
    all-counted (h ∷ hs) counted =
        let here = (counted h (0, omega arith, refl)).counted.counted number in
        let rest = all-counted hs (λ g c. counted g (later h hs g c)) in
        let sum = sum_by-cons (λ (x : SetState R D). holders_of number x.live) h hs in
        omega (arith, here, rest, sum)

    -- The count of a put with notification in a set is zero at every record outside it.
    none-outside : (h : SetState R D) (q : ℕ) → WaitsWithin (now_of h) → (Has (now_of h) q → ⊥) → point k number (now_of h) q ≡ 0
    none-outside h q within out =
        let record_ : weight_of (one_if_has k number) (get h.records q) ≡ 0 = ap (weight_of (one_if_has k number)) (is-none (get h.records q) out) in
        let waits = ap (of-number number) (nobody-waits h.waiting q (λ x c e. out (subst (λ (n : ℕ). Has (now_of h) n) e (within x c)))) in
        omega (arith, record_, waits)

    points-none : (q : ℕ) (hs : List (SetState R D)) → ((h : SetState R D) → Contains hs h → WaitsWithin (now_of h)) → ((h : SetState R D) → Contains hs h → Has (now_of h) q → ⊥) → all-points hs q ≡ 0
    points-none q [] within out = refl
    points-none q (h ∷ hs) within out =
        let here = none-outside h q (within h (0, omega arith, refl)) (out h (0, omega arith, refl)) in
        let rest = points-none q hs (λ g c. within g (later h hs g c)) (λ g c. out g (later h hs g c)) in
        omega (arith, here, rest)

    module _ (m : World R) where
      same-point : (h : SetState R D) (q : ℕ) → Holds k m (now_of h) → Has (now_of h) q → point k number m q ≡ point k number (now_of h) q
      same-point h q holds there =
          let here = ap (weight_of (one_if_has k number)) (holds.records q there) in
          let waits = ap (of-number number) (holds.waiting q there) in
          omega (arith, here, waits)

      points-least : (q : ℕ) (hs : List (SetState R D)) → ((h : SetState R D) → Contains hs h → Holds k m (now_of h)) → AllPairs ShareNone hs → all-points hs q ≤ point k number m q
      points-least q [] held pairs = omega arith
      points-least q (h ∷ hs) held pairs =
          let first = held h (0, omega arith, refl) in
          let within : (g : SetState R D) → Contains hs g → WaitsWithin (now_of g) = λ g c. (held g (later h hs g c)).within in
          elim (contains_key h.records q) as (λ b. contains_key h.records q ≡ b → all-points (h ∷ hs) q ≤ point k number m q) [
            | true ↦ λ there.
                let here = same-point h q first there in
                let others = points-none q hs within (λ g c has. absurd (not_both has (ap (λ (o : Option R). is_some o) (shares-first h hs pairs g c q there)))) in
                omega (arith, here, others)
            | false ↦ λ isnt.
                let here = none-outside h q first.within (λ there. not_both there isnt) in
                let rest = points-least q hs (λ g c. held g (later h hs g c)) (shares-rest h hs pairs) in
                omega (arith, here, rest)
          ] refl

      -- If the count in the sets is the count among all, no record outside the sets is part of the
      -- put with notification.
      pub nobody-outside : (hs : List (SetState R D)) → ((h : SetState R D) → Contains hs h → Holds k m (now_of h)) → ((h : SetState R D) → Contains hs h → IsCounted k (now_of h)) → AllPairs ShareNone hs
          → holders_in_all number hs ≡ holders k m number → (r : ℕ) → ((h : SetState R D) → Contains hs h → Has (now_of h) r → ⊥) → point k number m r ≡ 0
      nobody-outside hs held counted pairs all r out =
          elim (nat_lt 0 (point k number m r)) as (λ b. nat_lt 0 (point k number m r) ≡ b → point k number m r ≡ 0) [
            | true ↦ λ some.
                let n = (reach k number m + all-reach hs) + (r + 1) in
                let none = points-none r hs (λ h c. (held h c).within) out in
                let more = ltb-true 0 (point k number m r) some in
                let less = sum-less (all-points hs) (point k number m) r n (omega arith) (λ q. points-least q hs held pairs) (omega (arith, none, more)) in
                let own = all-sum hs n (omega arith) in
                let whole = holders-sum k number m n (omega arith) in
                let each = all-counted hs counted in
                absurd (omega (arith, less, own, whole, each, all))
            | false ↦ λ isnt. let few = ltb-false 0 (point k number m r) isnt in omega (arith, few)
          ] refl
