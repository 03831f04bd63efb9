-- The count of a put with notification as a sum over the records.
use Rattle.std.proofs.Common.{◌≡◌, ℕ, ◌+◌, ◌≤◌, Bool, true, false, cond, eqb, nat_eq, List, [], ◌∷◌, refl, sym, ap, ◌∙◌, arith}
use Rattle.std.specs.FinMap.{get, entries}
use Rattle.std.proofs.lemmas.Bool.{eqb-true, eq-eqb}
use Rattle.ioc_notify.specs.declared.waiting_lists.Waiting.{Waiting}
use Rattle.ioc_notify.specs.Waits.{at_record}
use Rattle.ioc_record.specs.RecordRules.{RecordRules}
use Rattle.ioc_store.specs.World.{World}
use Rattle.ioc_store.specs.Weights.{weight_of}
use Rattle.ioc_events.specs.Holding.{how_many, one_if_has, holders}
use Rattle.ioc_events.proofs.Sums.{sum-same, sum-least, sum-one, top, map-sum}
pub use Rattle.ioc_events.proofs.Sums.{sum-below, sum-add, sum-none, sum-less}

-- The waiting lists.

-- A number greater than those of all records that something waits for.
abbrev far : List Waiting → ℕ
far [] = 0
far (x ∷ xs) = x.target + 1 + far xs

abbrev pub of-number : ℕ → List Waiting → ℕ
of-number number xs = how_many (λ (x : Waiting). x.number) number xs

listed-one : (number : ℕ) (b : Bool) (x : Waiting) (xs : List Waiting) → of-number number (cond b (x ∷ xs) xs) ≡ cond b (cond (eqb x.number number) 1 0) 0 + of-number number xs
listed-one number true x xs = elim (eqb x.number number) as (λ b. cond b (1 + of-number number xs) (of-number number xs) ≡ cond b 1 0 + of-number number xs) [
  | true ↦ refl
  | false ↦ omega arith
]
listed-one number false x xs = omega arith

waiting-sum : (number : ℕ) (xs : List Waiting) (n : ℕ) → far xs ≤ n → of-number number xs ≡ sum-below (λ q. of-number number (at_record q xs)) n
waiting-sum number [] n reach = sym (sum-none (λ q. 0) n (λ q. refl))
waiting-sum number (x ∷ xs) n reach =
    let rest = waiting-sum number xs n (omega arith) in
    let here : ℕ = cond (eqb x.number number) 1 0 in
    let each = sum-same (λ q. of-number number (at_record q (x ∷ xs))) (λ q. cond (nat_eq x.target q) here 0 + of-number number (at_record q xs)) n
    (λ q. listed-one number (nat_eq x.target q) x (at_record q xs)) in
    let parts = sum-add (λ q. cond (nat_eq x.target q) here 0) (λ q. of-number number (at_record q xs)) n in
    let one = sum-one (λ q. nat_eq x.target q) x.target here (λ q is. sym (eqb-true x.target q is)) (eq-eqb x.target x.target refl) n (omega arith) in
    let counted = listed-one number true x xs in
    omega (arith, each, parts, one, rest, counted)

-- The records and the waiting lists together.

module _ {R : Type 0} (k : RecordRules R) (number : ℕ) where
  -- The count of the put with notification at one record.
  abbrev pub point : World R → ℕ → ℕ
  point w q = weight_of (one_if_has k number) (get w.records q) + of-number number (at_record q w.waiting)

  pub same-point : (q : ℕ) (w v : World R) → get w.records q ≡ get v.records q → at_record q w.waiting ≡ at_record q v.waiting → point w q ≡ point v q
  same-point q w v records waits =
      let here = ap (weight_of (one_if_has k number)) records in
      let rest = ap (of-number number) waits in
      omega (arith, here, rest)

  abbrev pub reach : World R → ℕ
  reach w = top (entries w.records) + far w.waiting

  pub holders-sum : (w : World R) (n : ℕ) → reach w ≤ n → holders k w number ≡ sum-below (point w) n
  unfolding holders
  holders-sum w n within =
      let records = map-sum (one_if_has k number) w.records n (omega arith) in
      let waits = waiting-sum number w.waiting n (omega arith) in
      let parts = sum-add (λ q. weight_of (one_if_has k number) (get w.records q)) (λ q. of-number number (at_record q w.waiting)) n in
      omega (arith, records, waits, parts)

  -- The count is the same in two worlds if it is the same at each record.
  pub holders-alike : (w v : World R) → ((q : ℕ) → point w q ≡ point v q) → holders k w number ≡ holders k v number
  holders-alike w v same =
      let n = reach w + reach v in
      holders-sum w n (omega arith) ∙ sum-same (point w) (point v) n same ∙ sym (holders-sum v n (omega arith))

  pub holders-least : (w v : World R) → ((q : ℕ) → point w q ≤ point v q) → holders k w number ≤ holders k v number
  holders-least w v least =
      let n = reach w + reach v in
      let one = holders-sum w n (omega arith) in
      let other = holders-sum v n (omega arith) in
      let all = sum-least (point w) (point v) n least in
      omega (arith, one, other, all)

  -- The count changes by as much as the counts at the records.
  pub holders-moved : (a b c d : World R) → ((q : ℕ) → point a q + point b q ≡ point c q + point d q) → holders k a number + holders k b number ≡ holders k c number + holders k d number
  holders-moved a b c d same =
      let n = (reach a + reach b) + (reach c + reach d) in
      let sa = holders-sum a n (omega arith) in
      let sb = holders-sum b n (omega arith) in
      let sc = holders-sum c n (omega arith) in
      let sd = holders-sum d n (omega arith) in
      let first_two = sum-add (point a) (point b) n in
      let last_two = sum-add (point c) (point d) n in
      let all = sum-same (λ q. point a q + point b q) (λ q. point c q + point d q) n same in
      omega (arith, sa, sb, sc, sd, first_two, last_two, all)
