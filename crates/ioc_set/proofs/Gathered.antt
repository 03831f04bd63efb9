-- The puts with notification that stay with some records, or that come from two sets.
use Rattle.std.proofs.Common.{◌≡◌, ℕ, zero, suc, ◌+◌, ◌^◌, ◌<◌, ◌≤◌, Bool, true, false, cond, not, ◌||◌, eqb, List, [], ◌∷◌, ◌++◌, length, Option, Some, None, refl, sym, ap, subst, ◌∙◌, arith, length-append}
use Rattle.std.specs.List.{filter}
use Rattle.std.specs.FinMap.{entries, contains_key, len}
use Rattle.std.proofs.lemmas.Bool.{eqb-true}
use Rattle.ioc_notify.specs.declared.live_numbers.Live.{Live}
use Rattle.ioc_notify.specs.declared.waiting_lists.Waiting.{Waiting}
use Rattle.ioc_notify.specs.Living.{is_live, begun}
use Rattle.ioc_record.specs.RecordRules.{RecordRules}
use Rattle.ioc_set_records.specs.Contents.{Records}
use Rattle.ioc_store.specs.declared.notifications.Notifications.{Notifications}
use Rattle.ioc_events.specs.Holding.{how_many, HoldersCounted}
use Rattle.ioc_set.specs.Resting.{resting}
use Rattle.ioc_set.specs.Puts.{Puts, puts_of, live_of, waiting_of, AreNone}
use Rattle.ioc_set.specs.Recounting.{begun_each, own_waiting, together, AreLive}
use Rattle.ioc_events.proofs.Counting.{lives, how_many-append}
pub use Rattle.ioc_events.proofs.RecordLists.{passes-there, there-passes}
use Rattle.ioc_set.proofs.Counted.{recounted, gained-none, none-begun, each-begun, live-some, some-live, begun-keeps, begun-has, begun-only}
use Rattle.ioc_set.proofs.Fewer.{fewer}

pub fewer_pass : {X : Type 0} (f : X → ℕ) (p : X → Bool) (n : ℕ) (xs : List X) → how_many f n (filter p xs) ≤ how_many f n xs
fewer_pass f p n [] = omega arith
fewer_pass f p n (x ∷ xs) =
    let rest = fewer_pass f p n xs in
    elim (p x) as (λ b. how_many f n (cond b (x ∷ filter p xs) (filter p xs)) ≤ cond (eqb (f x) n) (1 + how_many f n xs) (how_many f n xs)) [
      | true ↦ elim (eqb (f x) n) as (λ c. cond c (1 + how_many f n (filter p xs)) (how_many f n (filter p xs)) ≤ cond c (1 + how_many f n xs) (how_many f n xs)) [
        | true ↦ omega (arith, rest)
        | false ↦ rest
      ]
      | false ↦ elim (eqb (f x) n) as (λ c. how_many f n (filter p xs) ≤ cond c (1 + how_many f n xs) (how_many f n xs)) [
        | true ↦ omega (arith, rest)
        | false ↦ rest
      ]
    ]

-- Lemmas about what a set has.

pub kept-live : (kept : Option Notifications) (bl : List Live) (bw : List Waiting) (p : Puts) (n : Notifications) → puts_of kept bl bw ≡ p → kept ≡ Some n → n.live.live ≡ p.live
kept-live kept bl bw p n view is = sym (ap (λ (o : Option Notifications). live_of o) is) ∙ ap (λ (x : Puts). x.live) view

pub kept-waiting : (kept : Option Notifications) (bl : List Live) (bw : List Waiting) (p : Puts) (n : Notifications) → puts_of kept bl bw ≡ p → kept ≡ Some n → n.waiting.waiting ≡ p.waiting
kept-waiting kept bl bw p n view is = sym (ap (λ (o : Option Notifications). waiting_of o) is) ∙ ap (λ (x : Puts). x.waiting) view

pub kept-none : (kept : Option Notifications) (bl : List Live) (bw : List Waiting) (p : Puts) → puts_of kept bl bw ≡ p → kept ≡ None → AreNone p
kept-none kept bl bw p view is = (
  sym (ap (λ (x : Puts). x.live) view) ∙ ap (λ (o : Option Notifications). live_of o) is,
  sym (ap (λ (x : Puts). x.waiting) view) ∙ ap (λ (o : Option Notifications). waiting_of o) is,
)

-- Lemmas about those that begin.

pub begun-length : (xs ls : List Live) → length (begun_each xs ls) ≤ length xs + length ls
begun-length [] ls = omega arith
begun-length (x ∷ xs) ls = elim (is_live x.number ls) as (λ b. length (begun_each xs (cond b ls (begun x.number ls))) ≤ suc (length xs) + length ls) [
  | true ↦ omega (arith, begun-length xs ls)
  | false ↦ let more = length-append ls (record { number = x.number; holders = 1 } ∷ []) in omega (arith, begun-length xs (begun x.number ls), more)
]

-- If none is live, no record is part of one.
module _ {R : Type 0} (k : RecordRules R) where
  pub nobody-counted : (rs : Records R) (waiting : List Waiting) (live : List Live) → AreLive k rs waiting live → live ≡ [] → waiting ≡ [] → len rs < 2 ^ 63
      → (ls : List Live) (ws : List Waiting) → ls ≡ [] → ws ≡ [] → HoldersCounted k (resting rs ls ws)
  nobody-counted rs waiting live are none none_waits few ls ws is is_waiting =
      let now : AreLive k rs [] [] = subst (λ (x : List Waiting). AreLive k rs x []) none_waits (subst (λ (x : List Live). AreLive k rs waiting x) none are) in
      let counted = recounted k rs [] [] [] none-begun now (λ n. omega arith) few (sym (gained-none k (entries rs))) in
      subst (λ (x : List Live). HoldersCounted k (resting rs x ws)) (sym is) (subst (λ (x : List Waiting). HoldersCounted k (resting rs [] x)) (sym is_waiting) counted)

  -- Each live one that these records are part of, or that waits for them, has begun.
  pub own-live : (rs : Records R) (waiting : List Waiting) (live : List Live) → AreLive k rs waiting live → AreLive k rs (own_waiting rs waiting) (begun_each live [])
  own-live rs waiting live are =
      let begins : (n : ℕ) → is_live n live ≡ true → is_live n (begun_each live []) ≡ true = λ n is. some-live n (begun_each live []) (begun-has n live [] (live-some n live is)) in
      record {
        has = λ s n there is. begins n (are.has s n there is);
        waits = λ x c. begins x.number (are.waits x (passes-there (λ (y : Waiting). contains_key rs y.target) waiting x c).0);
      }

-- Lemmas about two sets together.

any-append : (n : ℕ) (xs ys : List Live) → is_live n (xs ++ ys) ≡ (is_live n xs || is_live n ys)
any-append n [] ys = refl
any-append n (x ∷ xs) ys = elim (eqb x.number n) as (λ b. b || is_live n (xs ++ ys) ≡ ((b || is_live n xs) || is_live n ys)) [
  | true ↦ refl
  | false ↦ any-append n xs ys
]

-- The count of the live ones of `other` that aren't in `one`.
here-count : (n : ℕ) (y : Live) (left rest : List Live) (b : Bool) (a : ℕ) → eqb y.number n ≡ true → is_live y.number left ≡ b → lives n rest ≡ cond b 0 a
    → lives n (cond (not (is_live y.number left)) (y ∷ rest) rest) ≡ cond b 0 (1 + a)
here-count n y left rest true a e is count = ap (λ (x : Bool). lives n (cond (not x) (y ∷ rest) rest)) is ∙ count
here-count n y left rest false a e is count =
    ap (λ (x : Bool). lives n (cond (not x) (y ∷ rest) rest)) is ∙ ap (λ (x : Bool). cond x (1 + lives n rest) (lives n rest)) e ∙ ap (λ (x : ℕ). 1 + x) count

there-count : (n : ℕ) (y : Live) (rest : List Live) (d : Bool) → eqb y.number n ≡ false → lives n (cond d (y ∷ rest) rest) ≡ lives n rest
there-count n y rest true e = ap (λ (x : Bool). cond x (1 + lives n rest) (lives n rest)) e
there-count n y rest false e = refl

others-count : (n : ℕ) (one ys : List Live) (b : Bool) → is_live n one ≡ b → lives n (filter (λ l. not (is_live l.number one)) ys) ≡ cond b 0 (lives n ys)
others-count n one [] true is = refl
others-count n one [] false is = refl
others-count n one (y ∷ ys) b is =
    let others = filter (λ (l : Live). not (is_live l.number one)) ys in
    let rest = others-count n one ys b is in
    elim (eqb y.number n) as (λ c. eqb y.number n ≡ c → lives n (cond (not (is_live y.number one)) (y ∷ others) others) ≡ cond b 0 (cond c (1 + lives n ys) (lives n ys))) [
      | true ↦ λ e. here-count n y one others b (lives n ys) e (ap (λ (q : ℕ). is_live q one) (eqb-true y.number n e) ∙ is) rest
      | false ↦ λ e. there-count n y others (not (is_live y.number one)) e ∙ rest
    ] refl

-- The number of times that one is live on either set.
pub together-count : (n : ℕ) (one other : List Live) (b : Bool) → is_live n one ≡ b → lives n (together one other) ≡ lives n one + cond b 0 (lives n other)
together-count n one other b is =
    how_many-append (λ (l : Live). l.number) n one (filter (λ (l : Live). not (is_live l.number one)) other) ∙ ap (λ (x : ℕ). lives n one + x) (others-count n one other b is)

pub dead : (n : ℕ) (ls : List Live) → is_live n ls ≡ false → lives n ls ≡ 0
dead n [] is = refl
dead n (l ∷ ls) is = elim (eqb l.number n) as (λ b. b || is_live n ls ≡ false → cond b (1 + lives n ls) (lives n ls) ≡ 0) [
  | true ↦ λ no. absurd (let z : true ≡ false = no in cc)
  | false ↦ λ rest. dead n ls rest
] is

-- One that is live together is live on one of the sets.
together-either : (n : ℕ) (one other : List Live) → 1 ≤ lives n (together one other) → (b : Bool) → is_live n one ≡ b → (c : ℕ) → lives n other ≡ c → 1 ≤ lives n one + c
together-either n one other some true is c count = omega (arith, live-some n one is)
together-either n one other some false is c count = omega (arith, some, together-count n one other false is, count)

-- One that is live together has begun from the two sets.
pub both-begun : (n : ℕ) (one other : List Live) → is_live n (together one other) ≡ true → is_live n (begun_each other (begun_each one [])) ≡ true
both-begun n one other is =
    some-live n (begun_each other (begun_each one []))
    (either (lives n one) (lives n other) (together-either n one other (live-some n (together one other) is) (is_live n one) refl (lives n other) refl)
    (λ some. let first = begun-has n one [] some in omega (arith, first, begun-keeps n other (begun_each one [])))
    (λ some. begun-has n other (begun_each one []) some))
  where
    either : {P : Type 0} (a b : ℕ) → 1 ≤ a + b → (1 ≤ a → P) → (1 ≤ b → P) → P
    either zero b some left right = right (omega (arith, some))
    either (suc a) b some left right = left (omega arith)

-- No more begin than are live on either set.
few-begun : (n : ℕ) (one other : List Live) (b : Bool) → is_live n one ≡ b → (c : Bool) → is_live n other ≡ c → lives n (begun_each other (begun_each one [])) ≤ lives n (together one other)
few-begun n one other true is c is_other = omega (arith, live-some n one is, together-count n one other true is, (each-begun other (begun_each one []) (each-begun one [] none-begun) n).0)
few-begun n one other false is true is_other = omega (arith, live-some n other is_other, together-count n one other false is, (each-begun other (begun_each one []) (each-begun one [] none-begun) n).0)
few-begun n one other false is false is_other = omega (arith, begun-only n other (begun_each one []) (dead n other is_other) (begun-only n one [] (dead n one is) refl))

pub both-length : (one other : List Live) → length (begun_each other (begun_each one [])) ≤ length (together one other)
both-length one other = fewer (λ (l : Live). l.number) (λ (l : Live). l.number) (begun_each other (begun_each one [])) (together one other) (λ n. few-begun n one other (is_live n one) refl (is_live n other) refl)

first-few : (n : ℕ) (one other : List Live) (b : Bool) → is_live n one ≡ b → lives n (begun_each one []) ≤ lives n (together one other)
first-few n one other true is = omega (arith, live-some n one is, together-count n one other true is, (each-begun one [] none-begun n).0)
first-few n one other false is = omega (arith, begun-only n one [] (dead n one is) refl)

pub first-length : (one other : List Live) → length (begun_each one []) ≤ length (together one other)
first-length one other = fewer (λ (l : Live). l.number) (λ (l : Live). l.number) (begun_each one []) (together one other) (λ n. first-few n one other (is_live n one) refl)

module _ {R : Type 0} (k : RecordRules R) where
  pub both-live : (rs : Records R) (waiting : List Waiting) (one other : List Live) → AreLive k rs waiting (together one other) → AreLive k rs waiting (begun_each other (begun_each one []))
  both-live rs waiting one other are = record {
    has = λ s n there is. both-begun n one other (are.has s n there is);
    waits = λ x c. both-begun x.number one other (are.waits x c);
  }
