-- Lists of live puts with notification, and the counts of their parts, as these change.
use Rattle.std.proofs.Common.{◌≡◌, ◌≢◌, ℕ, zero, suc, ◌+◌, ◌-◌, ◌^◌, ◌≤◌, Bool, true, false, not, cond, ◌||◌, eqb, nat_eq, nat_lt, List, [], ◌∷◌, ◌++◌, refl, sym, ap, subst, ◌∙◌, arith}
use Rattle.std.specs.Prelude.{◌&&◌}
use Rattle.std.specs.List.{list_any}
use Rattle.std.proofs.lemmas.Bool.{eqb-true, eqb-false, eq-eqb, ne_eqb, ltb-false, lt-ltb}
use Rattle.ioc_notify.specs.declared.live_numbers.Live.{Live}
use Rattle.ioc_notify.specs.Living.{at_number, one_more, one_less, begun, gained, lost, forgotten, holders_of, is_at_its_last, is_live}
use Rattle.ioc_events.specs.Holding.{how_many}

-- The number of live ones with this number.
abbrev pub lives : ℕ → List Live → ℕ
lives = how_many (λ l. l.number)

-- One if it holds, and zero otherwise.
abbrev pub one_if : Bool → ℕ
one_if b = cond b 1 0

pub how_many-append : {A : Type 0} (number : A → ℕ) (n : ℕ) (xs ys : List A) → how_many number n (xs ++ ys) ≡ how_many number n xs + how_many number n ys
how_many-append number n [] ys = omega arith
how_many-append number n (x ∷ xs) ys =
    let rest = how_many-append number n xs ys in
    elim (eqb (number x) n) as (λ b. cond b (1 + how_many number n (xs ++ ys)) (how_many number n (xs ++ ys)) ≡ cond b (1 + how_many number n xs) (how_many number n xs) + how_many number n ys) [
      | true ↦ omega (arith, rest)
      | false ↦ rest
    ]

-- Lemmas about another number.

module _ (m n : ℕ) (apart : m ≢ n) (others : Live → List Live) (alone : (l : Live) → l.number ≡ m → (rest : List Live) → (lives n (others l ++ rest) ≡ lives n rest) × (holders_of n (others l ++ rest) ≡ holders_of n rest)) where
  at-lives : (ls : List Live) → lives n (at_number m others ls) ≡ lives n ls
  at-lives [] = refl
  at-lives (l ∷ ls) = elim (eqb l.number m) as (λ b. eqb l.number m ≡ b → lives n (cond b (others l ++ ls) (l ∷ at_number m others ls)) ≡ cond (eqb l.number n) (1 + lives n ls) (lives n ls)) [
    | true ↦ λ e.
        let is = eqb-true l.number m e in
        let other : eqb l.number n ≡ false = ne_eqb l.number n (λ q. apart (sym is ∙ q)) in
        rw other ((alone l is ls).0)
    | false ↦ λ e. ap (λ (x : ℕ). cond (eqb l.number n) (1 + x) x) (at-lives ls)
  ] refl

  at-holders : (ls : List Live) → holders_of n (at_number m others ls) ≡ holders_of n ls
  at-holders [] = refl
  at-holders (l ∷ ls) = elim (eqb l.number m) as (λ b. eqb l.number m ≡ b → holders_of n (cond b (others l ++ ls) (l ∷ at_number m others ls)) ≡ cond (eqb l.number n) l.holders (holders_of n ls)) [
    | true ↦ λ e.
        let is = eqb-true l.number m e in
        let other : eqb l.number n ≡ false = ne_eqb l.number n (λ q. apart (sym is ∙ q)) in
        rw other ((alone l is ls).1)
    | false ↦ λ e. ap (λ (x : ℕ). cond (eqb l.number n) l.holders x) (at-holders ls)
  ] refl

module _ (m n : ℕ) (apart : m ≢ n) where
  other_number : (l : Live) → l.number ≡ m → eqb l.number n ≡ false
  other_number l is = ne_eqb l.number n (λ q. apart (sym is ∙ q))

  more-alone : (l : Live) → l.number ≡ m → (rest : List Live) → (lives n (one_more l ++ rest) ≡ lives n rest) × (holders_of n (one_more l ++ rest) ≡ holders_of n rest)
  more-alone l is rest = (rw (other_number l is) refl, rw (other_number l is) refl)

  less-alone : (l : Live) → l.number ≡ m → (rest : List Live) → (lives n (one_less l ++ rest) ≡ lives n rest) × (holders_of n (one_less l ++ rest) ≡ holders_of n rest)
  less-alone l is rest =
      elim (nat_lt 1 l.holders) as (λ b.
      (lives n (cond b ((record l { holders = l.holders - 1 }) ∷ []) [] ++ rest) ≡ lives n rest) × (holders_of n (cond b ((record l { holders = l.holders - 1 }) ∷ []) [] ++ rest) ≡ holders_of n rest)) [
        | true ↦ (rw (other_number l is) refl, rw (other_number l is) refl)
        | false ↦ (refl, refl)
      ]

  pub gained-other : (ls : List Live) → (lives n (gained m ls) ≡ lives n ls) × (holders_of n (gained m ls) ≡ holders_of n ls)
  gained-other ls = (at-lives m n apart one_more more-alone ls, at-holders m n apart one_more more-alone ls)

  pub lost-other : (ls : List Live) → (lives n (lost m ls) ≡ lives n ls) × (holders_of n (lost m ls) ≡ holders_of n ls)
  lost-other ls = (at-lives m n apart one_less less-alone ls, at-holders m n apart one_less less-alone ls)

  pub forgotten-other : (ls : List Live) → (lives n (forgotten m ls) ≡ lives n ls) × (holders_of n (forgotten m ls) ≡ holders_of n ls)
  forgotten-other ls = (at-lives m n apart (λ l. []) (λ l is rest. (refl, refl)) ls, at-holders m n apart (λ l. []) (λ l is rest. (refl, refl)) ls)

-- Lemmas about the number itself.

-- One that isn't live has no part.
pub none-holds : (n : ℕ) (ls : List Live) → lives n ls ≡ 0 → holders_of n ls ≡ 0
none-holds n [] none = refl
none-holds n (l ∷ ls) none = elim (eqb l.number n) as (λ b. cond b (1 + lives n ls) (lives n ls) ≡ 0 → cond b l.holders (holders_of n ls) ≡ 0) [
  | true ↦ λ some. absurd (omega arith)
  | false ↦ λ rest. none-holds n ls rest
] none

pub gained-lives : (m : ℕ) (ls : List Live) → lives m (gained m ls) ≡ lives m ls
gained-lives m [] = refl
gained-lives m (l ∷ ls) = elim (eqb l.number m) as (λ b. eqb l.number m ≡ b → lives m (cond b (one_more l ++ ls) (l ∷ gained m ls)) ≡ cond b (1 + lives m ls) (lives m ls)) [
  | true ↦ λ e. rw e refl
  | false ↦ λ e. rw e (gained-lives m ls)
] refl

pub gained-holders : (m : ℕ) (ls : List Live) → 1 ≤ lives m ls → holders_of m ls + 1 ≤ 2 ^ 64 - 1 → holders_of m (gained m ls) ≡ holders_of m ls + 1
gained-holders m [] some few = absurd (omega arith)
gained-holders m (l ∷ ls) some few =
    elim (eqb l.number m) as (λ b. eqb l.number m ≡ b → 1 ≤ cond b (1 + lives m ls) (lives m ls) → cond b l.holders (holders_of m ls) + 1 ≤ 2 ^ 64 - 1
    → holders_of m (cond b (one_more l ++ ls) (l ∷ gained m ls)) ≡ cond b l.holders (holders_of m ls) + 1) [
      | true ↦ λ e _ few'. rw e (omega arith)
      | false ↦ λ e some' few'. rw e (gained-holders m ls some' few')
    ] refl some few

-- After its last part has left, it is no longer live.
pub lost-lives : (m : ℕ) (ls : List Live) → lives m ls ≡ 1 → lives m (lost m ls) + one_if (is_at_its_last m ls) ≡ 1
lost-lives m [] one = absurd (omega arith)
lost-lives m (l ∷ ls) one =
    elim (eqb l.number m) as (λ b. eqb l.number m ≡ b → cond b (1 + lives m ls) (lives m ls) ≡ 1
    → lives m (cond b (one_less l ++ ls) (l ∷ lost m ls)) + one_if ((b || list_any (λ x. nat_eq x.number m) ls) && not (nat_lt 1 (cond b l.holders (holders_of m ls)))) ≡ 1) [
      | true ↦ λ e one'. elim (nat_lt 1 l.holders) as (λ b. lives m (cond b ((record l { holders = l.holders - 1 }) ∷ []) [] ++ ls) + one_if (not b) ≡ 1) [
        | true ↦ rw e (omega arith)
        | false ↦ omega arith
      ]
      | false ↦ λ e one'. rw e (lost-lives m ls one')
    ] refl one

pub lost-holders : (m : ℕ) (ls : List Live) → lives m ls ≡ 1 → 1 ≤ holders_of m ls → holders_of m (lost m ls) + 1 ≡ holders_of m ls
lost-holders m [] one some = absurd (omega arith)
lost-holders m (l ∷ ls) one some =
    elim (eqb l.number m) as (λ b. eqb l.number m ≡ b → cond b (1 + lives m ls) (lives m ls) ≡ 1 → 1 ≤ cond b l.holders (holders_of m ls)
    → holders_of m (cond b (one_less l ++ ls) (l ∷ lost m ls)) + 1 ≡ cond b l.holders (holders_of m ls)) [
      | true ↦ λ e one' some'.
          let rest = none-holds m ls (omega arith) in
          elim (nat_lt 1 l.holders) as (λ b. nat_lt 1 l.holders ≡ b → holders_of m (cond b ((record l { holders = l.holders - 1 }) ∷ []) [] ++ ls) + 1 ≡ l.holders) [
            | true ↦ λ q. rw e (omega arith)
            | false ↦ λ q. let last = ltb-false 1 l.holders q in omega arith
          ] refl
      | false ↦ λ e one' some'. rw e (lost-holders m ls one' some')
    ] refl one some

-- A live one is at its last part if and only if its count is at most one.
pub takes_completion : (m : ℕ) (ls : List Live) → 1 ≤ lives m ls → is_at_its_last m ls ≡ not (nat_lt 1 (holders_of m ls))
takes_completion m [] some = absurd (omega arith)
takes_completion m (l ∷ ls) some =
    elim (eqb l.number m) as (λ b. 1 ≤ cond b (1 + lives m ls) (lives m ls)
    → (b || list_any (λ x. nat_eq x.number m) ls) && not (nat_lt 1 (cond b l.holders (holders_of m ls))) ≡ not (nat_lt 1 (cond b l.holders (holders_of m ls)))) [
      | true ↦ λ _. refl
      | false ↦ λ rest. takes_completion m ls rest
    ] some

pub forgotten-lives : (m : ℕ) (ls : List Live) → lives m ls ≤ 1 → lives m (forgotten m ls) ≡ 0
forgotten-lives m [] few = refl
forgotten-lives m (l ∷ ls) few = elim (eqb l.number m) as (λ b. eqb l.number m ≡ b → cond b (1 + lives m ls) (lives m ls) ≤ 1 → lives m (cond b ls (l ∷ forgotten m ls)) ≡ 0) [
  | true ↦ λ e few'. omega arith
  | false ↦ λ e few'. rw e (forgotten-lives m ls few')
] refl few

-- Whether one is live is whether it is counted among the live ones.
pub live-lives : (m : ℕ) (ls : List Live) (b : Bool) → is_live m ls ≡ b → lives m ls ≤ 1 → lives m ls ≡ one_if b
live-lives m [] b is few = subst (λ (x : Bool). 0 ≡ one_if x) is refl
live-lives m (l ∷ ls) b is few = elim (eqb l.number m) as (λ c. c || is_live m ls ≡ b → cond c (1 + lives m ls) (lives m ls) ≤ 1 → cond c (1 + lives m ls) (lives m ls) ≡ one_if b) [
  | true ↦ λ is' few'. subst (λ (x : Bool). 1 + lives m ls ≡ one_if x) is' (omega arith)
  | false ↦ λ is' few'. live-lives m ls b is' few'
] is few

pub begun-lives : (m n : ℕ) (ls : List Live) → lives n (begun m ls) ≡ lives n ls + one_if (eqb m n)
begun-lives m n ls = how_many-append (λ l. l.number) n ls _

pub begun-holders : (m n : ℕ) (ls : List Live) → lives m ls ≡ 0 → holders_of n (begun m ls) ≡ holders_of n ls + one_if (eqb m n)
begun-holders m n [] none = elim (eqb m n) as (λ b. cond b 1 0 ≡ 0 + one_if b) [
  | true ↦ refl
  | false ↦ refl
]
begun-holders m n (l ∷ ls) none =
    let rest = begun-holders m n ls (elim (eqb l.number m) as (λ b. cond b (1 + lives m ls) (lives m ls) ≡ 0 → lives m ls ≡ 0) [
      | true ↦ λ some. absurd (omega arith)
      | false ↦ λ is. is
    ] none) in
    elim (eqb l.number n) as (λ b. eqb l.number n ≡ b → cond b l.holders (holders_of n (begun m ls)) ≡ cond b l.holders (holders_of n ls) + one_if (eqb m n)) [
      | true ↦ λ e. elim (eqb m n) as (λ c. eqb m n ≡ c → l.holders ≡ l.holders + one_if c) [
        | true ↦ λ q.
            let same : eqb l.number m ≡ true = eq-eqb l.number m (eqb-true l.number n e ∙ sym (eqb-true m n q)) in
            absurd (let none' : 1 + lives m ls ≡ 0 = subst (λ (b : Bool). cond b (1 + lives m ls) (lives m ls) ≡ 0) same none in omega arith)
        | false ↦ λ q. omega arith
      ] refl
      | false ↦ λ e. rest
    ] refl

-- Lemmas about counted parts.

-- Each one is live with the count of its parts, given by `held`.
pub record Counts (held : ℕ → ℕ) (ls : List Live) : Type 0 where
  pub counted : (n : ℕ) → holders_of n ls ≡ held n
  pub live : (n : ℕ) → lives n ls ≡ one_if (nat_lt 0 (held n))

-- A property that holds of a number and of every other number holds of all.
pub of_each : (P : ℕ → Type 0) (m : ℕ) → P m → ((n : ℕ) → m ≢ n → P n) → (n : ℕ) → P n
of_each P m here there n = elim (eqb m n) as (λ b. eqb m n ≡ b → P n) [
  | true ↦ λ e. subst P (eqb-true m n e) here
  | false ↦ λ e. there n (eqb-false m n e)
] refl

pub few-one : (b : Bool) → one_if b ≤ 1
few-one true = omega arith
few-one false = omega arith

add-zero : (a : ℕ) → a + 0 ≡ a
add-zero a = omega arith

pub itself : (m : ℕ) → one_if (eqb m m) ≡ 1
itself m = ap one_if (eq-eqb m m refl)

pub another : (m n : ℕ) → m ≢ n → one_if (eqb m n) ≡ 0
another m n apart = ap one_if (ne_eqb m n apart)

pub some_more : (a : ℕ) → 1 ≤ a → one_if (nat_lt 0 a) ≡ 1
some_more a some = ap one_if (lt-ltb 0 a some)

one-less : (a b : ℕ) → a + 1 ≡ b → nat_lt 1 b ≡ nat_lt 0 a
one-less zero b is = subst (λ (x : ℕ). nat_lt 1 x ≡ false) is refl
one-less (suc a) b is = lt-ltb 1 b (omega arith) ∙ sym (lt-ltb 0 (suc a) (omega arith))

last-or-not : (b : Bool) (a : ℕ) → a + one_if (not b) ≡ 1 → a ≡ one_if b
last-or-not true a is = omega arith
last-or-not false a is = omega arith

module _ (held held' : ℕ → ℕ) (m : ℕ) (ls : List Live) (counts : Counts held ls) where
  live-once : 1 ≤ held m → lives m ls ≡ 1
  live-once some = counts.live m ∙ some_more (held m) some

  pub counts-gained : 1 ≤ held m → held m + 1 ≤ 2 ^ 64 - 1 → ((n : ℕ) → held' n ≡ held n + one_if (eqb m n)) → Counts held' (gained m ls)
  counts-gained some few more =
      let here : held' m ≡ held m + 1 = more m ∙ ap (λ (x : ℕ). held m + x) (itself m) in
      let same : (n : ℕ) → m ≢ n → held n ≡ held' n = λ n apart. omega (arith, more n, another m n apart) in
      let once = live-once some in
      let held_here = counts.counted m in
      record {
        counted = of_each (λ n. holders_of n (gained m ls) ≡ held' n) m
            (gained-holders m ls (omega arith) (omega arith) ∙ omega arith)
            (λ n apart. (gained-other m n apart ls).1 ∙ counts.counted n ∙ same n apart);
        live = of_each (λ n. lives n (gained m ls) ≡ one_if (nat_lt 0 (held' n))) m
            (gained-lives m ls ∙ once ∙ sym (some_more (held' m) (omega arith)))
            (λ n apart. (gained-other m n apart ls).0 ∙ counts.live n ∙ ap (λ (x : ℕ). one_if (nat_lt 0 x)) (same n apart));
      }

  pub lives-gained : (n : ℕ) → lives n (gained m ls) ≡ lives n ls
  lives-gained n = of_each (λ x. lives x (gained m ls) ≡ lives x ls) m (gained-lives m ls) (λ x apart. (gained-other m x apart ls).0) n

  pub counts-lost : 1 ≤ held m → ((n : ℕ) → held' n + one_if (eqb m n) ≡ held n) → Counts held' (lost m ls)
  counts-lost some less =
      let here : held' m + 1 ≡ held m = ap (λ (x : ℕ). held' m + x) (sym (itself m)) ∙ less m in
      let same : (n : ℕ) → m ≢ n → held n ≡ held' n = λ n apart. omega (arith, less n, another m n apart) in
      let once = live-once some in
      let held_here = counts.counted m in
      let less_here = lost-holders m ls once (omega arith) in
      let last : is_at_its_last m ls ≡ not (nat_lt 0 (held' m)) =
      takes_completion m ls (omega arith) ∙ ap (λ (x : ℕ). not (nat_lt 1 x)) held_here ∙ ap not (one-less (held' m) (held m) here) in
      record {
        counted = of_each (λ n. holders_of n (lost m ls) ≡ held' n) m (omega arith) (λ n apart. (lost-other m n apart ls).1 ∙ counts.counted n ∙ same n apart);
        live = of_each (λ n. lives n (lost m ls) ≡ one_if (nat_lt 0 (held' n))) m
            (last-or-not (nat_lt 0 (held' m)) (lives m (lost m ls)) (ap (λ (b : Bool). lives m (lost m ls) + one_if b) (sym last) ∙ lost-lives m ls once))
            (λ n apart. (lost-other m n apart ls).0 ∙ counts.live n ∙ ap (λ (x : ℕ). one_if (nat_lt 0 x)) (same n apart));
      }

  -- One that loses a part has ended or is still live.
  pub lives-lost : 1 ≤ held m → (n : ℕ) → lives n (lost m ls) + cond (is_at_its_last m ls) (one_if (eqb m n)) 0 ≡ lives n ls
  lives-lost some n =
      let once = live-once some in
      of_each (λ x. lives x (lost m ls) + cond (is_at_its_last m ls) (one_if (eqb m x)) 0 ≡ lives x ls) m
      (rw (itself m) (lost-lives m ls once ∙ sym once))
      (λ x apart. rw (another m x apart) (elim (is_at_its_last m ls) as (λ b. lives x (lost m ls) + cond b 0 0 ≡ lives x ls) [
        | true ↦ omega (arith, (lost-other m x apart ls).0)
        | false ↦ omega (arith, (lost-other m x apart ls).0)
      ])) n

  pub counts-begun : held m ≡ 0 → ((n : ℕ) → held' n ≡ held n + one_if (eqb m n)) → Counts held' (begun m ls)
  counts-begun none more =
      let dead : lives m ls ≡ 0 = counts.live m ∙ ap (λ (x : ℕ). one_if (nat_lt 0 x)) none in
      let here : held' m ≡ 1 = more m ∙ omega (arith, itself m) in
      record {
        counted = λ n. begun-holders m n ls dead ∙ ap (λ (x : ℕ). x + one_if (eqb m n)) (counts.counted n) ∙ sym (more n);
        live = of_each (λ n. lives n (begun m ls) ≡ one_if (nat_lt 0 (held' n))) m
            (begun-lives m m ls ∙ omega (arith, itself m, some_more (held' m) (omega arith)))
            (λ n apart. begun-lives m n ls ∙ omega (arith, another m n apart, counts.live n, ap (λ (x : ℕ). one_if (nat_lt 0 x)) (more n), ap (λ (x : ℕ). one_if (nat_lt 0 (held n + x))) (another m n apart), ap (λ (x : ℕ). one_if (nat_lt 0 x)) (add-zero (held n))));
      }

  pub counts-forgotten : held' m ≡ 0 → ((n : ℕ) → m ≢ n → held' n ≡ held n) → Counts held' (forgotten m ls)
  counts-forgotten none same =
      let few : lives m ls ≤ 1 = subst (λ (x : ℕ). x ≤ 1) (sym (counts.live m)) (few-one (nat_lt 0 (held m))) in
      let dead = forgotten-lives m ls few in
      record {
        counted = of_each (λ n. holders_of n (forgotten m ls) ≡ held' n) m (none-holds m _ dead ∙ sym none) (λ n apart. (forgotten-other m n apart ls).1 ∙ counts.counted n ∙ sym (same n apart));
        live = of_each (λ n. lives n (forgotten m ls) ≡ one_if (nat_lt 0 (held' n))) m
            (dead ∙ sym (ap (λ (x : ℕ). one_if (nat_lt 0 x)) none))
            (λ n apart. (forgotten-other m n apart ls).0 ∙ counts.live n ∙ ap (λ (x : ℕ). one_if (nat_lt 0 x)) (sym (same n apart)));
      }

pub counts-same : (held held' : ℕ → ℕ) (ls : List Live) → Counts held ls → ((n : ℕ) → held' n ≡ held n) → Counts held' ls
counts-same held held' ls counts same = record {
  counted = λ n. counts.counted n ∙ sym (same n);
  live = λ n. counts.live n ∙ ap (λ (x : ℕ). one_if (nat_lt 0 x)) (sym (same n));
}
