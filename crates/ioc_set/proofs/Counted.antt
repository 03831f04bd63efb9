-- The parts of each put with notification, recounted: each is live with the count of its parts.
use Rattle.std.proofs.Common.{◌≡◌, ℕ, zero, suc, ◌+◌, ◌-◌, ◌^◌, ◌<◌, ◌≤◌, Bool, true, false, cond, ◌||◌, eqb, nat_lt, List, [], ◌∷◌, length, get_or, Option, Some, None, is_some, unwrap_or, refl, sym, ap, subst, ◌∙◌, arith}
use Rattle.std.specs.FinMap.{entries, len, len-entries}
use Rattle.std.proofs.lemmas.Bool.{eqb-true}
use Rattle.std.proofs.lemmas.List.{get_or_default}
use Rattle.ioc_notify.specs.declared.live_numbers.Live.{Live}
use Rattle.ioc_notify.specs.declared.waiting_lists.Waiting.{Waiting}
use Rattle.ioc_notify.specs.Living.{is_live, begun, gained, lost}
use Rattle.ioc_record.specs.RecordRules.{RecordRules}
use Rattle.ioc_set_records.specs.Contents.{Records}
use Rattle.ioc_store.specs.World.{total, is_notification}
use Rattle.ioc_store.specs.Worlds.{ones_few}
use Rattle.ioc_events.specs.Holding.{how_many, one_if_has, holders, HoldersCounted}
use Rattle.ioc_set.specs.Resting.{resting}
use Rattle.ioc_set.specs.Recounting.{begun_each, gained_by, gained_each, gained_if, lost_each, AreBegun, AreLive}
use Rattle.ioc_events.proofs.Counting.{lives, one_if, Counts, counts-gained, counts-lost, counts-same, few-one, live-lives, begun-lives, begun-holders, of_each, itself, another}
use Rattle.ioc_set.proofs.Entries.{get-at}

-- Lemmas about how often one is live.

pub live-some : (n : ℕ) (ls : List Live) → is_live n ls ≡ true → 1 ≤ lives n ls
live-some n [] is = cc
live-some n (l ∷ ls) is = elim (eqb l.number n) as (λ b. b || is_live n ls ≡ true → 1 ≤ cond b (1 + lives n ls) (lives n ls)) [
  | true ↦ λ _. omega arith
  | false ↦ λ rest. live-some n ls rest
] is

pub some-live : (n : ℕ) (ls : List Live) → 1 ≤ lives n ls → is_live n ls ≡ true
some-live n [] some = absurd (let z : ⊥ = omega (arith, some) in z)
some-live n (l ∷ ls) some = elim (eqb l.number n) as (λ b. 1 ≤ cond b (1 + lives n ls) (lives n ls) → b || is_live n ls ≡ true) [
  | true ↦ λ _. refl
  | false ↦ λ rest. some-live n ls rest
] some

-- Lemmas about those that have begun.

pub none-begun : AreBegun []
none-begun n = (omega arith, refl)

one-begun : (m : ℕ) (ls : List Live) → is_live m ls ≡ false → AreBegun ls → AreBegun (begun m ls)
one-begun m ls dead are n =
    let none : lives m ls ≡ 0 = live-lives m ls false dead (are m).0 in
    let lives_then = begun-lives m n ls in
    let holders_then = begun-holders m n ls none in
    let few : lives n ls + one_if (eqb m n) ≤ 1 = of_each (λ x. lives x ls + one_if (eqb m x) ≤ 1) m (omega (arith, none, itself m)) (λ x apart. omega (arith, (are x).0, another m x apart)) n in
    (omega (arith, lives_then, few), holders_then ∙ ap (λ (x : ℕ). x + one_if (eqb m n)) (are n).1 ∙ sym lives_then)

pub each-begun : (xs ls : List Live) → AreBegun ls → AreBegun (begun_each xs ls)
each-begun [] ls are = are
each-begun (x ∷ xs) ls are = elim (is_live x.number ls) as (λ b. is_live x.number ls ≡ b → AreBegun (begun_each xs (cond b ls (begun x.number ls)))) [
  | true ↦ λ _. each-begun xs ls are
  | false ↦ λ dead. each-begun xs (begun x.number ls) (one-begun x.number ls dead are)
] refl

-- One that was live is still live.
pub begun-keeps : (n : ℕ) (xs ls : List Live) → lives n ls ≤ lives n (begun_each xs ls)
begun-keeps n [] ls = omega arith
begun-keeps n (x ∷ xs) ls = elim (is_live x.number ls) as (λ b. lives n ls ≤ lives n (begun_each xs (cond b ls (begun x.number ls)))) [
  | true ↦ begun-keeps n xs ls
  | false ↦ omega (arith, begun-keeps n xs (begun x.number ls), begun-lives x.number n ls)
]

-- Each of these is live.
pub begun-has : (n : ℕ) (xs ls : List Live) → 1 ≤ lives n xs → 1 ≤ lives n (begun_each xs ls)
begun-has n [] ls some = absurd (let z : ⊥ = omega (arith, some) in z)
begun-has n (x ∷ xs) ls some =
    elim (eqb x.number n) as (λ c. eqb x.number n ≡ c → 1 ≤ cond c (1 + lives n xs) (lives n xs) → 1 ≤ lives n (begun_each xs (cond (is_live x.number ls) ls (begun x.number ls)))) [
      | true ↦ λ e _.
          let is : x.number ≡ n = eqb-true x.number n e in
          elim (is_live x.number ls) as (λ b. is_live x.number ls ≡ b → 1 ≤ lives n (begun_each xs (cond b ls (begun x.number ls)))) [
            | true ↦ λ live. let here = live-some n ls (ap (λ (q : ℕ). is_live q ls) (sym is) ∙ live) in omega (arith, here, begun-keeps n xs ls)
            | false ↦ λ _. let one : one_if (eqb x.number n) ≡ 1 = ap one_if e in omega (arith, begun-lives x.number n ls, one, begun-keeps n xs (begun x.number ls))
          ] refl
      | false ↦ λ e rest. begun-has n xs (cond (is_live x.number ls) ls (begun x.number ls)) rest
    ] refl some

-- No other is live.
begun-zero : (m n : ℕ) (xs : List Live) (b : Bool) → eqb m n ≡ b → cond b (1 + lives n xs) (lives n xs) ≡ 0 → (one_if (eqb m n) ≡ 0) × (lives n xs ≡ 0)
begun-zero m n xs true e none = absurd (let z : ⊥ = omega (arith, none) in z)
begun-zero m n xs false e none = (ap one_if e, none)

pub begun-only : (n : ℕ) (xs ls : List Live) → lives n xs ≡ 0 → lives n ls ≡ 0 → lives n (begun_each xs ls) ≡ 0
begun-only n [] ls none dead = dead
begun-only n (x ∷ xs) ls none dead =
    let zero_of = begun-zero x.number n xs (eqb x.number n) refl none in
    elim (is_live x.number ls) as (λ b. lives n (begun_each xs (cond b ls (begun x.number ls))) ≡ 0) [
      | true ↦ begun-only n xs ls zero_of.1 dead
      | false ↦ begun-only n xs (begun x.number ls) zero_of.1 (omega (arith, begun-lives x.number n ls, zero_of.0, dead))
    ]

-- Lemmas about counting one after another.

counted-if : (o : Option ℕ) (held : ℕ → ℕ) (ls : List Live) → Counts held ls → ((m : ℕ) → o ≡ Some m → 1 ≤ held m) → ((n : ℕ) → held n + 1 ≤ 2 ^ 64 - 1) → Counts (λ n. held n + one_if (is_notification n o)) (gained_if o ls)
counted-if None held ls counts cover few = counts-same held (λ n. held n + 0) ls counts (λ n. omega arith)
counted-if (Some m) held ls counts cover few = counts-gained held (λ n. held n + one_if (eqb m n)) m ls counts (cover m refl) (few m) (λ n. refl)

counted-waiting : (xs : List Waiting) (held : ℕ → ℕ) (ls : List Live) → Counts held ls → ((i : ℕ) (d : Waiting) → i < length xs → 1 ≤ held (get_or xs i d).number)
    → ((n : ℕ) → held n + how_many (λ (x : Waiting). x.number) n xs ≤ 2 ^ 64 - 1) → Counts (λ n. held n + how_many (λ (x : Waiting). x.number) n xs) (gained_each xs ls)
counted-waiting [] held ls counts cover few = counts-same held (λ n. held n + 0) ls counts (λ n. omega arith)
counted-waiting (x ∷ xs) held ls counts cover few =
    let with_one : ℕ → ℕ = λ n. held n + one_if (eqb x.number n) in
    let same : (n : ℕ) → held n + cond (eqb x.number n) (1 + how_many (λ (y : Waiting). y.number) n xs) (how_many (λ (y : Waiting). y.number) n xs) ≡ with_one n + how_many (λ (y : Waiting). y.number) n xs =
    λ n. elim (eqb x.number n) as (λ b. held n + cond b (1 + how_many (λ (y : Waiting). y.number) n xs) (how_many (λ (y : Waiting). y.number) n xs) ≡ held n + one_if b + how_many (λ (y : Waiting). y.number) n xs) [
      | true ↦ omega arith
      | false ↦ omega arith
    ] in
    let here = itself x.number in
    let fits = few x.number in
    let all_here = same x.number in
    let one = counts-gained held with_one x.number ls counts (cover 0 x (omega arith)) (omega (arith, here, fits, all_here)) (λ n. refl) in
    let rest = counted-waiting xs with_one (gained x.number ls) one (λ i d within. let c = cover (suc i) d (omega (arith, within)) in omega (arith, c)) (λ n. omega (arith, few n, same n)) in
    counts-same (λ n. with_one n + how_many (λ (y : Waiting). y.number) n xs) _ (gained_each xs (gained x.number ls)) rest same

-- Each count is one less.
pub counted-lost : (xs : List Live) (held : ℕ → ℕ) (ls : List Live) → Counts (λ n. lives n xs + held n) ls → Counts held (lost_each xs ls)
counted-lost [] held ls counts = counts-same (λ n. 0 + held n) held ls counts (λ n. omega arith)
counted-lost (x ∷ xs) held ls counts =
    let less : (n : ℕ) → lives n xs + held n + one_if (eqb x.number n) ≡ cond (eqb x.number n) (1 + lives n xs) (lives n xs) + held n =
    λ n. elim (eqb x.number n) as (λ b. lives n xs + held n + one_if b ≡ cond b (1 + lives n xs) (lives n xs) + held n) [
      | true ↦ omega arith
      | false ↦ omega arith
    ] in
    let here = itself x.number in
    let less_here = less x.number in
    counted-lost xs held (lost x.number ls) (counts-lost (λ n. cond (eqb x.number n) (1 + lives n xs) (lives n xs) + held n) (λ n. lives n xs + held n) x.number ls counts (omega (arith, here, less_here)) less)

few-is : (a : ℕ) → a ≤ 1 → a ≡ one_if (nat_lt 0 a)
few-is zero le = refl
few-is (suc zero) le = refl
few-is (suc (suc a)) le = absurd (let z : ⊥ = omega (arith, le) in z)

module _ {R : Type 0} (k : RecordRules R) where
  counted-records : (es : List (ℕ × R)) (held : ℕ → ℕ) (ls : List Live) → Counts held ls
      → ((i : ℕ) (d : ℕ × R) → i < length es → (m : ℕ) → (k.common (get_or es i d).1).notification ≡ Some m → 1 ≤ held m)
      → ((n : ℕ) → held n + length es ≤ 2 ^ 64 - 1) → Counts (λ n. held n + total (one_if_has k n) es) (gained_by k es ls)
  counted-records [] held ls counts cover few = counts-same held (λ n. held n + 0) ls counts (λ n. omega arith)
  counted-records (e ∷ es) held ls counts cover few =
      let o = (k.common e.1).notification in
      let with_one : ℕ → ℕ = λ n. held n + one_if (is_notification n o) in
      let one = counted-if o held ls counts (cover 0 e (omega arith)) (λ n. let f = few n in omega (arith, f)) in
      let rest = counted-records es with_one (gained_if o ls) one
      (λ i d within m is. let c = cover (suc i) d (omega (arith, within)) m is in omega (arith, c))
      (λ n. let f = few n in let small = few-one (is_notification n o) in omega (arith, f, small)) in
      counts-same (λ n. with_one n + total (one_if_has k n) es) _ (gained_by k es (gained_if o ls)) rest (λ n. omega arith)

  small : (n : ℕ) (r : R) → one_if_has k n r ≤ 1
  small n r = few-one (is_notification n (k.common r).notification)

  -- Recounted from these records and those that wait, each is live with the count of its parts.
  pub recounted : (rs : Records R) (ws : List Waiting) (cs ls : List Live) → AreBegun cs → AreLive k rs ws cs → ((n : ℕ) → how_many (λ (x : Waiting). x.number) n ws ≤ 1) → len rs < 2 ^ 63
      → ls ≡ lost_each cs (gained_each ws (gained_by k (entries rs) cs)) → HoldersCounted k (resting rs ls ws)
  unfolding holders
  recounted rs ws cs ls are live once few is =
      let es = entries rs in
      let first : Counts (λ n. lives n cs) cs = record {
        counted = λ n. (are n).1;
        live = λ n. few-is (lives n cs) (are n).0;
      } in
      let all : ℕ → ℕ = λ n. total (one_if_has k n) es + how_many (λ (x : Waiting). x.number) n ws in
      let records = counted-records es (λ n. lives n cs) cs first
      (λ i d within m has. let there = get-at rs i d within in
      live-some m cs (live.has (get_or es i d).0 m (ap (λ (o : Option R). is_some o) there) (ap (λ (o : Option R). (k.common (unwrap_or o k.missing)).notification) there ∙ has)))
      (λ n. omega (arith, (are n).0, len-entries rs, few)) in
      let waiting = counted-waiting ws (λ n. lives n cs + total (one_if_has k n) es) (gained_by k es cs) records
      (λ i d within. let x = get_or ws i d in let some = live-some x.number cs (live.waits x (i, within, get_or_default ws i x d within)) in omega (arith, some))
      (λ n. omega (arith, (are n).0, once n, ones_few (one_if_has k n) (small n) es, len-entries rs, few)) in
      let last = counted-lost cs all (gained_each ws (gained_by k es cs)) (counts-same (λ n. lives n cs + total (one_if_has k n) es + how_many (λ (x : Waiting). x.number) n ws) _ (gained_each ws (gained_by k es cs)) waiting (λ n. omega arith)) in
      let now = subst (λ (l : List Live). Counts all l) (sym is) last in
      record { counted = now.counted; live = now.live; waits_once = once }

  -- If none is live, no record is part of one.
  pub gained-none : (es : List (ℕ × R)) → gained_by k es [] ≡ []
  gained-none [] = refl
  gained-none (e ∷ es) = elim (k.common e.1).notification as (λ o. gained_by k es (gained_if o []) ≡ []) [
    | None ↦ gained-none es
    | Some n ↦ gained-none es
  ]

  pub none-counted : (rs : Records R) (ls : List Live) (cs : List Live) (ws : List Waiting) → cs ≡ [] → ws ≡ [] → ls ≡ lost_each cs (gained_each ws (gained_by k (entries rs) cs)) → ls ≡ []
  none-counted rs ls cs ws none nobody is =
      is ∙ ap (λ (l : List Live). lost_each l (gained_each ws (gained_by k (entries rs) l))) none ∙ ap (λ (l : List Waiting). gained_each l (gained_by k (entries rs) [])) nobody ∙ gained-none (entries rs)
