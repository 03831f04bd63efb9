-- Lists of numbers, none of which is there twice.
use Rattle.std.proofs.Common.{◌≡◌, ◌≢◌, ℕ, zero, suc, ◌<◌, ◌≤◌, Bool, true, false, cond, eqb, nat_lt, not, length, List, [], ◌∷◌, ◌++◌, ◌⊎◌, refl, sym, ◌∙◌, ⊎_elim, inl, inr, arith}
use Rattle.std.specs.Prelude.{Contains}
use Rattle.std.specs.List.{AllPairs, filter}
use Rattle.std.proofs.lemmas.Grind.{common_steps}
use Rattle.std.proofs.lemmas.Bool.{eq-eqb, eqb-true}
use Rattle.std.proofs.lemmas.List.{get_or_default, length-map}
use Rattle.std.proofs.lemmas.List.Elements.{Contains-append_cases}
use Rattle.std.proofs.lemmas.List.Kept.{AllPairs-filter}
use Rattle.std.proofs.lemmas.List.Quantifiers.{all_pairs_push}
use Rattle.ioc_notify.specs.declared.live_numbers.Live.{Live}
use Rattle.ioc_notify.specs.Living.{is_live}
use Rattle.ioc_journaled_set.specs.PutPlaces.{without}
use Rattle.ioc_journal.proofs.Basics.{one-there, later, passes-there}
use Rattle.ioc_journal.proofs.LiveFew.{numbers, number-there}
use Rattle.ioc_set.proofs.Gathered.{there-passes}

abbrev pub Differ : List ℕ → Type 0
Differ xs = AllPairs (λ earlier later. earlier ≢ later) xs

abbrev is_other : ℕ → ℕ → Bool
is_other number n = not (eqb n number)

-- A number is left out, and the others stay.

pub left_out : (number : ℕ) (xs : List ℕ) → Contains (without number xs) number → ⊥
left_out number xs there = other (eqb number number) (passes-there (is_other number) xs number there).1 (eq-eqb number number refl)
  where
    other : (b : Bool) → not b ≡ true → b ≡ true → ⊥
    other true isnt is = cc
    other false isnt is = cc

pub still_there : (number : ℕ) (xs : List ℕ) (n : ℕ) → Contains (without number xs) n → Contains xs n
still_there number xs n there = (passes-there (is_other number) xs n there).0

stays_there : (number : ℕ) (xs : List ℕ) (n : ℕ) → number ≢ n → Contains xs n → Contains (without number xs) n
stays_there number xs n apart there = there-passes (is_other number) xs n there (by (eqb n number) refl)
  where
    by : (b : Bool) → eqb n number ≡ b → not b ≡ true
    by true is = absurd (apart (sym (eqb-true n number is)))
    by false is = refl

pub filter_shorter : (p : ℕ → Bool) (xs : List ℕ) → length (filter p xs) ≤ length xs
filter_shorter p [] = omega arith
filter_shorter p (x ∷ xs) =
    let rest = filter_shorter p xs in
    elim (p x) as (λ b. length (cond b (x ∷ filter p xs) (filter p xs)) ≤ length (x ∷ xs)) [
      | true ↦ omega (arith, rest)
      | false ↦ omega (arith, rest)
    ]

pub shorter : (number : ℕ) (xs : List ℕ) → Contains xs number → length (without number xs) < length xs
shorter number [] there = absurd (omega (arith, there.1))
shorter number (x ∷ xs) (zero, lt, is) =
    let rest = filter_shorter (is_other number) xs in
    rw (eq-eqb x number is) (omega (arith, rest))
shorter number (x ∷ xs) (suc i, lt, is) =
    let rest = shorter number xs (i, omega (arith, lt), is) in
    elim (is_other number x) as (λ b. length (cond b (x ∷ without number xs) (without number xs)) < length (x ∷ xs)) [
      | true ↦ omega (arith, rest)
      | false ↦ omega (arith, rest)
    ]

-- Numbers that differ are no more than the numbers of a list that contains them all.
pub no_more : (xs ys : List ℕ) → Differ xs → ((n : ℕ) → Contains xs n → Contains ys n) → length xs ≤ length ys
no_more [] ys once among = omega arith
no_more (x ∷ xs) ys once among =
    let rest = no_more xs (without x ys) (λ i j d below within. once (suc i) (suc j) d (omega (arith, below)) (omega (arith, within)))
    (λ n there. stays_there x ys n (λ same. once 0 (suc there.0) n (omega arith) (omega (arith, there.1)) (same ∙ sym there.2)) (among n (later x xs n there))) in
    let less = shorter x ys (among x (0, omega arith, refl)) in
    omega (arith, rest, less)

-- The numbers that are live are no more than the lines.
pub no_more_than_live : (xs : List ℕ) (lines : List Live) → Differ xs → length (filter (λ n. is_live n lines) xs) ≤ length lines
no_more_than_live xs lines once =
    let size = length-map lines (λ (l : Live). l.number) in
    let fewer = no_more (filter (λ n. is_live n lines) xs) (numbers lines) (AllPairs-filter (λ earlier later. earlier ≢ later) (λ n. is_live n lines) xs once)
    (λ n there. number-there n lines (passes-there (λ n. is_live n lines) xs n there).1) in
    omega (arith, size, fewer)

-- A new number goes to the end.
pub differ_more : (xs : List ℕ) (n : ℕ) → Differ xs → (Contains xs n → ⊥) → Differ (xs ++ n ∷ [])
differ_more xs n once new = all_pairs_push (λ earlier later. earlier ≢ later) xs n once (λ k d lt same. new (k, lt, get_or_default xs k n d lt ∙ same))

pub old_or_new : (xs : List ℕ) (number n : ℕ) → Contains (xs ++ number ∷ []) n → (number ≡ n) ⊎ Contains xs n
old_or_new xs number n there = ⊎_elim (λ old. inr old) (λ new. inl (one-there number n new)) (Contains-append_cases xs (number ∷ []) n there)

-- Whether a place is free, by a comparison.

pub none_free : (a : ℕ) → nat_lt a 256 ≡ false → 256 ≤ a
none_free a isnt = grind (arith, common_steps)

pub is_free : (b : Bool) (used all : ℕ) → (b ≡ true → used < 256) → (b ≡ false → 256 ≤ all) → all < 256 → used < 256
is_free true used all room full few = room refl
is_free false used all room full few = let none = full refl in absurd (omega (arith, none, few))
