-- The waiting list of one record, as one is added or removed.
use Rattle.std.proofs.Common.{◌≡◌, ◌≢◌, ℕ, Bool, true, false, cond, not, nat_eq, List, [], ◌∷◌, ◌++◌, refl, sym, ap, subst, ◌∙◌, arith, append-nil}
use Rattle.std.specs.Prelude.{Contains, All, ◌||◌, ◌&&◌}
use Rattle.std.specs.List.{filter, list_any}
use Rattle.std.proofs.lemmas.Grind.{common_steps}
use Rattle.std.proofs.lemmas.List.Elements.{All-nil, All-cons, All-weaker, All-contains, All-contains_itself, All-filter, Contains-append_right, filter-append, filter_agree, filter_passes}
use Rattle.ioc_notify.specs.declared.waiting_lists.Waiting.{Waiting}
use Rattle.ioc_notify.specs.Waits.{at_record, without}

-- Lemmas about filtered lists.

-- An item is in the filtered list if and only if it is in the list and passes.
pub passes-there : {X : Type 0} (p : X → Bool) (xs : List X) (x : X) → Contains (filter p xs) x → Contains xs x × (p x ≡ true)
passes-there p xs x h = (
  All-contains (Contains xs) (filter p xs) x (All-filter p (Contains xs) xs (All-contains_itself xs)) h,
  All-contains (λ y. p y ≡ true) (filter p xs) x (filter_passes p xs) h,
)

behind : {X : Type 0} (b : Bool) (y : X) (ys : List X) (x : X) → Contains ys x → Contains (cond b (y ∷ ys) ys) x
behind true y ys x h = Contains-append_right (y ∷ []) ys x h
behind false y ys x h = h

abbrev IsKept : {X : Type 0} → (X → Bool) → List X → X → Type 0
IsKept p kept x = p x ≡ true → Contains kept x

all-kept : {X : Type 0} (p : X → Bool) (xs : List X) → All (IsKept p (filter p xs)) xs
all-kept p [] = All-nil (IsKept p [])
all-kept p (y ∷ xs) =
    let kept = filter p (y ∷ xs) in
    let rest = All-weaker (IsKept p (filter p xs)) (IsKept p kept) (λ x h is. behind (p y) y (filter p xs) x (h is)) xs (all-kept p xs) in
    All-cons (IsKept p kept) y xs (λ is. rw is (0, omega arith, refl)) rest

pub there-passes : {X : Type 0} (p : X → Bool) (xs : List X) (x : X) → Contains xs x → p x ≡ true → Contains (filter p xs) x
there-passes p xs x h = All-contains (IsKept p (filter p xs)) xs x (all-kept p xs) h

-- Two filters commute.
filter_twice : {X : Type 0} (p q : X → Bool) (xs : List X) → filter p (filter q xs) ≡ filter (λ x. q x && p x) xs
filter_twice p q [] = refl
filter_twice p q (x ∷ xs) =
    let rest = filter (λ y. q y && p y) xs in
    elim (q x) as (λ b. filter p (cond b (x ∷ filter q xs) (filter q xs)) ≡ cond (b && p x) (x ∷ rest) rest) [
      | true ↦ ap (λ ys. cond (p x) (x ∷ ys) ys) (filter_twice p q xs)
      | false ↦ filter_twice p q xs
    ]

both_ways : (b c : Bool) → (b && c) ≡ (c && b)
both_ways true true = refl
both_ways true false = refl
both_ways false true = refl
both_ways false false = refl

two_filters : {X : Type 0} (p q : X → Bool) (xs : List X) → filter p (filter q xs) ≡ filter q (filter p xs)
two_filters p q xs = filter_twice p q xs ∙ filter_agree _ _ (λ x. both_ways (q x) (p x)) xs ∙ sym (filter_twice q p xs)

all-pass : {X : Type 0} (p : X → Bool) (xs : List X) → ((x : X) → Contains xs x → p x ≡ true) → filter p xs ≡ xs
all-pass p [] all = refl
all-pass p (x ∷ xs) all = rw (all x (0, omega arith, refl)) (ap (λ ys. x ∷ ys) (all-pass p xs (λ y h. all y (Contains-append_right (x ∷ []) xs y h))))

-- Whether one passes depends only on those that do.
any-passes : {X : Type 0} (p : X → Bool) (xs : List X) → list_any p xs ≡ list_any p (filter p xs)
any-passes p [] = refl
any-passes p (x ∷ xs) = elim (p x) as (λ b. p x ≡ b → (b || list_any p xs) ≡ list_any p (cond b (x ∷ filter p xs) (filter p xs))) [
  | true ↦ λ is. sym (ap (λ b. b || list_any p (filter p xs)) is)
  | false ↦ λ is. any-passes p xs
] refl

-- Lemmas about waiting lists of records.

nat-same : (a b : ℕ) → a ≡ b → nat_eq a b ≡ true
nat-same a b e = grind (arith, common_steps)

nat-other : (a b : ℕ) → a ≢ b → nat_eq a b ≡ false
nat-other a b e = grind (arith, common_steps)

nat-is : (a b : ℕ) → nat_eq a b ≡ true → a ≡ b
nat-is a b e = grind (arith, common_steps)

-- One that waits is in the list of its record, and one in the list of a record waits for it.
pub in-list : (xs : List Waiting) (x : Waiting) → Contains xs x → Contains (at_record x.target xs) x
in-list xs x h = there-passes (λ (w : Waiting). nat_eq w.target x.target) xs x h (nat-same x.target x.target refl)

pub of-list : (xs : List Waiting) (target : ℕ) (x : Waiting) → Contains (at_record target xs) x → Contains xs x × (x.target ≡ target)
of-list xs target x h = let one = passes-there (λ (w : Waiting). nat_eq w.target target) xs x h in (one.0, nat-is x.target target one.1)

-- If a record has the same list in both worlds, the same wait for it.
pub waits-too : (xs ys : List Waiting) (x : Waiting) → at_record x.target xs ≡ at_record x.target ys → Contains xs x → Contains ys x
waits-too xs ys x same h = (of-list ys x.target x (subst (λ (l : List Waiting). Contains l x) same (in-list xs x h))).0

-- The lists of a record stay equal if one is added to both.
pub added-same : (xs ys : List Waiting) (x : Waiting) (target : ℕ) → at_record target xs ≡ at_record target ys → at_record target (xs ++ x ∷ []) ≡ at_record target (ys ++ x ∷ [])
added-same xs ys x target same =
    let p : Waiting → Bool = λ w. nat_eq w.target target in
    filter-append p xs (x ∷ []) ∙ ap (λ (l : List Waiting). l ++ filter p (x ∷ [])) same ∙ sym (filter-append p ys (x ∷ []))

pub added-elsewhere : (xs : List Waiting) (x : Waiting) (target : ℕ) → x.target ≢ target → at_record target (xs ++ x ∷ []) ≡ at_record target xs
added-elsewhere xs x target apart =
    let p : Waiting → Bool = λ w. nat_eq w.target target in
    let none : p x ≡ false = nat-other x.target target apart in
    filter-append p xs (x ∷ []) ∙ ap (λ (b : Bool). filter p xs ++ cond b (x ∷ []) []) none ∙ append-nil (filter p xs)

-- Removing one commutes with selecting the list of a record.
pub taken-from_each : (number target : ℕ) (xs : List Waiting) → at_record target (without number xs) ≡ without number (at_record target xs)
taken-from_each number target xs = two_filters (λ (w : Waiting). nat_eq w.target target) (λ (w : Waiting). not (nat_eq w.number number)) xs

pub taken-same : (number target : ℕ) (xs ys : List Waiting) → at_record target xs ≡ at_record target ys → at_record target (without number xs) ≡ at_record target (without number ys)
taken-same number target xs ys same = taken-from_each number target xs ∙ ap (without number) same ∙ sym (taken-from_each number target ys)

pub taken-elsewhere : (number target : ℕ) (xs : List Waiting) → ((x : Waiting) → Contains xs x → x.target ≡ target → x.number ≢ number) → at_record target (without number xs) ≡ at_record target xs
taken-elsewhere number target xs apart =
    taken-from_each number target xs
    ∙ all-pass (λ (w : Waiting). not (nat_eq w.number number)) (at_record target xs)
    (λ x h. let one = of-list xs target x h in ap not (nat-other x.number number (apart x one.0 one.1)))

-- Whether one waits for this record depends only on its list.
pub any-same : (xs ys : List Waiting) (target : ℕ) → at_record target xs ≡ at_record target ys → list_any (λ (x : Waiting). nat_eq x.target target) xs ≡ list_any (λ (x : Waiting). nat_eq x.target target) ys
any-same xs ys target same =
    let p : Waiting → Bool = λ x. nat_eq x.target target in
    any-passes p xs ∙ ap (list_any p) same ∙ sym (any-passes p ys)
