-- The number of records in each part of a database.
use Rattle.std.proofs.Common.{◌≡◌, ◌+◌, ℕ, zero, suc, Bool, true, false, cond, if◌then◌else◌, ◌||◌, eqb, leb, List, [], ◌∷◌, length, map, sum_by, slice_get, slice_index, get_or, ◌<◌, Option, Some, None, is_some, option_map, nat_cmp, eq-eqb, ne_eqb, le-leb, refl, sym, ap, ◌∙◌, ⊎_elim, arith}
use Rattle.std.specs.Cmp.{nat_eq_equiv}
use Rattle.std.specs.List.{AllByRecursion, IsDistinct, list_any}
use Rattle.std.specs.FinMap.{FinMap, get, keys}
use Rattle.std.proofs.lemmas.Bool.{cases_eq, lt-leb, or_from}
use Rattle.std.proofs.lemmas.Bool.Decides.{nat_tests}
use Rattle.std.proofs.lemmas.List.{length-map}
use Rattle.std.proofs.lemmas.List.Sums.{sum_by-cons}
use Rattle.std.proofs.lemmas.Map.Made.{length-from_same_keys}
use Rattle.ioc_set_records.specs.Contents.{Contents}
use Rattle.ioc_set_records.specs.Dealing.{HasPart}
use Rattle.ioc_set_records.specs.declared.loaded.Loaded.{Loaded}
use Rattle.ioc_engine_core.proofs.SameKeys.{keys-distinct, has-key}

-- The number of records of parts with this number or a greater one.
abbrev pub left-from : ℕ → List ℕ → ℕ
left-from part parts = sum_by (λ x. if leb part x then 1 else 0) parts

-- The places of the records of a part.
abbrev places : ℕ → List ℕ → List ℕ
places part [] = []
places part (x ∷ parts) = cond (eqb x part) (0 ∷ map (λ n. suc n) (places part parts)) (map (λ n. suc n) (places part parts))

-- A number that is a part's or greater is either that part's or greater than it.
one-part : (x part : ℕ) → cond {A = ℕ} (leb part x) 1 0 ≡ cond (eqb x part) 1 0 + cond (leb (part + 1) x) 1 0
one-part x part = grind (arith, nat_tests)

-- One more place, if there is one, and the others, each moved by one, are one more.
one-place : (b : Bool) (ps : List ℕ) → length (cond b (0 ∷ map (λ n. suc n) ps) (map (λ n. suc n) ps)) ≡ cond b 1 0 + length ps
one-place true ps = let long = length-map ps (λ (n : ℕ). suc n) in omega arith
one-place false ps = let long = length-map ps (λ (n : ℕ). suc n) in omega arith

-- The records of a part and those of greater parts are those of the part and of greater ones.
count-places : (part : ℕ) (parts : List ℕ) → left-from part parts ≡ length (places part parts) + left-from (part + 1) parts
count-places part [] = refl
count-places part (x ∷ parts) =
    let from = sum_by-cons (λ (y : ℕ). cond {A = ℕ} (leb part y) 1 0) x parts in
    let above = sum_by-cons (λ (y : ℕ). cond {A = ℕ} (leb (part + 1) y) 1 0) x parts in
    let here = one-part x part in
    let place = one-place (eqb x part) (places part parts) in
    let rest = count-places part parts in
    omega (arith, from, above, here, place, rest)

-- The successors of two numbers are equal exactly if the numbers are.
suc-test : (m n : ℕ) → eqb (suc m) (suc n) ≡ eqb m n
suc-test m n = ⊎_elim
    (λ e. eq-eqb (suc m) (suc n) (omega (arith, e)) ∙ sym (eq-eqb m n e))
    (λ ne. ne_eqb (suc m) (suc n) (λ e. ne (omega (arith, e))) ∙ sym (ne_eqb m n ne))
    (cases_eq m n)

-- Zero is no successor.
zero-test : (n : ℕ) → eqb 0 (suc n) ≡ false
zero-test n = ne_eqb 0 (suc n) (λ e. omega (arith, e))

-- Numbers that differ from another do so when all are moved by one.
later-apart : (x : ℕ) (ps : List ℕ) → AllByRecursion (λ y. eqb x y ≡ false) ps → AllByRecursion (λ y. eqb (suc x) y ≡ false) (map (λ n. suc n) ps)
later-apart x [] apart = tt
later-apart x (p ∷ ps) apart = (suc-test x p ∙ apart.0, later-apart x ps apart.1)

-- Numbers that differ from each other do so when all are moved by one.
later-distinct : (ps : List ℕ) → IsDistinct eqb ps → IsDistinct eqb (map (λ n. suc n) ps)
unfolding IsDistinct
later-distinct [] distinct = tt
later-distinct (p ∷ ps) distinct = (later-apart p ps distinct.0, later-distinct ps distinct.1)

-- Zero differs from numbers that are moved by one.
first-apart : (ps : List ℕ) → AllByRecursion (λ y. eqb 0 y ≡ false) (map (λ n. suc n) ps)
first-apart [] = tt
first-apart (p ∷ ps) = (zero-test p, first-apart ps)

-- With or without zero, numbers that are moved by one differ if they did before.
more-distinct : (b : Bool) (ps : List ℕ) → IsDistinct eqb ps → IsDistinct eqb (cond b (0 ∷ map (λ n. suc n) ps) (map (λ n. suc n) ps))
unfolding IsDistinct
more-distinct true ps distinct = (first-apart ps, later-distinct ps distinct)
more-distinct false ps distinct = later-distinct ps distinct

-- No place is twice among those of a part.
places-distinct : (part : ℕ) (parts : List ℕ) → IsDistinct eqb (places part parts)
unfolding IsDistinct
places-distinct part [] = tt
places-distinct part (x ∷ parts) = more-distinct (eqb x part) (places part parts) (places-distinct part parts)

-- Zero isn't among numbers that are moved by one.
no-first : (ps : List ℕ) → list_any (eqb 0) (map (λ n. suc n) ps) ≡ false
no-first [] = refl
no-first (p ∷ ps) = or_from (eqb 0 (suc p)) (list_any (eqb 0) (map (λ n. suc n) ps)) (zero-test p) (no-first ps)

-- A successor is among numbers that are moved by one exactly if the number was among them.
same-later : (q : ℕ) (ps : List ℕ) → list_any (eqb (suc q)) (map (λ n. suc n) ps) ≡ list_any (eqb q) ps
same-later q [] = refl
same-later q (p ∷ ps) = λ i. suc-test q p i || same-later q ps i

-- The same if zero may be in front of them.
at-later : (b : Bool) (q : ℕ) (ps : List ℕ) → list_any (eqb (suc q)) (cond b (0 ∷ map (λ n. suc n) ps) (map (λ n. suc n) ps)) ≡ list_any (eqb q) ps
at-later true q ps = ap (λ b. b || list_any (eqb (suc q)) (map (λ n. suc n) ps)) (ne_eqb (suc q) 0 (λ e. omega (arith, e))) ∙ same-later q ps
at-later false q ps = same-later q ps

module _ {A : Type 0} where
  -- There is no record where there is none to choose.
  neither : (b : Bool) (o : Option A) → o ≡ None → false ≡ is_some (cond b o None)
  neither true o none = sym (ap (λ (p : Option A). is_some p) none)
  neither false o none = refl

  -- Zero is among the places exactly if the first record is in the part.
  at-first : (b : Bool) (l : A) (ps : List ℕ) → list_any (eqb 0) (cond b (0 ∷ map (λ n. suc n) ps) (map (λ n. suc n) ps)) ≡ is_some (cond b (Some l) None)
  at-first true l ps = refl
  at-first false l ps = no-first ps

  -- A number is among the places of a part exactly if the record at it is in the part.
  at-places : (part : ℕ) (all : List A) (parts : List ℕ) (q : ℕ) → length all ≡ length parts → list_any (eqb q) (places part parts) ≡ is_some (cond (eqb (slice_index parts q) part) (slice_get all q) None)
  at-places part [] [] q long = neither (eqb 0 part) None refl
  at-places part [] (x ∷ parts) q long = absurd (omega (arith, long))
  at-places part (l ∷ all) [] q long = absurd (omega (arith, long))
  at-places part (l ∷ all) (x ∷ parts) zero long = at-first (eqb x part) l (places part parts)
  at-places part (l ∷ all) (x ∷ parts) (suc q) long = at-later (eqb x part) q (places part parts) ∙ at-places part all parts q (omega (arith, long))

  -- A mapped option has a value exactly if the option has.
  mapped : {R : Type 0} (f : A → R) (o : Option A) → is_some (option_map f o) ≡ is_some o
  mapped f None = refl
  mapped f (Some a) = refl

  -- If a map has exactly the values of a part, it has as many keys as the part has records.
  pub part-keys : {R : Type 0} (f : A → R) (all : List A) (parts : List ℕ) (part : ℕ) (m : FinMap nat_cmp R) → length all ≡ length parts
      → ((q : ℕ) → get m q ≡ option_map f (cond (eqb (slice_index parts q) part) (slice_get all q) None))
      → left-from part parts ≡ length (keys m) + left-from (part + 1) parts
  part-keys f all parts part m long each =
      let same = length-from_same_keys nat_eq_equiv (keys m) (places part parts) (keys-distinct m) (places-distinct part parts)
      (λ q. sym (has-key m q) ∙ ap (λ o. is_some o) (each q) ∙ mapped f (cond (eqb (slice_index parts q) part) (slice_get all q) None) ∙ sym (at-places part all parts q long)) in
      omega (arith, same, count-places part parts)

-- The records of parts with a number or a greater one are those of the part's set and those of
-- parts with greater numbers.
pub part-size : {R D : Type 0} (all : List (Loaded R D)) (parts : List ℕ) (part : ℕ) (members : Contents R D) → length all ≡ length parts → HasPart all parts part members
    → left-from part parts ≡ length (keys members.records) + left-from (part + 1) parts
part-size all parts part members long has = part-keys (λ l. l.fields) all parts part members.records long has.records

-- Each record is in a part, and the number of that is at least 0.
pub all-left : (parts : List ℕ) → left-from 0 parts ≡ length parts
all-left [] = refl
all-left (x ∷ parts) = omega (arith, sum_by-cons (λ (y : ℕ). cond {A = ℕ} (leb 0 y) 1 0) x parts, ap (λ b. cond {A = ℕ} b 1 0) (le-leb 0 x (omega arith)), all-left parts)

-- No record is in a part with a number that all parts are below.
pub none-left : (parts : List ℕ) (n : ℕ) → ((i d : ℕ) → i < length parts → get_or parts i d < n) → left-from n parts ≡ 0
none-left [] n below = refl
none-left (x ∷ parts) n below =
    let here = below 0 x (omega arith) in
    omega (arith, sum_by-cons (λ (y : ℕ). cond {A = ℕ} (leb n y) 1 0) x parts, ap (λ b. cond {A = ℕ} b 1 0) (lt-leb n x here), none-left parts n (λ i d lt. below (suc i) d (omega (arith, lt))))
