-- The leading digits of a number, found group by group from the highest.
use Rattle.std.proofs.Common.{◌≡◌, ℕ, suc, zero, ◌+◌, ◌*◌, ◌^◌, ◌<◌, ◌≤◌, Bool, true, false, ◌||◌, not, ◌≢◌, ◌==◌, List, [], length, nat_lt, take, get_or, refl, sym, subst, arith, lit<}
use Rattle.std.proofs.lemmas.Nat.{pow-add}
use Rattle.std.proofs.lemmas.List.{length-take-le}
use Rattle.std.proofs.lemmas.Bool.{lt-ltb, ne_eqb}
use Rattle.ioc_double.specs.Leading.{IsLeading}
use Rattle.ioc_double.specs.Groups.{value, AreGroups}
use Rattle.ioc_double.proofs.Values.{value_front, nine_more}

-- What the digits of groups are, of which those before are left.
pub record HasLed (n : ℕ) (before : List ℕ) (head dropped : ℕ) (some : Bool) : Type 0 where
  pub rest : ℕ
  pub is : n ≡ value before + 10 ^ (9 * length before) * (head * 10 ^ dropped + rest)
  pub below : rest < 10 ^ dropped
  pub more : some ≡ nat_lt 0 rest
  pub all : head < 10 ^ 27 → dropped ≡ 0
  pub short : head < 10 ^ 36

pub led_first : (groups : List ℕ) → HasLed (value groups) groups 0 0 false
led_first groups = record { rest = 0; is = omega arith; below = lit< tt; more = refl; all = λ h. refl; short = lit< tt }

-- A rest of no digits is 0.
no_digits : (r d : ℕ) → d ≡ 0 → r < 10 ^ d → r ≡ 0
no_digits r d e h = let z : r < 10 ^ 0 = subst (λ (k : ℕ). r < 10 ^ k) e h in omega arith

head_grown : (n v p g h : ℕ) → n ≡ v + p * g + 10 ^ 9 * p * (h * 1 + 0) → n ≡ v + p * ((h * 10 ^ 9 + g) * 1 + 0)
head_grown n v p g h e = omega arith

-- A group becomes the last of the leading digits.
pub led_more : (n head dropped k : ℕ) (xs : List ℕ) (some : Bool) → k + 1 ≡ length xs → AreGroups xs → HasLed n xs head dropped some → head < 10 ^ 27
    → HasLed n (take k xs) (head * 10 ^ 9 + get_or xs k 0) dropped some
led_more n head dropped k xs some e g h low =
    let z = h.all low in
    let r = no_digits h.rest dropped z h.below in
    let small = g k in
    let len : length (take k xs) ≡ k = length-take-le k xs (omega arith) in
    record {
      rest = h.rest;
      is = rw (len, r, z) (head_grown n (value (take k xs)) (10 ^ (9 * k)) (get_or xs k 0) head
          (rw (sym (value_front xs k e), sym (nine_more k)) (rw (r, z, sym e) at h.is)));
      below = h.below;
      more = h.more;
      all = λ _. z;
      short = omega arith;
    }

dropped_grown : (n v p g h d r t : ℕ) → t ≡ d * 10 ^ 9 → n ≡ v + p * g + 10 ^ 9 * p * (h * d + r) → n ≡ v + p * (h * t + (g + 10 ^ 9 * r))
dropped_grown n v p g h d r t e q = rw e (omega arith)

some_dropped : (some : Bool) (g r : ℕ) → some ≡ nat_lt 0 r → (some || not (g == 0)) ≡ nat_lt 0 (g + 10 ^ 9 * r)
some_dropped some zero zero h = rw h refl
some_dropped some zero (suc r) h = let p : 0 < 0 + 10 ^ 9 * suc r = omega arith in let q : 0 < suc r = omega arith in rw (h, lt-ltb 0 (suc r) q, lt-ltb 0 (0 + 10 ^ 9 * suc r) p) refl
some_dropped true (suc g) r h = let p : 0 < suc g + 10 ^ 9 * r = omega arith in rw (lt-ltb 0 (suc g + 10 ^ 9 * r) p) refl
some_dropped false (suc g) r h = let p : 0 < suc g + 10 ^ 9 * r = omega arith in let n : suc g ≢ 0 = omega arith in rw (ne_eqb (suc g) 0 n, lt-ltb 0 (suc g + 10 ^ 9 * r) p) refl

-- A group is dropped.
pub led_dropped : (n head dropped k : ℕ) (xs : List ℕ) (some : Bool) → k + 1 ≡ length xs → AreGroups xs → HasLed n xs head dropped some → 10 ^ 27 ≤ head
    → HasLed n (take k xs) head (dropped + 9) (some || not (get_or xs k 0 == 0))
led_dropped n head dropped k xs some e g h high =
    let small = g k in
    let len : length (take k xs) ≡ k = length-take-le k xs (omega arith) in
    let tens = pow-add 10 dropped 9 in
    record {
      rest = get_or xs k 0 + 10 ^ 9 * h.rest;
      is = rw len (dropped_grown n (value (take k xs)) (10 ^ (9 * k)) (get_or xs k 0) head (10 ^ dropped) h.rest (10 ^ (dropped + 9)) tens
          (rw (sym (value_front xs k e), sym (nine_more k)) (rw (sym e) at h.is)));
      below = let b = h.below in rw tens (omega arith);
      more = some_dropped some (get_or xs k 0) h.rest h.more;
      all = λ low. absurd (omega arith);
      short = h.short;
    }

-- The same where some dropped digit is known, and where none is.
pub led_dropped_more : (n head dropped k : ℕ) (xs : List ℕ) (some : Bool) → k + 1 ≡ length xs → AreGroups xs → HasLed n xs head dropped some → 10 ^ 27 ≤ head
    → some ≡ true → HasLed n (take k xs) head (dropped + 9) some
led_dropped_more n head dropped k xs some e g h high t = rw t (rw t at (led_dropped n head dropped k xs some e g h high))

pub led_dropped_first : (n head dropped k : ℕ) (xs : List ℕ) (some : Bool) → k + 1 ≡ length xs → AreGroups xs → HasLed n xs head dropped some → 10 ^ 27 ≤ head
    → some ≡ false → HasLed n (take k xs) head (dropped + 9) (not (get_or xs k 0 == 0))
led_dropped_first n head dropped k xs some e g h high t = rw t at (led_dropped n head dropped k xs some e g h high)

few_are_all : (n head dropped r : ℕ) → n ≡ 0 + 1 * (head * 10 ^ dropped + r) → dropped ≡ 0 → r ≡ 0 → n ≡ head
few_are_all n head dropped r e z q = let w : n ≡ 0 + 1 * (head * 10 ^ 0 + 0) = rw (z, q) at e in omega arith

pub led_all : (n head dropped : ℕ) (some : Bool) → HasLed n [] head dropped some → IsLeading (record { head = head; dropped = dropped; more = some }) n
led_all n head dropped some h = record {
  rest = h.rest;
  is = let e = h.is in omega arith;
  below = h.below;
  more = h.more;
  long = λ big. let no : ¬ (head < 10 ^ 27) = λ low. let e = few_are_all n head dropped h.rest h.is (h.all low) (no_digits h.rest dropped (h.all low) h.below) in omega arith in omega arith;
  short = h.short;
}
