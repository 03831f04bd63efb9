-- The whole number nearest to a fraction, from a quotient and a rest.
use Prim.Native.Nat.{compare, Ordering}
use Rattle.std.proofs.Common.{◌≡◌, ℕ, suc, zero, ◌+◌, ◌*◌, ◌/◌, ◌%◌, ◌^◌, ◌<◌, ◌≤◌, ◌≢◌, true, false, not, T, inl, inr, refl, sym, ap, subst, ◌∙◌, arith, add-one}
use Rattle.std.proofs.lemmas.Nat.{div-mul-add, mod-mul-add, pow-add}
use Rattle.std.proofs.lemmas.Bool.{ltb-true, ltb-false}
use Rattle.std.proofs.Math.Nat.{mul-le-mul_right, pow-succ', mod-add-div'}
use Rattle.ioc_double.specs.declared.groups.Leading.{Leading}
use Rattle.ioc_double.specs.Leading.{IsLeading}
use Rattle.std.specs.Float.Ieee.Nearest.{closest}
use lib.Dec.{is_le, compare_is_eq, leb→le, nleb→lt, eqb→eq, eqb, eqb_refl}
use Rattle.ioc_double.specs.Nearest.{IsNearest}
use lib.Ieee.{nearest}

abbrev Says : Ordering → ℕ → ℕ → Type 0
Says Ordering.lt a b = a < b
Says Ordering.eq a b = a ≡ b
Says Ordering.gt a b = b < a

said : (a b : ℕ) → Says (compare a b) a b
said a b = go (compare a b) (leb→le a b) (nleb→lt a b) (eqb→eq a b) (λ (e : a ≡ b). subst (λ (x : ℕ). T (eqb a x)) e (eqb_refl a))
  where
    go : (o : Ordering) → (T (is_le o) → a ≤ b) → (T (not (is_le o)) → b < a) → (T (compare_is_eq o) → a ≡ b) → (a ≡ b → T (compare_is_eq o)) → Says o a b
    go Ordering.lt h k e n = let le = h tt in let ne : a ≢ b = n in omega arith
    go Ordering.eq h k e n = e tt
    go Ordering.gt h k e n = k tt

-- what a comparison answers
compares : (a b : ℕ) (o : Ordering) → Says o a b → compare a b ≡ o
compares a b o h = go (compare a b) o (said a b) h
  where
    go : (p o : Ordering) → Says p a b → Says o a b → p ≡ o
    go Ordering.lt Ordering.lt x y = refl
    go Ordering.lt Ordering.eq x y = absurd (omega arith)
    go Ordering.lt Ordering.gt x y = absurd (omega arith)
    go Ordering.eq Ordering.lt x y = absurd (omega arith)
    go Ordering.eq Ordering.eq x y = refl
    go Ordering.eq Ordering.gt x y = absurd (omega arith)
    go Ordering.gt Ordering.lt x y = absurd (omega arith)
    go Ordering.gt Ordering.eq x y = absurd (omega arith)
    go Ordering.gt Ordering.gt x y = refl

closest_of : (n d q r : ℕ) (o : Ordering) → n ≡ q * d + r → r < d → Says o (r * 2) d → closest n d ≡ nearest q o
closest_of n d q r o e h s = rw (e, div-mul-add q d r h, mod-mul-add q d r h, compares (r * 2) d o s) refl

-- The rest is below a half, above it, or a half.
pub closest_down : (n d q r : ℕ) → n ≡ q * d + r → r * 2 < d → closest n d ≡ q
closest_down n d q r e h = closest_of n d q r Ordering.lt e (omega arith) h

pub closest_up : (n d q r : ℕ) → n ≡ q * d + r → r < d → d < r * 2 → closest n d ≡ q + 1
closest_up n d q r e h k = closest_of n d q r Ordering.gt e h k ∙ sym (add-one q)

pub closest_tie : (n d q r : ℕ) → n ≡ q * d + r → 0 < d → r * 2 ≡ d → closest n d ≡ q + q % 2
closest_tie n d q r e h k = closest_of n d q r Ordering.eq e (omega arith) k

-- n is head * d and a rest below d, and head is q * tens and r.
same_number : (n head d rest q tens r : ℕ) → n ≡ head * d + rest → head ≡ q * tens + r → n ≡ q * (d * tens) + (r * d + rest)
same_number n head d rest q tens r e k = let z : head * d ≡ (q * tens + r) * d = ap (λ (x : ℕ). x * d) k in omega arith

below_half : (d rest tens r : ℕ) → rest < d → r * 2 < tens → tens % 2 ≡ 0 → (r * d + rest) * 2 < d * tens
below_half d rest tens r h k e = let half : r + 1 ≤ tens / 2 = omega arith in let m = mul-le-mul_right d half in let t : tens * d ≡ 2 * (tens / 2) * d = ap (λ (x : ℕ). x * d) (omega arith) in omega arith

above_half : (d rest tens r : ℕ) → rest < d → tens < r * 2 → tens % 2 ≡ 0 → d * tens < (r * d + rest) * 2
above_half d rest tens r h k e = let half : tens / 2 + 1 ≤ r = omega arith in let m = mul-le-mul_right d half in let t : tens * d ≡ 2 * (tens / 2) * d = ap (λ (x : ℕ). x * d) (omega arith) in omega arith

past_half : (d rest tens r : ℕ) → 0 < rest → tens / 2 ≤ r → tens % 2 ≡ 0 → d * tens < (r * d + rest) * 2
past_half d rest tens r h k e = let m = mul-le-mul_right d k in let t : tens * d ≡ 2 * (tens / 2) * d = ap (λ (x : ℕ). x * d) (omega arith) in omega arith

at_half : (d tens r : ℕ) → tens ≡ r * 2 → (r * d + 0) * 2 ≡ d * tens
at_half d tens r e = rw e (omega arith)

within : (d rest tens r : ℕ) → rest < d → r < tens → r * d + rest < d * tens
within d rest tens r h k = let a : r + 1 ≤ tens = omega arith in let m = mul-le-mul_right d a in omega arith

-- Ten to a power above 0 is even.
even_tens : (p : ℕ) → 0 < p → 10 ^ p % 2 ≡ 0
even_tens zero h = absurd (omega arith)
even_tens (suc p) h = rw (pow-succ' 10 p) (omega arith)

module _ (l : Leading) (n p q r : ℕ) (leads : IsLeading l n) (positive : 0 < p) (is : l.head ≡ q * 10 ^ p + r) (small : r < 10 ^ p) where
  whole : n ≡ q * 10 ^ (l.dropped + p) + (r * 10 ^ l.dropped + leads.rest)
  whole = rw (pow-add 10 l.dropped p) (same_number n l.head (10 ^ l.dropped) leads.rest q (10 ^ p) r leads.is is)

  even : 10 ^ p % 2 ≡ 0
  even = even_tens p positive

  below : r * 10 ^ l.dropped + leads.rest < 10 ^ (l.dropped + p)
  below = rw (pow-add 10 l.dropped p) (within (10 ^ l.dropped) leads.rest (10 ^ p) r leads.below small)

  pub nearest_down : r < 10 ^ p / 2 → q ≡ closest n (10 ^ (l.dropped + p))
  nearest_down h =
      sym (closest_down n (10 ^ (l.dropped + p)) q (r * 10 ^ l.dropped + leads.rest) whole
      (rw (pow-add 10 l.dropped p) (below_half (10 ^ l.dropped) leads.rest (10 ^ p) r leads.below (omega arith) even)))

  up : 10 ^ l.dropped * 10 ^ p < (r * 10 ^ l.dropped + leads.rest) * 2 → q + 1 ≡ closest n (10 ^ (l.dropped + p))
  up h = sym (closest_up n (10 ^ (l.dropped + p)) q (r * 10 ^ l.dropped + leads.rest) whole below (rw (pow-add 10 l.dropped p) h))

  pub nearest_up : 10 ^ p / 2 < r → q + 1 ≡ closest n (10 ^ (l.dropped + p))
  nearest_up h = let e = even in up (above_half (10 ^ l.dropped) leads.rest (10 ^ p) r leads.below (omega arith) e)

  pub nearest_up_more : 10 ^ p / 2 ≤ r → l.more ≡ true → q + 1 ≡ closest n (10 ^ (l.dropped + p))
  nearest_up_more h m = up (past_half (10 ^ l.dropped) leads.rest (10 ^ p) r (ltb-true 0 leads.rest (sym leads.more ∙ m)) h even)

  pub nearest_tie : 10 ^ p / 2 ≡ r → l.more ≡ false → q + q % 2 ≡ closest n (10 ^ (l.dropped + p))
  nearest_tie h m =
      let z : leads.rest ≡ 0 = let k = ltb-false 0 leads.rest (sym leads.more ∙ m) in omega arith in
      let b = below in
      let e = even in
      sym (closest_tie n (10 ^ (l.dropped + p)) q (r * 10 ^ l.dropped + leads.rest) whole (omega arith)
      (rw (pow-add 10 l.dropped p, z) (at_half (10 ^ l.dropped) (10 ^ p) r (omega arith))))

-- The closest whole number is the nearest one.
down_nearest : (a b q r : ℕ) → 0 < b → a ≡ q * b + r → r * 2 < b → IsNearest q a b
down_nearest a b q r p e h = record { below = omega arith; above = omega arith; even = λ t. absurd (elim t [ inl x ↦ omega arith | inr x ↦ omega arith ]) }

up_nearest : (a b q r : ℕ) → r < b → a ≡ q * b + r → b < r * 2 → IsNearest (q + 1) a b
up_nearest a b q r p e h = record { below = omega arith; above = omega arith; even = λ t. absurd (elim t [ inl x ↦ omega arith | inr x ↦ omega arith ]) }

tie_even : (a b q r : ℕ) → 0 < b → a ≡ q * b + r → r * 2 ≡ b → q % 2 ≡ 0 → IsNearest q a b
tie_even a b q r p e h z = record { below = omega arith; above = omega arith; even = λ t. z }

tie_odd : (a b q r : ℕ) → 0 < b → a ≡ q * b + r → r * 2 ≡ b → q % 2 ≡ 1 → IsNearest (q + 1) a b
tie_odd a b q r p e h z = record { below = omega arith; above = omega arith; even = λ t. omega arith }

pub closest_nearest : (a b : ℕ) → 0 < b → IsNearest (closest a b) a b
closest_nearest a b p = go (compare (a % b * 2) b) (said (a % b * 2) b) (let e = mod-add-div' a b in omega arith) (omega arith)
  where
    tie : (k : ℕ) → a / b % 2 ≡ k → k < 2 → a ≡ a / b * b + a % b → a % b * 2 ≡ b → IsNearest (a / b + k) a b
    tie zero z l e h = subst (λ (n : ℕ). IsNearest n a b) (omega arith) (tie_even a b (a / b) (a % b) p e h z)
    tie (suc zero) z l e h = tie_odd a b (a / b) (a % b) p e h z
    tie (suc (suc k)) z l e h = absurd (omega arith)

    go : (o : Ordering) → Says o (a % b * 2) b → a ≡ a / b * b + a % b → a % b < b → IsNearest (nearest (a / b) o) a b
    go Ordering.lt s e l = down_nearest a b (a / b) (a % b) p e s
    go Ordering.eq s e l = tie (a / b % 2) refl (omega arith) e s
    go Ordering.gt s e l = subst (λ (n : ℕ). IsNearest n a b) (add-one (a / b)) (up_nearest a b (a / b) (a % b) l e s)
