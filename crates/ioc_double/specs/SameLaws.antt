-- The test of two doubles decides whether they are one value.
use Rattle.std.proofs.Common.{◌≡◌, Bool, true, false, ◌&&◌, ◌==◌, ℕ, ℤ, refl, ap}
use Rattle.std.specs.Bool.{Decides}
use Rattle.std.specs.Ordering.{int_eq}
use Rattle.std.specs.Cmp.{IsEquivalence, decided, booleans_Decides, signed_Decides, unsigned_Decides}
use Rattle.std.specs.Float.Ieee.{Float, nan, inf, fin}
use Rattle.ioc_double.specs.Same.{same}
use mathlib.Core.Bool.{beq}

parts : (s t : Bool) (m n : ℕ) (e d : ℤ) → beq s t ≡ true → (m == n) ≡ true → int_eq e d ≡ true → fin s m e ≡ fin t n d
parts s t m n e d a b c = rw ((booleans_Decides s t).0 a, (unsigned_Decides m n).0 b, (signed_Decides e d).0 c) refl

all_true : (a b c : Bool) → (a && (b && c)) ≡ true → (a ≡ true) × (b ≡ true) × (c ≡ true)
all_true true true true h = (refl, refl, refl)
all_true true true false h = absurd cc
all_true true false c h = absurd cc
all_true false b c h = absurd cc

itself : (x : Float) → same x x ≡ true
unfolding same
itself nan = refl
itself (inf s) = (booleans_Decides s s).1 refl
itself (fin s m e) = rw ((booleans_Decides s s).1 refl, (unsigned_Decides m m).1 refl, (signed_Decides e e).1 refl) refl

one_value : (x y : Float) → same x y ≡ true → x ≡ y
unfolding same
one_value nan nan h = refl
one_value nan (inf t) h = absurd cc
one_value nan (fin t n d) h = absurd cc
one_value (inf s) nan h = absurd cc
one_value (inf s) (inf t) h = ap inf ((booleans_Decides s t).0 h)
one_value (inf s) (fin t n d) h = absurd cc
one_value (fin s m e) nan h = absurd cc
one_value (fin s m e) (inf t) h = absurd cc
one_value (fin s m e) (fin t n d) h = let p = all_true (beq s t) (m == n) (int_eq e d) h in parts s t m n e d p.0 p.1 p.2

-- Two doubles are the same exactly where they are one value.
pub same_decides : (x y : Float) → Decides (same x y) (x ≡ y)
same_decides x y = (one_value x y, λ e. rw e (itself y))

pub same_equivalence : IsEquivalence same
same_equivalence = decided same same_decides
