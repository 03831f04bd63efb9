-- Doubles of 64 bits are the same exactly where their bits are.
use Rattle.std.proofs.Common.{◌≡◌, ◌==◌, ℕ, T, sym, ap, ◌∙◌}
use Rattle.std.specs.Bool.{one_answer}
use Rattle.std.specs.Cmp.{unsigned_Decides}
use Rattle.std.specs.Float.Ieee.{Float, binary64, fits, to_bits, of_bits}
use Rattle.std.specs.Float.Ieee.Bits.{of_bits-to_bits}
use Rattle.ioc_double.specs.Same.{same}
use Rattle.ioc_double.specs.SameLaws.{same_decides}

value_of_bits : (x y : Float) → T (fits binary64 x) → T (fits binary64 y) → to_bits binary64 x ≡ to_bits binary64 y → x ≡ y
value_of_bits x y f g e = sym (of_bits-to_bits binary64 x f) ∙ ap (λ (b : ℕ). of_bits binary64 b) e ∙ of_bits-to_bits binary64 y g

pub same_bits : (x y : Float) → T (fits binary64 x) → T (fits binary64 y) → (to_bits binary64 x == to_bits binary64 y) ≡ same x y
same_bits x y f g =
    let bits = unsigned_Decides (to_bits binary64 x) (to_bits binary64 y) in
    let one = same_decides x y in
    one_answer (to_bits binary64 x == to_bits binary64 y) (same x y) bits
    (λ e. ap (λ (v : Float). to_bits binary64 v) (one.0 e), λ e. one.1 (value_of_bits x y f g e))

pub same_by_bits : (x y a b : Float) (p q : ℕ) → T (fits binary64 x) → T (fits binary64 y) → x ≡ a → y ≡ b → p ≡ to_bits binary64 x → q ≡ to_bits binary64 y → (p == q) ≡ same a b
same_by_bits x y a b p q f g xa yb px qy = rw (px, qy, sym xa, sym yb) (same_bits x y f g)
