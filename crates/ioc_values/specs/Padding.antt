-- Bytes padded with zeros.
use Rattle.std.specs.Prelude.{◌≡◌, ◌≤◌, ◌-◌, ◌++◌, List, ℕ, length, take, drop, replicate}
use Rattle.std.proofs.Common.{take-append-drop, length-take-le, ap, sym, ◌∙◌}

pub padded_again : (cap n : ℕ) (bs : List ℕ) → n ≤ length bs → drop n bs ≡ replicate (cap - n) 0 → take n bs ++ replicate (cap - length (take n bs)) 0 ≡ bs
padded_again cap n bs h e =
    ap (λ k. take n bs ++ replicate (cap - k) 0) (length-take-le n bs h) ∙ ap (λ (l : List ℕ). take n bs ++ l) (sym e) ∙ take-append-drop n bs
