-- The padding stays zero when a byte is appended.
use Rattle.std.proofs.Common.{◌≡◌, ◌<◌, ◌-◌, ◌+◌, List, ℕ, drop, set, replicate, ap, sym, ◌∙◌, arith}
use Rattle.std.proofs.lemmas.List.{drop-set-lt, drop-drop, drop-replicate}

pub padded_more : (cap n b : ℕ) (bs : List ℕ) → n < cap → drop n bs ≡ replicate (cap - n) 0 → drop (n + 1) (set bs n b) ≡ replicate (cap - (n + 1)) 0
padded_more cap n b bs h e =
    let k : cap - n - 1 ≡ cap - (n + 1) = omega arith in
    drop-set-lt (n + 1) bs n b (omega arith) ∙ sym (drop-drop 1 n bs) ∙ ap (drop 1) e ∙ drop-replicate 1 (cap - n) 0 ∙ ap (λ m. replicate m 0) k
