-- The nodes 0, 1, 2 and so on.
use Rattle.std.proofs.Common.{◌≡◌, ℕ, ◌<◌, length, get_or, sym, ◌∙◌, arith}
use Rattle.std.proofs.lemmas.List.FromFn.{length-range_with_len, get_or-range_with_len}
use Rattle.ioc_graph.specs.Parts.{all_below}

pub count_of : (n : ℕ) → length (all_below n) ≡ n
count_of n = length-range_with_len 0 n

pub itself : (n i : ℕ) → i < n → get_or (all_below n) i 0 ≡ i
itself n i l = let e = get_or-range_with_len 0 n i 0 l in omega arith

pub apart_below : (n i j : ℕ) → i < length (all_below n) → j < length (all_below n) → get_or (all_below n) i 0 ≡ get_or (all_below n) j 0 → i ≡ j
apart_below n i j li lj e = let c = count_of n in sym (itself n i (omega arith)) ∙ e ∙ itself n j (omega arith)
