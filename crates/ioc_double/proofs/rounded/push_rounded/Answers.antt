use Rattle.std.proofs.Common.{◌≡◌, ℕ, ◌+◌, ◌/◌, ◌^◌, ◌≤◌, ◌++◌, List, length, arith, ap, ◌∙◌, length-append}
use Rattle.std.specs.Fmt.{decimal}
use Rattle.ioc_double.proofs.Places.{whole_fits, ten_positive}
use Rattle.ioc_double.proofs.rounded.push_rounded.Goals as goal

pub nonzero_div-rounded : goal.nonzero_div-rounded
nonzero_div-rounded c = ten_positive c.pow.result c.from.result c.pow.ensures

short : (c : goal.After-pow) → length (decimal (c.nearest_with_places-rounded.result / c.pow.result)) ≤ 17
short c =
    whole_fits c.nearest_with_places-rounded.result c.min-places.result c.pow.result c.nearest_with_places-rounded.ensures.bound
    (c.pow.ensures ∙ ap (λ (k : ℕ). 10 ^ k) c.from.ensures)

room : (xs ys zs : List ℕ) (k : ℕ) → ys ≡ xs ++ zs → length xs ≤ 1 → length zs ≤ 17 → k ≤ 3 → length ys + k + 1 ≤ 23
room xs ys zs k e h i few = rw (e, length-append xs zs) (omega arith)

pub push_decimal-requires : goal.push_decimal-requires
push_decimal-requires c = let s = short c in omega arith

pub push_fraction-requires : goal.push_fraction-requires
push_fraction-requires c =
    room _ _ _ c.min-places.result c.push_decimal.ensures c.requires.room
    (whole_fits c.nearest_with_places-rounded.result c.min-places.result c.pow.result c.nearest_with_places-rounded.ensures.bound
    (c.pow.ensures ∙ ap (λ (k : ℕ). 10 ^ k) c.from.ensures))
    (omega arith)

pub returns-clause-short : goal.returns-clause-short
returns-clause-short c =
    let r = room _ _ _ c.min-places.result c.push_decimal.ensures c.requires.room
    (whole_fits c.nearest_with_places-rounded.result c.min-places.result c.pow.result c.nearest_with_places-rounded.ensures.bound
    (c.pow.ensures ∙ ap (λ (k : ℕ). 10 ^ k) c.from.ensures))
    (omega arith) in
    let s = c.push_fraction.ensures.short in
    omega arith
