use Rattle.std.proofs.Common.{◌≡◌, ℕ, ◌*◌, ◌^◌, ◌≤◌, arith, subst, sym}
use Rattle.std.specs.Float.Ieee.Nearest.{closest}
use Rattle.std.specs.Float.Ieee.Positive.{num, den, den_pos}
use Rattle.ioc_double.proofs.Places.{far, near, with_places, places_bound, places_fit}
use Rattle.ioc_double.proofs.rounded.nearest_with_places.Goals as goal

pub overflow_sub-exact : goal.overflow_sub-exact
overflow_sub-exact c =
    let f = far c.exact_of-exact.result (num c.args.number) (den c.args.number) c.exact_of-exact.ensures (den_pos c.args.number) c.requires.large c.requires.small in
    omega arith

pub nearest-requires-clause-positive : goal.nearest-requires-clause-positive
nearest-requires-clause-positive c =
    let f = far c.exact_of-exact.result (num c.args.number) (den c.args.number) c.exact_of-exact.ensures (den_pos c.args.number) c.requires.large c.requires.small in
    omega arith

pub nearest-requires-clause-small : goal.nearest-requires-clause-small
nearest-requires-clause-small c =
    let n = near c.exact_of-exact.result (num c.args.number) (den c.args.number) c.exact_of-exact.ensures (den_pos c.args.number) c.requires.large c.requires.small in
    omega arith

value : (c : goal.After-nearest) → c.nearest.result ≡ closest (num c.args.number * 10 ^ c.args.places) (den c.args.number)
value c =
    with_places c.exact_of-exact.result (num c.args.number) (den c.args.number) c.exact_of-exact.ensures (den_pos c.args.number) c.requires.large c.requires.small c.args.places
    c.nearest.result c.from.result c.requires.places c.from.ensures (c.nearest.ensures c.exact_of-exact.ensures.whole c.exact_of-exact.ensures.leading)

bound : (c : goal.After-nearest) → c.nearest.result ≤ 10 ^ 16 * 10 ^ c.args.places
bound c =
    subst (λ (n : ℕ). n ≤ 10 ^ 16 * 10 ^ c.args.places) (sym (value c))
    (places_bound (num c.args.number) (den c.args.number) c.args.places (den_pos c.args.number) c.requires.small)

pub overflow_cast-result : goal.overflow_cast-result
overflow_cast-result c = record { fits = places_fit c.nearest.result c.args.places (bound c) c.requires.places }

pub returns-clause-value : goal.returns-clause-value
returns-clause-value c = value c

pub returns-clause-bound : goal.returns-clause-bound
returns-clause-bound c = bound c
