use Rattle.std.proofs.Common.{◌≡◌, ◌≢◌, ℕ, ◌<◌, get_or, drop, nat_eq}
use Rattle.std.specs.List.{list_any}
use Rattle.ioc_notify.specs.declared.live_numbers.Live.{Live}
use Rattle.ioc_notify.proofs.live_numbers.place_of.Given as goal

-- None of those so far has the number.
abbrev pub invariant-loop-place : goal.invariant-loop-place
invariant-loop-place l = record {
  before : (k : ℕ) (d : Live) → k < l.place → (get_or l.items k d).number ≢ l.number;
  left : list_any (λ v. nat_eq v.number l.number) l.items ≡ list_any (λ v. nat_eq v.number l.number) (drop l.place l.items);
}
