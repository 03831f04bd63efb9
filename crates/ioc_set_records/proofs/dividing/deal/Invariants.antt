use Rattle.std.proofs.Common.{◌≡◌, ◌+◌, ◌≤◌, ◌++◌, length, drop, vec_len}
use Rattle.std.specs.Prelude.{◌==◌, filter, not, vec_capacity}
use Rattle.std.specs.Vec.Iter.{into_iter_items}
use Rattle.ioc_set_records.specs.Dealt.{dealt}
use Rattle.ioc_set_records.proofs.dividing.deal.Given as goal

-- The remaining slots are divided as in the whole list.
abbrev pub invariant-loop-n : goal.invariant-loop-n
invariant-loop-n g l =
    let left = into_iter_items l.left in
    record {
      in_step : length left + l.n-index ≡ length l.numbers;
      stays : l.stay.items ++ dealt (λ n. n == l.number) (drop l.n-index l.numbers) left ≡ dealt (λ n. n == l.number) l.numbers l.fn.slots.items;
      stay_room : vec_len l.stay + length (filter (λ n. n == l.number) (drop l.n-index l.numbers)) ≤ vec_capacity l.stay;
      leaves : l.rest.items ++ dealt (λ n. not (n == l.number)) (drop l.n-index l.numbers) left ≡ dealt (λ n. not (n == l.number)) l.numbers l.fn.slots.items;
      rest_room : vec_len l.rest + length (filter (λ n. not (n == l.number)) (drop l.n-index l.numbers)) ≤ vec_capacity l.rest;
    }
