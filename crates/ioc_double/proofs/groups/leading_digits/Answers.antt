use Rattle.std.proofs.Common.{ℕ, ◌+◌, ◌-◌, ◌*◌, ◌≤◌, List, length, take, arith}
use Rattle.std.proofs.lemmas.List.{length-take-le}
use Rattle.ioc_double.proofs.Values.{groups_take}
use Rattle.ioc_double.proofs.LeadingOf.{led_more, led_dropped_more, led_dropped_first}
use Rattle.ioc_double.proofs.groups.leading_digits.Goals as goal

shorter : (xs : List ℕ) (d : ℕ) → 1 ≤ length xs → d + 9 * length xs ≤ 810 → d + 9 + 9 * length (take (length xs - 1) xs) ≤ 810
shorter xs d h k = rw (length-take-le (length xs - 1) xs (omega arith)) (omega arith)

shorter_still : (xs : List ℕ) (d : ℕ) → 1 ≤ length xs → d + 9 * length xs ≤ 810 → d + 9 * length (take (length xs - 1) xs) ≤ 810
shorter_still xs d h k = let z = shorter xs d h k in omega arith

pub loop-rest-preserved-then-head-lt-ENOUGH : goal.loop-rest-preserved-then-head-lt-ENOUGH
loop-rest-preserved-then-head-lt-ENOUGH c =
    let xs = c.loop-rest.rest.now in
    let k = length xs - 1 in
    record {
      groups = groups_take xs k c.loop-rest.invariant.groups;
      led = rw c.from.ensures (led_more _ c.loop-rest.head c.loop-rest.dropped k xs c.loop-rest.more (omega arith) c.loop-rest.invariant.groups c.loop-rest.invariant.led c.if-head-lt-ENOUGH.true);
      count = shorter_still xs c.loop-rest.dropped c.in-len1-up.len_at_least c.loop-rest.invariant.count;
    }

pub loop-rest-preserved-then-more : goal.loop-rest-preserved-then-more
loop-rest-preserved-then-more c =
    let xs = c.loop-rest.rest.now in
    let k = length xs - 1 in
    record {
      groups = groups_take xs k c.loop-rest.invariant.groups;
      led = led_dropped_more _ c.loop-rest.head c.loop-rest.dropped k xs c.loop-rest.more (omega arith) c.loop-rest.invariant.groups c.loop-rest.invariant.led c.if-head-lt-ENOUGH.false c.if-more.true;
      count = shorter xs c.loop-rest.dropped c.in-len1-up.len_at_least c.loop-rest.invariant.count;
    }

pub loop-rest-preserved : goal.loop-rest-preserved
loop-rest-preserved c =
    let xs = c.loop-rest.rest.now in
    let k = length xs - 1 in
    record {
      groups = groups_take xs k c.loop-rest.invariant.groups;
      led = led_dropped_first _ c.loop-rest.head c.loop-rest.dropped k xs c.loop-rest.more (omega arith) c.loop-rest.invariant.groups c.loop-rest.invariant.led c.if-head-lt-ENOUGH.false c.if-more.false;
      count = shorter xs c.loop-rest.dropped c.in-len1-up.len_at_least c.loop-rest.invariant.count;
    }
