use Rattle.std.proofs.Common.{◌≡◌, ◌+◌, ◌<◌, ◌∷◌, length, get_or, ap, ◌∙◌, arith}
use Rattle.std.specs.Prelude.{◌==◌, not, vec_len, vec_capacity}
use Rattle.std.specs.Vec.Iter.{into_iter_items}
use Rattle.ioc_set_records.proofs.MapLaws.{same_number, other_number}
use Rattle.ioc_set_records.proofs.DealtLaws.{side_in, side_by, count_in}
use Rattle.ioc_set_records.proofs.dividing.deal.Goals as goal
use Rattle.ioc_set_records.proofs.dividing.deal.Goals.{then-n-number, else-n-number}

pub loop-n-preserved : goal.loop-n-preserved
loop-n-preserved g c =
    let number = c.args.number in
    let ns = c.args.numbers.now in
    let i = c.loop-n.n-index in
    let left = into_iter_items c.loop-n.left in
    let after = into_iter_items c.next.new.self in
    let s = c.in-Some.slot in
    let l : i < length ns = omega arith in
    let is : left ≡ s ∷ after = c.in-Some.ensures.items in
    let len : length left ≡ length after + 1 = ap length is ∙ omega arith in
    elim c.if-n-number.branch [
      | then-n-number w ↦
          let e = same_number (get_or ns i 0) number w.if-n-number.true in
          let stay = side_in (λ n. n == number) _ c.loop-n.stay.items c.if-n-number.stay.items ns i left after s (vec_len c.loop-n.stay) (vec_capacity c.loop-n.stay) (vec_len c.if-n-number.stay) (vec_capacity c.if-n-number.stay) l is e
          c.loop-n.invariant.stays c.loop-n.invariant.stay_room (ap (λ z. z.items) w.stay-is ∙ w.push_reserved.ensures.items) (ap (λ z. vec_len z) w.stay-is ∙ w.push_reserved.ensures.len) (ap (λ z. vec_capacity z) w.stay-is ∙ w.push_reserved.ensures.capacity) in
          let rest = side_by (λ n. not (n == number)) _ c.loop-n.rest.items c.if-n-number.rest.items ns i left after s (vec_len c.loop-n.rest) (vec_capacity c.loop-n.rest) (vec_len c.if-n-number.rest) (vec_capacity c.if-n-number.rest) l is (ap not e)
          c.loop-n.invariant.leaves c.loop-n.invariant.rest_room (ap (λ z. z.items) w.rest-is) (ap (λ z. vec_len z) w.rest-is) (ap (λ z. vec_capacity z) w.rest-is) in
          record { in_step = let h = c.loop-n.invariant.in_step in omega arith; stays = stay.0; stay_room = stay.1; leaves = rest.0; rest_room = rest.1 }
      | else-n-number w ↦
          let e = other_number (get_or ns i 0) number w.if-n-number.false in
          let stay = side_by (λ n. n == number) _ c.loop-n.stay.items c.if-n-number.stay.items ns i left after s (vec_len c.loop-n.stay) (vec_capacity c.loop-n.stay) (vec_len c.if-n-number.stay) (vec_capacity c.if-n-number.stay) l is e
          c.loop-n.invariant.stays c.loop-n.invariant.stay_room (ap (λ z. z.items) w.stay-is) (ap (λ z. vec_len z) w.stay-is) (ap (λ z. vec_capacity z) w.stay-is) in
          let rest = side_in (λ n. not (n == number)) _ c.loop-n.rest.items c.if-n-number.rest.items ns i left after s (vec_len c.loop-n.rest) (vec_capacity c.loop-n.rest) (vec_len c.if-n-number.rest) (vec_capacity c.if-n-number.rest) l is (ap not e)
          c.loop-n.invariant.leaves c.loop-n.invariant.rest_room (ap (λ z. z.items) w.rest-is ∙ w.push_reserved-else-n-number.ensures.items) (ap (λ z. vec_len z) w.rest-is ∙ w.push_reserved-else-n-number.ensures.len) (ap (λ z. vec_capacity z) w.rest-is ∙ w.push_reserved-else-n-number.ensures.capacity) in
          record { in_step = let h = c.loop-n.invariant.in_step in omega arith; stays = stay.0; stay_room = stay.1; leaves = rest.0; rest_room = rest.1 }
    ]

pub push_reserved-requires : goal.push_reserved-requires
push_reserved-requires g c =
    let number = c.args.number in
    let ns = c.args.numbers.now in
    let i = c.loop-n.n-index in
    let l : i < length ns = omega arith in
    let room = c.loop-n.invariant.stay_room in
    let k = count_in (λ n. n == number) ns i l (same_number (get_or ns i 0) number c.if-n-number.true) in omega arith

pub push_reserved-requires-else-n-number : goal.push_reserved-requires-else-n-number
push_reserved-requires-else-n-number g c =
    let number = c.args.number in
    let ns = c.args.numbers.now in
    let i = c.loop-n.n-index in
    let l : i < length ns = omega arith in
    let room = c.loop-n.invariant.rest_room in
    let k = count_in (λ n. not (n == number)) ns i l (ap not (other_number (get_or ns i 0) number c.if-n-number.false)) in omega arith
