use Rattle.std.proofs.Common.{arith, lit<}
use Rattle.ioc_double.proofs.LastDigits.{first_room, fraction_room}
use Rattle.ioc_double.proofs.Places.{ten_positive}
use Rattle.ioc_double.proofs.scientific.push_scientific.Goals as goal

pub nonzero_div-scientific : goal.nonzero_div-scientific
nonzero_div-scientific c = ten_positive c.pow.result c.from.result c.pow.ensures

pub push_fraction-requires : goal.push_fraction-requires
push_fraction-requires c = first_room _ _ _ c.args.digits c.push_digits.ensures c.requires.room c.requires.digits

pub push-requires : goal.push-requires
push-requires c =
    let r = fraction_room _ _ _ _ c.args.digits _ c.push_digits.ensures c.push_fraction.ensures.value c.requires.room c.requires.digits in
    (lit< tt, omega arith)

pub push_exponent-requires : goal.push_exponent-requires
push_exponent-requires c =
    let r = fraction_room _ _ _ _ c.args.digits _ c.push_digits.ensures c.push_fraction.ensures.value c.requires.room c.requires.digits in
    let l = c.push.ensures.len in
    omega arith
