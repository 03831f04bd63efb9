use Rattle.std.proofs.Common.{lit<}
use Rattle.ioc_double.proofs.LastDigits.{digits_none, digits_next, digits_room}
use Rattle.ioc_double.proofs.pieces.+push_digits.Goals as goal

pub push-requires : goal.push-requires
push-requires t c = (lit< tt, digits_room _ _ c.args.count c.args.number c.if-count-ne0.true c.push_digits.ensures c.requires)

pub returns-then-count-ne0 : goal.returns-then-count-ne0
returns-then-count-ne0 t c = digits_next _ _ _ c.args.count c.args.number c.if-count-ne0.true c.push_digits.ensures c.push.ensures.items

pub returns-else-count-ne0 : goal.returns-else-count-ne0
returns-else-count-ne0 t c = digits_none _ c.args.count c.args.number c.if-count-ne0.false
