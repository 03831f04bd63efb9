use Rattle.ioc_main.proofs.WrittenLemmas.{keeps_back}
use Rattle.ioc_main.proofs.lines.make_room.Goals as goal

pub returns-then-has_room-clause-ok : goal.returns-then-has_room-clause-ok
returns-then-has_room-clause-ok g c = λ _. keeps_back _ _ _ (c.has_room.ensures.0 c.if-has_room.true).1
