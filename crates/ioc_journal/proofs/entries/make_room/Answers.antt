use Rattle.std.proofs.Common.{◌≡◌, length, arith, sym, ◌∙◌}
use Rattle.ioc_journal.proofs.Pieces.{more_pieces, turned_pieces}
use Rattle.ioc_journal.proofs.entries.make_room.Goals as goal

pub turn-requires-clause-full : goal.turn-requires-clause-full
turn-requires-clause-full c =
    let whole : length c.args.current.now.items ≡ 256 = sym c.args.current.now.ok.0 ∙ (sym c.len.ensures ∙ c.if-len-eq-PIECE.true) in
    let more = (more_pieces c.args.full.now c.args.spare.now c.args.current.now c.args.given c.args.limit c.requires.pieces whole c.requires.more).0 in
    let len = c.args.full.now.ok.0 in
    omega (arith, more, len)

pub turn-requires-clause-spare : goal.turn-requires-clause-spare
turn-requires-clause-spare c =
    let whole : length c.args.current.now.items ≡ 256 = sym c.args.current.now.ok.0 ∙ (sym c.len.ensures ∙ c.if-len-eq-PIECE.true) in
    let more = (more_pieces c.args.full.now c.args.spare.now c.args.current.now c.args.given c.args.limit c.requires.pieces whole c.requires.more).1 in
    let len = c.args.spare.now.ok.0 in
    omega (arith, more, len)

pub returns-then-len-eq-PIECE-clause-pieces : goal.returns-then-len-eq-PIECE-clause-pieces
returns-then-len-eq-PIECE-clause-pieces c =
    let whole : length c.args.current.now.items ≡ 256 = sym c.args.current.now.ok.0 ∙ (sym c.len.ensures ∙ c.if-len-eq-PIECE.true) in
    turned_pieces c.args.full.now c.args.spare.now c.args.current.now c.args.given c.args.limit c.requires.pieces c.turn.new.full c.turn.new.spare c.turn.new.current whole c.turn.ensures.full c.turn.ensures.spare c.turn.ensures.room.0 c.turn.ensures.room.1
