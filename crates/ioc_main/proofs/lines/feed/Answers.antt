use Rattle.std.proofs.Common.{◌++◌}
use Rattle.std.proofs.lemmas.Result.{err_from_is_err_and}
use Rattle.ioc_main.specs.Coming.{still, to_come}
use Rattle.ioc_main.proofs.Feeding.{piece_written, piece_fails}
use Rattle.ioc_main.proofs.lines.feed.Goals as goal

pub returns-clause-ok : goal.returns-clause-ok
returns-clause-ok g c = λ told rest. let kept = c.answer_lines.ensures.determined told in rw (c.write_said.ensures.same kept) (piece_written (g.S.Session.transcript c.answer_lines.new.session) (g.W.Write.contents c.args.out.now) (g.W.Write.contents c.answer_lines.new.out) (g.W.Write.contents c.write_said.new.out) (to_come (still c.args.said.now.replies (g.S.Session.transcript c.args.session.now)) c.args.line.now (c.args.piece.now ++ rest)) c.answer_lines.new.said.replies c.answer_lines.new.said.more.items c.answer_lines.new.line rest c.in_ok-answer_lines.ensures.none c.write_said.new.said.replies c.in_ok-write_said.ensures.empty (c.in_ok-answer_lines.ensures.ok told rest) (c.in_ok-write_said.ensures.ok kept))

pub returns-in_err-write_said-clause-err : goal.returns-in_err-write_said-clause-err
returns-in_err-write_said-clause-err g c =
    let p = err_from_is_err_and c.from_residual-in_err-write_said.result c.from_residual-in_err-write_said.ensures.1 in
    rw (p.1, p.2) (λ told rest. piece_fails (g.S.Session.transcript c.answer_lines.new.session) (g.W.Write.contents c.args.out.now) (g.W.Write.contents c.answer_lines.new.out) (g.W.Write.contents c.write_said.new.out) (to_come (still c.args.said.now.replies (g.S.Session.transcript c.args.session.now)) c.args.line.now (c.args.piece.now ++ rest)) c.answer_lines.new.said.replies c.answer_lines.new.said.more.items c.answer_lines.new.line rest c.in_ok-answer_lines.ensures.none (c.in_ok-answer_lines.ensures.ok told rest) (c.in_err-write_said.ensures.err (c.answer_lines.ensures.determined told)))
