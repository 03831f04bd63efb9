use Rattle.std.proofs.Common.{◌≡◌, ℕ, List, [], subst}
use Rattle.std.proofs.lemmas.Result.{err_from_is_err_and, on_ok_weaker}
use Rattle.ioc_main.specs.Written.{Writes, StopsLine}
use Rattle.ioc_main.specs.Coming.{still}
use Rattle.ioc_main.proofs.Feeding.{came_whole, came_in_pieces, still_cuts}
use Rattle.ioc_main.proofs.lines.end_line.Goals as goal

pub returns-then-is_empty-clause-ok : goal.returns-then-is_empty-clause-ok
returns-then-is_empty-clause-ok g c =
    let none : c.args.line.now ≡ [] = c.is_empty.ensures.0 c.if-is_empty.true in
    λ told. on_ok_weaker c.say.result (λ p. (came_whole (still c.args.said.now.replies (g.S.Session.transcript c.args.session.now)) (still c.say.new.said.replies (g.S.Session.transcript c.say.new.session)) _ _ c.args.line.now c.args.last.now none p).1) (c.say.ensures.ok told)

pub returns-in_err-say-clause-err : goal.returns-in_err-say-clause-err
returns-in_err-say-clause-err g c =
    let p = err_from_is_err_and c.from_residual.result c.from_residual.ensures.1 in
    rw (p.1, p.2) (λ told lines. subst (λ (l : List ℕ). StopsLine c.in_err-say.field-0.0 (g.W.Write.contents c.args.out.now) l (g.W.Write.contents c.say-2.new.out)) (came_in_pieces (still c.args.said.now.replies (g.S.Session.transcript c.args.session.now)) (still_cuts c.args.said.now.replies (g.S.Session.transcript c.args.session.now) (g.met.S.Session.long_lines c.args.session.now)) c.args.line.now c.args.last.now c.extend_cut.new.self c.as_slice.result.now c.extend_cut.ensures c.as_slice.ensures.value lines) (c.in_err-say.ensures.err told lines))

pub returns-clause-ok : goal.returns-clause-ok
returns-clause-ok g c =
    λ told lines. subst (λ (l : List ℕ). Writes (g.W.Write.contents c.args.out.now) l (g.W.Write.contents c.say-2.new.out) (still c.say-2.new.said.replies (g.S.Session.transcript c.say-2.new.session) lines)) (came_in_pieces (still c.args.said.now.replies (g.S.Session.transcript c.args.session.now)) (still_cuts c.args.said.now.replies (g.S.Session.transcript c.args.session.now) (g.met.S.Session.long_lines c.args.session.now)) c.args.line.now c.args.last.now c.extend_cut.new.self c.as_slice.result.now c.extend_cut.ensures c.as_slice.ensures.value lines) (c.in_ok-say.ensures.ok told lines)
