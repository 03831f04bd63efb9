use Rattle.std.proofs.Common.{◌≡◌, ℕ, List, [], ◌++◌, Some, None, sym, ap, subst, ◌∙◌}
use Rattle.std.specs.Prelude.{option_map}
use Rattle.std.proofs.lemmas.Result.{err_from_is_err_and}
use Rattle.ioc_commands.specs.Commands.{behind}
use Rattle.ioc_main.specs.Coming.{still, to_come}
use Rattle.ioc_main.specs.Written.{Writes}
use Rattle.ioc_main.proofs.Cutting.{behind-shorter, none-left, none-there, all-before}
use Rattle.ioc_main.proofs.Feeding.{line_ends, line_fails, kept_on, feed_step, feed_fails, still_cuts}
use Rattle.ioc_main.proofs.lines.answer_lines.Goals as goal

pub returns-in_default-clause-ok : goal.returns-in_default-clause-ok
returns-in_default-clause-ok g c =
    let none : behind 10 c.loop-rest.rest.now ≡ None = sym c.cut_at.ensures.back ∙ none-there c.cut_at.result.1 c.in_default.not-Some in
    let all : c.cut_at.result.0.now ≡ c.loop-rest.rest.now = c.cut_at.ensures.front ∙ all-before 10 c.loop-rest.rest.now none in
    λ told tail. feed_step (g.W.Write.contents c.args.out.now) (g.W.Write.contents c.loop-rest.out) (g.W.Write.contents c.loop-rest.out) (to_come (still c.args.said.now.replies (g.S.Session.transcript c.args.session.now)) c.args.line.now (c.args.piece.now ++ tail)) (to_come (still c.loop-rest.said.replies (g.S.Session.transcript c.loop-rest.session)) c.loop-rest.line (c.loop-rest.rest.now ++ tail)) (to_come (still c.loop-rest.said.replies (g.S.Session.transcript c.loop-rest.session)) c.extend_cut.new.self tail)
    (kept_on (still c.loop-rest.said.replies (g.S.Session.transcript c.loop-rest.session)) (still_cuts c.loop-rest.said.replies (g.S.Session.transcript c.loop-rest.session) (g.met.S.Session.long_lines c.loop-rest.session)) (g.W.Write.contents c.loop-rest.out) c.loop-rest.line c.loop-rest.rest.now c.extend_cut.new.self c.cut_at.result.0.now none all c.extend_cut.ensures tail)
    (c.loop-rest.invariant.3 told tail)

pub returns-in_err-end_line-clause-err : goal.returns-in_err-end_line-clause-err
returns-in_err-end_line-clause-err g c =
    let p = err_from_is_err_and c.from_residual.result c.from_residual.ensures.1 in
    let more : behind 10 c.loop-rest.rest.now ≡ Some c.in-Some.more.now = sym c.cut_at.ensures.back ∙ ap (option_map (λ r. r.now)) c.in-Some.is in
    let stops = c.in_err-end_line.ensures.err in
    rw (p.1, p.2) (λ told tail. feed_fails c.in_err-end_line.field-0.0 (g.W.Write.contents c.args.out.now) (g.W.Write.contents c.loop-rest.out) (g.W.Write.contents c.end_line.new.out) (to_come (still c.args.said.now.replies (g.S.Session.transcript c.args.session.now)) c.args.line.now (c.args.piece.now ++ tail)) (to_come (still c.loop-rest.said.replies (g.S.Session.transcript c.loop-rest.session)) c.loop-rest.line (c.loop-rest.rest.now ++ tail))
    (line_fails (still c.loop-rest.said.replies (g.S.Session.transcript c.loop-rest.session)) (g.W.Write.contents c.loop-rest.out) (g.W.Write.contents c.end_line.new.out) c.loop-rest.line c.loop-rest.rest.now c.in-Some.more.now c.cut_at.result.0.now more c.cut_at.ensures.front c.in_err-end_line.field-0.0 (stops (c.loop-rest.invariant.2 told)) tail)
    (c.loop-rest.invariant.3 told tail))

pub loop-rest-smaller : goal.loop-rest-smaller
loop-rest-smaller g c =
    let more : behind 10 c.loop-rest.rest.now ≡ Some c.in-Some.more.now = sym c.cut_at.ensures.back ∙ ap (option_map (λ r. r.now)) c.in-Some.is in
    behind-shorter 10 c.loop-rest.rest.now c.in-Some.more.now more

pub loop-rest-preserved : goal.loop-rest-preserved
loop-rest-preserved g c =
    let more : behind 10 c.loop-rest.rest.now ≡ Some c.in-Some.more.now = sym c.cut_at.ensures.back ∙ ap (option_map (λ r. r.now)) c.in-Some.is in (
      c.in_ok-end_line.ensures.room,
      c.in_ok-end_line.ensures.none,
      λ told. c.end_line.ensures.determined (c.loop-rest.invariant.2 told),
      λ told tail. feed_step (g.W.Write.contents c.args.out.now) (g.W.Write.contents c.loop-rest.out) (g.W.Write.contents c.end_line.new.out) (to_come (still c.args.said.now.replies (g.S.Session.transcript c.args.session.now)) c.args.line.now (c.args.piece.now ++ tail)) (to_come (still c.loop-rest.said.replies (g.S.Session.transcript c.loop-rest.session)) c.loop-rest.line (c.loop-rest.rest.now ++ tail)) (to_come (still c.end_line.new.said.replies (g.S.Session.transcript c.end_line.new.session)) c.end_line.new.line (c.in-Some.more.now ++ tail))
          (line_ends (still c.loop-rest.said.replies (g.S.Session.transcript c.loop-rest.session)) (g.W.Write.contents c.loop-rest.out) (g.W.Write.contents c.end_line.new.out) c.loop-rest.line c.loop-rest.rest.now c.in-Some.more.now c.cut_at.result.0.now more c.cut_at.ensures.front (still c.end_line.new.said.replies (g.S.Session.transcript c.end_line.new.session)) c.end_line.new.line (c.in_ok-end_line.ensures.empty, c.in_ok-end_line.ensures.ok (c.loop-rest.invariant.2 told)) tail)
          (c.loop-rest.invariant.3 told tail),
    )

pub returns-clause-ok : goal.returns-clause-ok
returns-clause-ok g c =
    let none : c.loop-rest.rest.now ≡ [] = none-left c.loop-rest.rest.now (sym c.is_empty.ensures ∙ c.loop-rest-test.false) in
    λ told tail. subst (λ (l : List ℕ). Writes (g.W.Write.contents c.args.out.now) (to_come (still c.args.said.now.replies (g.S.Session.transcript c.args.session.now)) c.args.line.now (c.args.piece.now ++ tail)) (g.W.Write.contents c.loop-rest.out) (to_come (still c.loop-rest.said.replies (g.S.Session.transcript c.loop-rest.session)) c.loop-rest.line (l ++ tail))) none (c.loop-rest.invariant.3 told tail)
