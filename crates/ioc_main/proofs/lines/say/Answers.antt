use Rattle.std.proofs.Common.{List, ℕ, ap, length, subst, sym, take}
use Rattle.std.proofs.lemmas.Result.{err_from_is_err_and}
use Rattle.ioc_main.specs.Coming.{AnswersLine, still}
use Rattle.ioc_main.proofs.Feeding.{answered_on, answered_fails, gives_up, gives_up_midway}
use Rattle.ioc_main.proofs.lines.say.Goals as goal

pub returns-in_ok-make_room-in-Ok-clause-ok : goal.returns-in_ok-make_room-in-Ok-clause-ok
returns-in_ok-make_room-in-Ok-clause-ok g c =
    λ told.
    let still_told = c.answer.ensures.determined told in
    subst (λ (u : List (List ℕ) → List ℕ). AnswersLine (g.W.Write.contents c.args.out.now) (still c.args.said.now.replies (g.S.Session.transcript c.args.session.now)) c.args.line.now (g.W.Write.contents c.make_room.new.out) (still c.make_room.new.said.replies u))
    (sym (c.make_room.ensures.same still_told))
    (answered_on c.args.said.now.replies (g.S.Session.transcript c.args.session.now) _ _ (g.S.Session.transcript c.answer.new.self) c.args.line.now c.answer.new.said.replies c.answer.new.said.more.items c.make_room.new.said.replies (c.in-Ok.ensures.ok told) (c.in_ok-make_room-in-Ok.ensures.ok still_told))

pub returns-in_err-make_room-in-Ok-clause-err : goal.returns-in_err-make_room-in-Ok-clause-err
returns-in_err-make_room-in-Ok-clause-err g c =
    let p = err_from_is_err_and c.from_residual.result c.from_residual.ensures.1 in
    rw (p.1, p.2) (λ told. answered_fails c.args.said.now.replies (g.S.Session.transcript c.args.session.now) _ _ (g.S.Session.transcript c.answer.new.self) c.args.line.now c.answer.new.said.replies c.answer.new.said.more.items (c.in-Ok.ensures.ok told) (c.in_err-make_room-in-Ok.ensures.err (c.answer.ensures.determined told)))

pub returns-in_ok-write_text-in-Err-clause-err : goal.returns-in_ok-write_text-in-Err-clause-err
returns-in_ok-write_text-in-Err-clause-err g c =
    λ _. gives_up c.args.said.now.replies (g.S.Session.transcript c.args.session.now) _ _ c.args.line.now c.answer.new.said.replies (take (length c.as_slice-before.result.now) c.as_slice.result.now) (length c.as_slice-before.result.now) (ap (λ (l : List ℕ). length l) c.as_slice-before.ensures.value) c.in-Err.ensures.err (ap (λ (l : List ℕ). take (length c.as_slice-before.result.now) l) c.as_slice.ensures.value) c.in_ok-write_text-in-Err.ensures.ok

pub returns-in_err-write_text-in-Err-clause-err : goal.returns-in_err-write_text-in-Err-clause-err
returns-in_err-write_text-in-Err-clause-err g c =
    let p = err_from_is_err_and c.from_residual-in_err-write_text-in-Err.result c.from_residual-in_err-write_text-in-Err.ensures.1 in
    rw (p.1, p.2) (λ _. gives_up_midway c.args.said.now.replies (g.S.Session.transcript c.args.session.now) _ _ c.args.line.now c.answer.new.said.replies (take (length c.as_slice-before.result.now) c.as_slice.result.now) (length c.as_slice-before.result.now) (ap (λ (l : List ℕ). length l) c.as_slice-before.ensures.value) c.in-Err.ensures.err (ap (λ (l : List ℕ). take (length c.as_slice-before.result.now) l) c.as_slice.ensures.value) c.in_err-write_text-in-Err.ensures.err)
