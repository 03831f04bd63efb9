use Rattle.std.proofs.lemmas.Result.{err_from_is_err_and}
use Rattle.ioc_main.proofs.WrittenLemmas.{writes_rest, writes_no_rest}
use Rattle.ioc_main.proofs.lines.finish.Goals as goal

pub returns-clause-ok : goal.returns-clause-ok
returns-clause-ok g c = λ told. writes_rest _ _ _ _ _ _ c.in_ok-answer_rest.ensures.none (c.in_ok-answer_rest.ensures.ok told) (c.in_ok-write_said.ensures.ok (c.answer_rest.ensures.determined told))

pub returns-in_err-write_said-clause-err : goal.returns-in_err-write_said-clause-err
returns-in_err-write_said-clause-err g c =
    let p = err_from_is_err_and c.from_residual-in_err-write_said.result c.from_residual-in_err-write_said.ensures.1 in
    rw (p.1, p.2) (λ told. writes_no_rest _ _ _ _ _ _ c.in_ok-answer_rest.ensures.none (c.in_ok-answer_rest.ensures.ok told) (c.in_err-write_said.ensures.err (c.answer_rest.ensures.determined told)))
