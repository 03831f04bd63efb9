use Rattle.std.proofs.lemmas.Result.{err_from_is_err_and}
use Rattle.ioc_journal_file.proofs.Lines.{read_as, only_memory, not_refused}
use Rattle.ioc_journal_file.proofs.line.parse.Goals as goal

pub returns-in_err-read-clause-only : goal.returns-in_err-read-clause-only
returns-in_err-read-clause-only c = λ mark call answers h is.
    let p = err_from_is_err_and c.from_residual.result c.from_residual.ensures.1 in
    rw (p.1, p.2) (only_memory c.in_err-read.field-0.0 c.args.line.now mark call answers h is c.in_err-read.ensures)

pub returns-then-not-branch-clause-only : goal.returns-then-not-branch-clause-only
returns-then-not-branch-clause-only c = λ mark call answers h is.
    let read = c.in_ok-read.read in
    not_refused c.in_ok-is_line_of.field-0 c.args.line.now read.mark mark read.call call read.answers.items answers h is c.in_ok-read.ensures c.in_ok-is_line_of.ensures c.if-not-branch.true

pub returns-clause-only : goal.returns-clause-only
returns-clause-only c = λ mark call answers h is.
    let read = c.in_ok-read.read in read_as c.args.line.now read.mark mark read.call call read.answers.items answers h is c.in_ok-read.ensures
