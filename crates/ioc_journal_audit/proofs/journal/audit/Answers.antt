use Rattle.std.proofs.Common.{◌+◌, ◌≤◌, subst, sym, ap, refl, ◌∙◌, arith}
use Rattle.ioc_journal_audit.specs.declared.journal.Step.{Step}
use Rattle.ioc_journal_audit.specs.Journal.{Steps}
use Rattle.ioc_journal_audit.proofs.Reading.{read_more, finds_end, finds_difference, finds_ended}
use Rattle.ioc_journal_audit.proofs.journal.audit.Goals as goal

pub returns-then-not-branch : goal.returns-then-not-branch
returns-then-not-branch g c =
    finds_end c.args.auditor.now c.loop-count.auditor (g.R.Read.remaining c.args.journal.now) (g.R.Read.remaining c.loop-count.journal) (g.R.Read.remaining c.next_line.new.journal) c.next_line.new.text.items
    c.in_ok-next_line.field-0 c.args.most c.loop-count.count c.loop-count.invariant.1 c.in_ok-next_line.ensures c.if-not-branch.true

pub returns-in-Differs : goal.returns-in-Differs
returns-in-Differs g c =
    finds_difference c.args.auditor.now c.loop-count.auditor c.check_line.new.auditor (g.R.Read.remaining c.args.journal.now) (g.R.Read.remaining c.loop-count.journal) (g.R.Read.remaining c.next_line.new.journal)
    c.next_line.new.text.items c.in_ok-next_line.field-0 c.loop-count.count _ c.in-Differs.difference c.loop-count.invariant.1 c.in_ok-next_line.ensures
    (rw c.as_slice.ensures.value at (subst (λ (s : Step). Steps c.loop-count.auditor c.as_slice.result.now c.check_line.new.auditor s) c.in-Differs.is c.in_ok-check_line.ensures)) (omega arith)

pub returns-in-NoEntry : goal.returns-in-NoEntry
returns-in-NoEntry g c =
    finds_ended c.args.auditor.now c.loop-count.auditor c.check_line.new.auditor (g.R.Read.remaining c.args.journal.now) (g.R.Read.remaining c.loop-count.journal) (g.R.Read.remaining c.next_line.new.journal) c.next_line.new.text.items
    c.in_ok-next_line.field-0 c.args.most c.loop-count.count c.ended.result c.loop-count.invariant.1 c.in_ok-next_line.ensures c.if-not-branch.false
    (rw c.as_slice.ensures.value at (subst (λ (s : Step). Steps c.loop-count.auditor c.as_slice.result.now c.check_line.new.auditor s) c.in-NoEntry.is c.in_ok-check_line.ensures))
    (rw c.as_slice-in-NoEntry.ensures.value at c.ended.ensures)

pub loop-count-preserved : goal.loop-count-preserved
loop-count-preserved g c = (
  omega (arith, c.loop-count-test.true),
  read_more c.args.auditor.now c.loop-count.auditor c.check_line.new.auditor (g.R.Read.remaining c.args.journal.now) (g.R.Read.remaining c.loop-count.journal) (g.R.Read.remaining c.next_line.new.journal)
      c.next_line.new.text.items c.in_ok-next_line.field-0 c.loop-count.count c.loop-count.invariant.1 c.in_ok-next_line.ensures
      (rw c.as_slice.ensures.value at (subst (λ (s : Step). Steps c.loop-count.auditor c.as_slice.result.now c.check_line.new.auditor s) c.in-Agrees.is c.in_ok-check_line.ensures)),
)
