use Rattle.std.proofs.Common.{subst, Option, ◌∙◌}
use Rattle.ioc_journal_audit.specs.declared.difference.Difference.{Difference}
use Rattle.ioc_journal_audit.specs.Audit.{ChecksNext}
use Rattle.ioc_journal_audit.proofs.journal.check_line.Goals as goal

pub returns-in-None : goal.returns-in-None
returns-in-None c = record {
  line = c.in-Ok.line;
  is_its = c.in-Ok.ensures.found;
  only = λ mark call answers entry same. c.in-Ok.ensures.only mark call answers entry (c.in-Ok.ensures.found ∙ same);
  checks = subst (λ (d : Option Difference). ChecksNext c.args.auditor.now c.in-Ok.line c.check.new.self d) c.in-None.is c.in_ok-check-in-Ok.ensures;
}

pub returns-in-Some : goal.returns-in-Some
returns-in-Some c = record {
  line = c.in-Ok.line;
  is_its = c.in-Ok.ensures.found;
  only = λ mark call answers entry same. c.in-Ok.ensures.only mark call answers entry (c.in-Ok.ensures.found ∙ same);
  checks = subst (λ (d : Option Difference). ChecksNext c.args.auditor.now c.in-Ok.line c.check.new.self d) c.in-Some.is c.in_ok-check-in-Ok.ensures;
}
