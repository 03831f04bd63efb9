use Rattle.std.proofs.Common.{ℕ, [], ◌++◌, refl, sym, subst, Option}
use Rattle.std.specs.List.{cons_option}
use Rattle.ioc_journal_audit.specs.declared.difference.Difference.{Difference}
use Rattle.ioc_journal_audit.specs.Audit.{HasNextNumbers, IsNext, Compares}
use Rattle.ioc_journal_audit.specs.Numbers.{AreBegun}
use Rattle.ioc_journal_audit.proofs.Checking.{audited-more, audited-numbers, audited-agrees}
use Rattle.ioc_journal_audit.proofs.auditor.Auditor.check.Goals as goal

pub returns-in-Some : goal.returns-in-Some
returns-in-Some c = λ start first last lines more audited legal.
    c.in-Some.ensures (subst (λ (o : Option ℕ). HasNextNumbers c.args.self.now c.args.line.mark o) (sym c.number_begun-begins.ensures) (audited-numbers start first last lines more c.args.line c.args.self.now audited legal))

pub returns-in-Some-2 : goal.returns-in-Some-2
returns-in-Some-2 c = λ start first last lines more audited legal.
    subst (λ (d : Option Difference). Compares c.args.self.now c.args.line c.compare.new.self d) c.in-Some-2.is c.in_ok-difference.ensures
    (audited-agrees c.rules_are_calls.ensures.alone c.replays_lead_to_one.ensures start first last lines more c.args.line c.args.self.now audited legal)

pub returns : goal.returns
returns c = λ start first lines audited.
    audited-more c.rules_are_calls.ensures.allowed start first lines c.args.line c.args.self.now c.compare.new.self _
    (subst (λ (o : Option ℕ). HasNextNumbers c.args.self.now c.args.line.mark o) c.number_begun-begins.ensures
    (subst (λ (d : Option Difference). IsNext c.args.self.now c.args.line.mark c.number_begun-begins.result d) c.in_default.is c.misnumbered.ensures))
    (subst (λ (d : Option Difference). Compares c.args.self.now c.args.line c.compare.new.self d) c.in_default-2.is c.in_ok-difference.ensures)
    refl refl c.in_ok-count.ensures
    (λ numbers are. subst (λ (o : Option ℕ). AreBegun c.add.new.self (numbers ++ cons_option o [])) c.number_begun-begins.ensures (c.in_ok-add.ensures numbers are))
    audited
