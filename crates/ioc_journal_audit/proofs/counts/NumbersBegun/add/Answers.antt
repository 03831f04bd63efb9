use Rattle.std.proofs.Common.{◌≡◌, ℕ, ◌∷◌, ◌++◌, List, [], sym, subst, ap}
use Rattle.std.specs.Prelude.{OnOk}
use Rattle.std.specs.List.{cons_option}
use Rattle.ioc_journal_audit.specs.Numbers.{AreBegun}
use Rattle.ioc_journal_audit.proofs.Begun.{begun-same}
use Rattle.ioc_journal_audit.proofs.counts.NumbersBegun.add.Goals as goal

pub returns-in-Some : goal.returns-in-Some
returns-in-Some c =
    let one : c.in-Some.number ∷ [] ≡ cons_option c.args.begins [] = sym (ap (λ o. cons_option o []) c.in-Some.is) in
    subst (λ (l : List ℕ). OnOk c.insert.result ((numbers : List ℕ) → AreBegun c.args.self.now numbers → AreBegun c.insert.new.self (numbers ++ l))) one c.insert.ensures

pub returns-in-None : goal.returns-in-None
returns-in-None c = begun-same c.args.begins c.args.self.now c.in-None.is
