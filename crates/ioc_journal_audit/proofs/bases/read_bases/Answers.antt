use Rattle.std.proofs.Common.{List, subst, sym}
use Rattle.std.specs.Prelude.{IfSome}
use Rattle.ioc_saved.specs.declared.value.SavedValue.{SavedValue}
use Rattle.ioc_journal_audit.specs.declared.bases.NextBase.{NextBase}
use Rattle.ioc_journal_audit.specs.Bases.{TakesBase}
use Rattle.ioc_journal_audit.proofs.Basing.{BasesSoFar, one_more_base, all_bases}
use Rattle.ioc_journal_audit.proofs.bases.read_bases.Goals as goal

pub returns-in-Broken : goal.returns-in-Broken
returns-in-Broken g c =
    all_bases (g.R.Read.remaining c.args.journal.now) (g.R.Read.remaining c.loop.journal) c.loop.values.items c.loop.invariant
    (subst (λ (x : NextBase). IfSome (g.R.Read.remaining c.loop.journal) (λ rest. TakesBase rest x (g.R.Read.remaining c.next_base.new.journal))) c.in-Broken.is c.in_ok-saved.ensures)

pub returns-in-Other : goal.returns-in-Other
returns-in-Other g c =
    all_bases (g.R.Read.remaining c.args.journal.now) (g.R.Read.remaining c.loop.journal) c.loop.values.items c.loop.invariant
    (subst (λ (x : NextBase). IfSome (g.R.Read.remaining c.loop.journal) (λ rest. TakesBase rest x (g.R.Read.remaining c.next_base.new.journal))) c.in-Other.is c.in_ok-saved.ensures)

pub loop-preserved : goal.loop-preserved
loop-preserved g c =
    subst (λ (values : List SavedValue). BasesSoFar (g.R.Read.remaining c.args.journal.now) (g.R.Read.remaining c.next_base.new.journal) values) (sym c.in_ok-add_value-in-Value.ensures)
    (one_more_base (g.R.Read.remaining c.args.journal.now) (g.R.Read.remaining c.loop.journal) (g.R.Read.remaining c.next_base.new.journal) c.loop.values.items c.in-Value.saved c.loop.invariant
    (subst (λ (x : NextBase). IfSome (g.R.Read.remaining c.loop.journal) (λ rest. TakesBase rest x (g.R.Read.remaining c.next_base.new.journal))) c.in-Value.is c.in_ok-saved.ensures))
