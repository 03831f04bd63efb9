use Rattle.std.proofs.Common.{List, ◌++◌, ap, ap₂, ◌∙◌, sym, subst}
use Rattle.crossbeam_utils.specs.Seq.{cell_view}
use Rattle.ioc_journal.specs.declared.cell.View.{View}
use Rattle.ioc_journal.specs.Key.{Key, Has}
use Rattle.ioc_journal.specs.Line.{Continues}
use Rattle.ioc_journal.proofs.key_division.take_over.Goals as goal

pub returns-clause-goes_on : goal.returns-clause-goes_on
returns-clause-goes_on g c =
    let log = (cell_view c.args.master.now).seen in
    let own = subst (λ (v : View). Continues v.seen v.owns log) c.whole-own.ensures.given.2 c.take_in.ensures.goes_on in
    let theirs = subst (λ (v : View). Continues v.seen v.owns (cell_view c.take_in.new.master).seen) c.whole-theirs.ensures.given.2 c.take_in-2.ensures.goes_on in
    (own, subst (λ (v : View). Continues (cell_view c.args.other.now).seen (cell_view c.args.other.now).owns v.seen) c.take_in.ensures.kept.1 theirs)

pub returns-clause-apart : goal.returns-clause-apart
returns-clause-apart g c = λ k x y.
    let one = ap (λ (v : View). v.owns) c.take_in.ensures.kept.1 ∙ ap₂ (λ (x y : List Key). x ++ y) (ap (λ (v : View). v.owns) c.requires.keeper) (ap (λ (v : View). v.owns) c.whole-own.ensures.given.2) in
    c.take_in-2.ensures.apart k (subst (Has k) (sym one) x) (subst (λ (v : View). Has k v.owns) (sym c.whole-theirs.ensures.given.2) y)
