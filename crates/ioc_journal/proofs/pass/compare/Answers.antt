use Rattle.std.proofs.Common.{List, ◌++◌, sym, ap, ap₂, ◌∙◌, subst}
use Rattle.crossbeam_utils.specs.Seq.{cell_view}
use Rattle.ioc_journal.specs.declared.cell.View.{View}
use Rattle.ioc_journal.specs.Key.{Key, Has}
use Rattle.ioc_journal.specs.Line.{Continues}
use Rattle.ioc_journal.proofs.pass.compare.Goals as goal

pub part-requires-clause-apart : goal.part-requires-clause-apart
part-requires-clause-apart g c = λ k x y.
    let theirs = c.whole-theirs.ensures.given.2 ∙ c.requires.a in
    let own = c.whole-own.ensures.given.2 ∙ c.requires.b in
    let one = ap (λ (v : View). v.owns) c.take_in.ensures.kept.1 ∙ ap₂ (λ (x y : List Key). x ++ y) (ap (λ (v : View). v.owns) c.requires.keeper) (ap (λ (v : View). v.owns) theirs) in
    c.take_in-2.ensures.apart k (subst (Has k) (sym one) x) (subst (λ (v : View). Has k v.owns) (sym own) y)

pub returns-clause-apart : goal.returns-clause-apart
returns-clause-apart g c = λ k x y.
    let theirs = c.whole-theirs.ensures.given.2 ∙ c.requires.a in
    let own = c.whole-own.ensures.given.2 ∙ c.requires.b in
    let one = ap (λ (v : View). v.owns) c.take_in.ensures.kept.1 ∙ ap₂ (λ (x y : List Key). x ++ y) (ap (λ (v : View). v.owns) c.requires.keeper) (ap (λ (v : View). v.owns) theirs) in
    c.take_in-2.ensures.apart k (subst (Has k) (sym one) x) (subst (λ (v : View). Has k v.owns) (sym own) y)

pub returns-clause-goes_on : goal.returns-clause-goes_on
returns-clause-goes_on g c =
    let log = (cell_view c.args.master.now).seen in
    let one = subst (λ (v : View). Continues v.seen v.owns log) (c.whole-theirs.ensures.given.2 ∙ c.requires.a) c.take_in.ensures.goes_on in
    let other = subst (λ (v : View). Continues v.seen v.owns (cell_view c.take_in.new.master).seen) (c.whole-own.ensures.given.2 ∙ c.requires.b) c.take_in-2.ensures.goes_on in
    (one, subst (λ (v : View). Continues (cell_view c.args.b.now).seen g.K.Keys.rest v.seen) c.take_in.ensures.kept.1 other)
