use Rattle.std.proofs.Common.{sym, ◌∙◌, subst, ⊎_elim}
use Rattle.crossbeam_utils.specs.Seq.{cell_view}
use Rattle.ioc_journal.specs.declared.cell.View.{View}
use Rattle.ioc_journal.specs.Key.{Has}
use Rattle.ioc_journal.specs.Line.{Continues}
use Rattle.ioc_journal.specs.KeyLaws.{has_either}
use Rattle.ioc_journal.proofs.pass.append.Goals as goal

pub returns-clause-goes_on : goal.returns-clause-goes_on
returns-clause-goes_on g c =
    let log = (cell_view c.args.master.now).seen in
    let one = subst (λ (v : View). Continues v.seen v.owns log) (c.whole-theirs.ensures.given.2 ∙ c.requires.set) c.take_in.ensures.goes_on in
    let other = subst (λ (v : View). Continues v.seen v.owns (cell_view c.take_in.new.master).seen) (c.whole-own.ensures.given.2 ∙ c.requires.desk) c.take_in-2.ensures.goes_on in
    (one, subst (λ (v : View). Continues (cell_view c.args.desk.now).seen g.K.Keys.rest v.seen) c.take_in.ensures.kept.1 other)

pub returns-clause-born : goal.returns-clause-born
returns-clause-born g c = λ k has.
    let one = c.whole-theirs.ensures.given.2 ∙ c.requires.set in
    let other = c.whole-own.ensures.given.2 ∙ c.requires.desk in
    ⊎_elim
    (λ (a : Has k g.K.Keys.keys). c.take_in.ensures.born k (subst (λ (v : View). Has k v.owns) (sym one) a))
    (λ (b : Has k g.K.Keys.rest). subst (λ (v : View). Has k v.born) c.take_in.ensures.kept.1 (c.take_in-2.ensures.born k (subst (λ (v : View). Has k v.owns) (sym other) b)))
    (has_either k g.K.Keys.keys g.K.Keys.rest has)
