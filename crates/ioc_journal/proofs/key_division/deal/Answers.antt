use Rattle.std.proofs.Common.{List, ◌++◌, sym, ap, ap₂, ◌∙◌, subst}
use Rattle.crossbeam_utils.specs.Seq.{cell_view}
use Rattle.ioc_journal.specs.declared.cell.View.{View}
use Rattle.ioc_journal.specs.Key.{Key, Has}
use Rattle.ioc_journal.specs.Line.{Continues}
use Rattle.ioc_journal.proofs.key_division.deal.Goals as goal

pub part-requires-clause-within : goal.part-requires-clause-within
part-requires-clause-within g c = λ k has.
    let one = ap (λ (v : View). v.owns) c.take_in.ensures.kept.1 ∙ ap₂ (λ (x y : List Key). x ++ y) (ap (λ (v : View). v.owns) c.requires.keeper) (ap (λ (v : View). v.owns) c.whole-one.ensures.given.2) in
    let two = ap (λ (v : View). v.owns) c.take_in-2.ensures.kept.1 ∙ ap₂ (λ (x y : List Key). x ++ y) one (ap (λ (v : View). v.owns) c.whole-other.ensures.given.2) in
    let all = ap (λ (v : View). v.owns) c.take_in-3.ensures.kept.1 ∙ ap₂ (λ (x y : List Key). x ++ y) two (ap (λ (v : View). v.owns) (c.whole-own.ensures.given.2 ∙ c.requires.desk)) in
    subst (Has k) (sym (ap (λ (v : View). v.owns) c.note_down.ensures.1 ∙ all)) (c.requires.within k has)

pub returns-clause-goes_on : goal.returns-clause-goes_on
returns-clause-goes_on g c =
    let s1 = ap (λ (v : View). v.seen) c.take_in.ensures.kept.1 in
    let s2 = ap (λ (v : View). v.seen) c.take_in-2.ensures.kept.1 ∙ s1 in (
      subst (λ (v : View). Continues v.seen v.owns (cell_view c.args.master.now).seen) c.whole-one.ensures.given.2 c.take_in.ensures.goes_on,
      subst (λ l. Continues (cell_view c.args.b.now).seen (cell_view c.args.b.now).owns l) s1 (subst (λ (v : View). Continues v.seen v.owns (cell_view c.take_in.new.master).seen) c.whole-other.ensures.given.2 c.take_in-2.ensures.goes_on),
      subst (λ l. Continues (cell_view c.args.desk.now).seen g.L.Keys.rest l) s2 (subst (λ (v : View). Continues v.seen v.owns (cell_view c.take_in-2.new.master).seen) (c.whole-own.ensures.given.2 ∙ c.requires.desk) c.take_in-3.ensures.goes_on),
    )

pub returns-clause-born : goal.returns-clause-born
returns-clause-born g c = λ k has.
    let one = ap (λ (v : View). v.born) c.take_in.ensures.kept.1 in
    let two = ap (λ (v : View). v.born) c.take_in-2.ensures.kept.1 ∙ one in
    subst (Has k) two (c.take_in-3.ensures.born k (subst (λ (v : View). Has k v.owns) (sym (c.whole-own.ensures.given.2 ∙ c.requires.desk)) has))
