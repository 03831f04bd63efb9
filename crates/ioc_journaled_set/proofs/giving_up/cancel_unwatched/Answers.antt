use Rattle.std.proofs.Common.{◌<◌, List, Option, refl, sym, ap, ◌∙◌, subst, length, get_or, arith}
use Rattle.std.specs.Option.{IfSome}
use Rattle.crossbeam_utils.specs.Seq.{cell_view}
use Rattle.ioc_journal.specs.declared.cell.View.{View}
use Rattle.ioc_notify.specs.Counts.{holders_in}
use Rattle.ioc_set.specs.SetState.{SetState}
use Rattle.ioc_journaled_set.specs.GiveUpLaws.{GivesUp}
use Rattle.ioc_journaled_set.specs.Holding.{HeldView}
use Rattle.ioc_journaled_set.specs.Puts.{PutsView, puts_view}
use Rattle.ioc_journaled_set.specs.GivingUp.{HeldGaveUp, AreSameSets, sets_of}
use Rattle.ioc_journal.specs.Account.{Pass}
use Rattle.ioc_journaled_set.proofs.Kept.{none_gives, pass_exchanged, one_canceled}
use Rattle.ioc_journaled_set.proofs.GivingUp.{set_at, sets_long, own_sets, on_err_always, line_has, line_other}
use Rattle.ioc_journaled_set.proofs.giving_up.cancel_unwatched.Goals as goal

pub returns-in-Ok-Some-clause-gave_up : goal.returns-in-Ok-Some-clause-gave_up
returns-in-Ok-Some-clause-gave_up g c =
    let k = g.K.RecordKind.rules in
    let base = g.B.JournalName.base in
    let held = c.args.held.now in
    let then = c.give_up_lent-given.new.held in
    let number = c.args.number in
    let moment = c.args.moment in
    let total = c.holders-total.result in
    let table = c.all.inside.table.live in
    let sets = c.in_ok-lent.ensures.sets in
    let one = subst (λ (o : Option _). IfSome o (λ _. HeldGaveUp k base c.args.access.now.history c.args.moment number c.args.desk.now c.in_ok-lent.lent.sets.items (cell_view c.lend_all.new.keeper) c.give_up_lent-given.new.desk then (cell_view c.give_up_lent-given.new.keeper)))
    c.in-Ok-Some.field-0-is c.in-Ok-Some.ensures.gave_up in
    let gu = subst (λ (l : List (SetState g.row.K.Denot g.row.D.Denot)). HeldGaveUp k base c.args.access.now.history c.args.moment number c.args.desk.now l (cell_view c.lend_all.new.keeper) c.give_up_lent-given.new.desk then (cell_view c.give_up_lent-given.new.keeper)) sets one in
    let was = ap (λ (v : PutsView). v.live) c.all.view_is in
    let tells = c.holders-total.ensures ∙ c.lines_tell_holders.ensures.holders table number (c.is_table.ensures.once number) in
    record {
      gives_up = λ i d e lt.
          let here : i < length (sets_of held) = let many = sets_long held in omega (arith, lt, many) in
          subst (λ (h : SetState g.row.K.Denot g.row.D.Denot). GivesUp k c.args.access.now.history moment number h (get_or then i e).set) (set_at held i d d.set lt) (gu.gives_up i d.set e here);
      call = gu.call;
      seen = gu.seen;
      puts_seen = ap (λ (v : View). v.seen) gu.keeps;
      last = ap (λ (v : PutsView). v.last) c.all.view_is;
      taken = ap (λ (v : PutsView). v.taken) c.all.view_is;
      none_ended = gu.none_ended;
      nobody = let counts = c.take_off.ensures.counts number in let line = line_has number total in omega (arith, counts, line, tells);
      others = λ other apart. let counts = c.take_off.ensures.counts other in let line = line_other number other total apart in let same = ap (λ (l : List _). holders_in other l) was in omega (arith, counts, line, same);
    }

pub invariant_of-all-in-Ok-Some : goal.invariant_of-all-in-Ok-Some
invariant_of-all-in-Ok-Some g c =
    let k = g.K.RecordKind.rules in
    let base = g.B.JournalName.base in
    let held = c.args.held.now in
    let then = c.give_up_lent-given.new.held in
    let number = c.args.number in
    let total = c.holders-total.result in
    let table = c.all.inside.table.live in
    let one = subst (λ (o : Option _). IfSome o (λ _. HeldGaveUp k base c.args.access.now.history c.args.moment number c.args.desk.now c.in_ok-lent.lent.sets.items (cell_view c.lend_all.new.keeper) c.give_up_lent-given.new.desk then (cell_view c.give_up_lent-given.new.keeper)))
    c.in-Ok-Some.field-0-is c.in-Ok-Some.ensures.gave_up in
    let keeper = c.lend_all.ensures.keeper in
    let gu = subst (λ (v : View). HeldGaveUp k base c.args.access.now.history c.args.moment number c.args.desk.now c.in_ok-lent.lent.sets.items v c.give_up_lent-given.new.desk then (cell_view c.give_up_lent-given.new.keeper)) keeper.1 one in
    let tells = c.holders-total.ensures ∙ c.lines_tell_holders.ensures.holders table number (c.is_table.ensures.once number) in
    one_canceled k base g.B.CellName.table c.all.inside.pass c.give_up_lent-given.new.keeper c.all.inside.table c.all.inside.places c.all.inside.last c.all.invariant c.take_off.new.self c.give_up_lent-given.new.desk.seen number total
    c.lines_tell_holders.ensures.held c.is_table.ensures c.is_table-in-Ok-Some.ensures c.take_off.ensures.counts tells c.give_up_lent-given.ensures.table gu.keeps gu.none_began gu.nobody gu.others c.take_off.ensures.fewer c.take_off.ensures.room

pub invariant_of-all-in-Ok-None : goal.invariant_of-all-in-Ok-None
invariant_of-all-in-Ok-None g c =
    let none = none_gives c.in-Ok-None.field-0 c.in-Ok-None.field-0-is c.in-Ok-None.ensures.missing in
    let keeper = c.lend_all.ensures.keeper in
    pass_exchanged g.K.RecordKind.rules g.B.JournalName.base g.B.CellName.table c.all.inside.pass c.give_up_lent-given.new.keeper c.all.inside.table c.all.inside.places c.all.inside.last c.all.invariant
    (ap (λ (p : Pass). p.table_id) none.1 ∙ keeper.0) (ap (λ (p : Pass). cell_view {V = View} p) none.1 ∙ keeper.1)

pub invariant_of-all-in-Err : goal.invariant_of-all-in-Err
invariant_of-all-in-Err g c =
    let refused = c.in-Err.ensures.err in
    let keeper = c.lend_all.ensures.keeper in
    pass_exchanged g.K.RecordKind.rules g.B.JournalName.base g.B.CellName.table c.all.inside.pass c.give_up_lent-given.new.keeper c.all.inside.table c.all.inside.places c.all.inside.last c.all.invariant
    (ap (λ (p : Pass). p.table_id) refused.1 ∙ keeper.0) (ap (λ (p : Pass). cell_view {V = View} p) refused.1 ∙ keeper.1)

pub invariant_of-all : goal.invariant_of-all
invariant_of-all g c =
    let keeper = c.lend_all.ensures.keeper in
    pass_exchanged g.K.RecordKind.rules g.B.JournalName.base g.B.CellName.table c.all.inside.pass c.lend_all.new.keeper c.all.inside.table c.all.inside.places c.all.inside.last c.all.invariant keeper.0 keeper.1

pub returns-in_err-lent-clause-err : goal.returns-in_err-lent-clause-err
returns-in_err-lent-clause-err g c =
    let same = c.in_err-lent.ensures.err in
    on_err_always c.from_residual.result (
      subst (λ (hs : List (HeldView g.row.K.Denot g.row.D.Denot)). AreSameSets (sets_of c.args.held.now) hs) (sym same.0) (own_sets c.args.held.now),
      ap (λ (p : Pass). puts_view c.all.inside.table.live c.all.inside.places.taken c.all.inside.last (cell_view {V = View} p).seen) same.1 ∙ c.all.view_is,
      refl,
    )
