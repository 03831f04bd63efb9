use Rattle.std.proofs.Common.{◌<◌, ◌∙◌, length, get_or, subst, arith}
use Rattle.ioc_journal.specs.declared.entry.Note.{Note}
use Rattle.ioc_journal.specs.Legal.{map_of}
use Rattle.ioc_journal.specs.Places.{JournalOf}
use Rattle.ioc_journaled_set.specs.Copies.{IsIn}
use Rattle.ioc_journaled_set.specs.Holding.{HeldView}
use Rattle.ioc_journaled_set.proofs.Replaced.{one_replaced, all_replaced, all_held}
use Rattle.ioc_journaled_set.proofs.checkpoint.move_all_on.Goals as goal

pub loop-place-preserved : goal.loop-place-preserved
loop-place-preserved g c =
    let k = g.K.RecordKind.rules in
    let base = g.B.JournalName.base in
    let inv = c.loop-place.invariant in
    let within : c.loop-place.place < length c.loop-place.sets = omega arith in
    record {
      moved = one_replaced (λ (h : HeldView g.row.K.Denot g.row.D.Denot). h.set) (λ (h : HeldView g.row.K.Denot g.row.D.Denot). h.set) (IsIn (map_of k base c.args.journal.now.filled)) c.args.sets.now
          c.loop-place.place c.loop-place.sets c.index-sets-place.result c.move_on.new.self within c.move_on.ensures.set
          (subst (λ (j : JournalOf Note). IsIn (map_of k base j.filled) (get_or c.loop-place.sets c.loop-place.place c.index-sets-place.result)) inv.journal c.move_on.ensures.is_in) inv.moved;
      journal = c.move_on.ensures.journal ∙ inv.journal;
    }

pub returns-clause-sets : goal.returns-clause-sets
returns-clause-sets g c =
    all_replaced (λ (h : HeldView g.row.K.Denot g.row.D.Denot). h.set) (λ (h : HeldView g.row.K.Denot g.row.D.Denot). h.set) (IsIn (map_of g.K.RecordKind.rules g.B.JournalName.base c.args.journal.now.filled)) c.args.sets.now
    c.loop-place.place c.loop-place.sets c.loop-place.invariant.moved (omega arith)

pub returns-clause-are_in : goal.returns-clause-are_in
returns-clause-are_in g c =
    all_held (λ (h : HeldView g.row.K.Denot g.row.D.Denot). h.set) (λ (h : HeldView g.row.K.Denot g.row.D.Denot). h.set) (IsIn (map_of g.K.RecordKind.rules g.B.JournalName.base c.args.journal.now.filled)) c.args.sets.now
    c.loop-place.place c.loop-place.sets c.loop-place.invariant.moved (omega arith)
