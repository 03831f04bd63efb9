use Rattle.std.proofs.Common.{◌<◌, ℕ, length, ◌∙◌, subst, arith}
use Rattle.ioc_journaled_set.specs.Copies.{AreCopied}
use Rattle.ioc_journaled_set.specs.Holding.{HeldView}
use Rattle.ioc_journaled_set.proofs.Copied.{AreOfFirst, more_of, each_copied}
use Rattle.ioc_journaled_set.proofs.copying.copy_records.Goals as goal

pub loop-held-preserved : goal.loop-held-preserved
loop-held-preserved g c =
    let inv = c.loop-held.invariant in
    let within : c.loop-held.held-index < length c.args.sets.now = omega arith in
    let copied = subst (λ (h : HeldView g.row.K.Denot g.row.D.Denot). AreCopied h.set.records c.loop-held.copies.items c.copy_set.new.copies.items) c.held.view_is c.in_ok-copy_set.ensures.copied in
    record {
      count = c.copy_set.ensures.count ∙ inv.count;
      first = more_of (λ (h : HeldView g.row.K.Denot g.row.D.Denot). h.set.records) c.args.sets.now c.loop-held.held-index c.held-item.result within c.held-item.is c.loop-held.copies.items c.copy_set.new.copies.items c.copy_set.ensures.count copied inv.first;
    }

pub returns-clause-copies : goal.returns-clause-copies
returns-clause-copies g c =
    let records = λ (h : HeldView g.row.K.Denot g.row.D.Denot). h.set.records in
    let first = subst (λ (n : ℕ). AreOfFirst records c.args.sets.now n c.loop-held.copies.items) (omega arith) c.loop-held.invariant.first in
    record { of_set = first.of_set; each = each_copied records c.args.sets.now c.loop-held.copies.items first }
