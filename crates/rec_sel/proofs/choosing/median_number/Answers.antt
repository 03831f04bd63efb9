use Rattle.std.proofs.Common.{sym, ◌∙◌}
use Rattle.rec_sel.specs.Choosing.{is_after}
use Rattle.rec_sel.proofs.First.{first_passed}
use Rattle.rec_sel.proofs.choosing.median_number.Goals as goal

pub loop-number-preserved : goal.loop-number-preserved
loop-number-preserved c =
    sym (first_passed (is_after c.args.values.now _) c.loop-number.number c.loop-number-test.true
    (sym c.is_after.ensures ∙ c.if-is_after.false))
    ∙ c.loop-number.invariant
