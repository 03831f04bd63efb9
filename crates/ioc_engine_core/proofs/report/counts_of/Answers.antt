use Rattle.std.proofs.Common.{◌≡◌, ◌∙◌, List, [], drop, sym, ap}
use Rattle.std.proofs.Math.ListN.{drop_of_length-le}
use Rattle.ioc_journaled_set.specs.Holding.{HeldView}
use Rattle.ioc_engine_core.proofs.Counts.{counted_with, counted_all}
use Rattle.ioc_engine_core.proofs.report.counts_of.Goals as goal

pub returns : goal.returns
returns g c =
    let sets = c.args.sets.now in
    let none : drop c.loop-held.held-index sets ≡ [] = drop_of_length-le sets c.loop-held-test.false in
    ap (λ (l : List (HeldView g.row.K.Denot g.row.D.Denot)). counted_with c.loop-held.tally l) (sym none) ∙ c.loop-held.invariant ∙ counted_all sets
