use Rattle.std.proofs.Common.{List, ap, ◌∙◌}
use Rattle.ioc_journaled_set.specs.Holding.{HeldView}
use Rattle.ioc_engine_core.specs.Ended.{counts_in}
use Rattle.ioc_engine_core.proofs.report.CoreReport.tally.Goals as goal

pub returns : goal.returns
returns g c = c.counts_of.ensures ∙ ap (λ (l : List (HeldView g.row.K.Denot g.row.D.Denot)). counts_in l) c.as_slice.ensures.value
